use Rattle.std.proofs.Common.{rules}
use Rattle.lks_choice.specs.Lists.{list_after}
use Rattle.lks_choice.proofs.Members.{IsReferenceList-after}
use Rattle.lks_choice.proofs.references.References.after_poll.Goals as goal

pub returns-clause-law : goal.returns-clause-law
unfolding list_after
returns-clause-law c =
    IsReferenceList-after c.args.self.now.own _ c.args.self.now.list c.args.against.now c.args.joining.now
    c.args.picked.now _ (search rules) (search rules)
