use Rattle.std.proofs.Common.{arith}
use Rattle.std.proofs.lemmas.Grind.{common_steps}
use Rattle.lks_draw.specs.Picks.{picked_members}
use Rattle.lks_draw.proofs.Picking.{IsPickOf-by_key}
use Rattle.lks_draw.proofs.draws.Draws.pick.Goals as goal

pub returns-then-list-n-clause-law : goal.returns-then-list-n-clause-law
unfolding picked_members
returns-then-list-n-clause-law c =
    IsPickOf-by_key c.args.self.now.key c.args.self.now.place _ _ _ (grind (arith, common_steps))

pub returns-clause-law : goal.returns-clause-law
unfolding picked_members
returns-clause-law c = IsPickOf-by_key c.args.self.now.key c.args.self.now.place _ _ _ (grind (arith, common_steps))
