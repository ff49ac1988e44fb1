use Rattle.std.proofs.Common.{◌≡◌, ◌+◌, ap, subst, ◌∙◌, min, IfOk, arith}
use Rattle.std.proofs.lemmas.Grind.{common_steps}
use Rattle.lks_tally.proofs.Steps.{holders_linked}
use Rattle.lks_tally.proofs.plain.for_of.Goals as goal

pub returns-clause-voters : goal.returns-clause-voters
returns-clause-voters g c =
    let blocks = g.C.Contents.blocks c.args.copy.now in
    let same : c.deref.result.now ≡ c.link_blocks.new.keys = grind (arith, common_steps) in
    let found = holders_linked c.args.ballot.now c.args.votes.now blocks c.args.b _ c.deref.result.now
    c.link_blocks.new.keys
    (c.end_of-end.ensures ∙ ap (min (c.args.b + 1)) c.count.ensures) c.link_blocks.ensures.heads same in
    subst (λ ids. IfOk c.voters_of_holders.result (λ found. found ≡ ids)) found c.voters_of_holders.ensures
