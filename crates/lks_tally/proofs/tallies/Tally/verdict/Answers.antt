use Rattle.std.proofs.Common.{◌*◌, length, ap, ◌∙◌, arith}
use Rattle.lks_tally.proofs.RowLaws.{rows_length}
use Rattle.lks_tally.proofs.tallies.Tally.verdict.Goals as goal

pub invariant_of-self : goal.invariant_of-self
invariant_of-self g c =
    let count = ap (λ t. t.ballot.count) c.self.view_is in
    let kept = c.first_of_rows.new.rows.count in (
      omega (arith, count, c.requires.count),
      ap length c.first_of_rows.ensures.cache
          ∙ rows_length c.self.inside.ballot (g.C.Contents.blocks c.args.c.now) c.deref.result.now kept
          ∙ ap (λ vs. kept * length vs) c.deref.ensures.value,
    )
