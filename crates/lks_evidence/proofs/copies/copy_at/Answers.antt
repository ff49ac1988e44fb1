use Rattle.std.proofs.Common.{◌∙◌, ◌+◌, ap, sym, take, drop}
use Rattle.lks_evidence.proofs.Counts.{drop_next}
use Rattle.lks_law.specs.Journal.{replacements, replaced_by}
use Rattle.lks_evidence.proofs.copies.copy_at.Goals as goal

pub loop-r-preserved : goal.loop-r-preserved
loop-r-preserved c =
    c.in_ok-left.ensures (drop (c.loop-r.r-index + 1) c.args.journal.now)
    ∙ ap (λ rs. replaced_by c.loop-r.blocks.items (take c.loop-r.left (replacements c.args.au rs)))
    (sym (drop_next c.args.journal.now c.loop-r.r-index _ c.loop-r-test.true c.r-item.is))
    ∙ c.loop-r.invariant
