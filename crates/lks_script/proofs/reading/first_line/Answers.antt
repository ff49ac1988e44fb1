use Rattle.std.proofs.Common.{sym, ◌∙◌}
use Rattle.lks_script.proofs.Lines.{cut_at, uncut}
use Rattle.lks_script.proofs.reading.first_line.Goals as goal

pub returns-in_err-at-clause-none : goal.returns-in_err-at-clause-none
returns-in_err-at-clause-none c =
    rw c.from_residual.ensures (uncut 10 c.args.bytes.now (sym c.line_end.ensures ∙ c.in_err-at.was))

pub returns-clause-some : goal.returns-clause-some
returns-clause-some c =
    rw (c.split_at.ensures.front, c.split_at-2.ensures.back)
    (cut_at 10 c.args.bytes.now c.in_ok-at.at (sym c.line_end.ensures ∙ c.in_ok-at.was)).1
