use Rattle.std.proofs.Common.{arith}
use Rattle.lks_report.specs.Text.{entry_line, entry_lines}
use Rattle.lks_report.proofs.Numbered.{written_more, written_all}
use Rattle.lks_report.proofs.lines.put_entries.Goals as goal

pub loop-i-preserved : goal.loop-i-preserved
loop-i-preserved c =
    written_more entry_line _ _ _ 1 c.loop-i.i _ _ _ c.loop-i-test.true c.index-history-i.is (omega arith)
    c.loop-i.invariant c.in_ok-put_entry.ensures

pub returns : goal.returns
unfolding entry_lines
returns c = written_all entry_line _ _ 1 c.loop-i.i _ c.loop-i-test.false c.loop-i.invariant
