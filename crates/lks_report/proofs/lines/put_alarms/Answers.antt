use Rattle.std.proofs.Common.{arith}
use Rattle.std.proofs.lemmas.List.Sums.{sum_by_more}
use Rattle.lks_report.specs.Scans.{ticks_in, tick_at}
use Rattle.lks_report.specs.Text.{entry_alarms, alarm_lines}
use Rattle.lks_report.proofs.Numbered.{written_more, written_all}
use Rattle.lks_report.proofs.lines.put_alarms.Goals as goal

pub loop-entry-preserved : goal.loop-entry-preserved
loop-entry-preserved c = (
  written_more (λ n. entry_alarms (tick_at n c.args.history.now)) _ _ _ 0 c.loop-entry.entry-index _ _ _
      c.loop-entry-test.true c.entry-item.is
      (omega arith) c.loop-entry.invariant.0 (rw c.loop-entry.invariant.1 at c.in_ok-put_entry_alarms.ensures),
  (let more = sum_by_more ticks_in c.args.history.now c.loop-entry.entry-index c.entry-item.result
      c.loop-entry-test.true in cc (more, c.loop-entry.invariant.1)),
  omega arith,
)

pub returns : goal.returns
unfolding alarm_lines
returns c =
    written_all (λ n. entry_alarms (tick_at n c.args.history.now)) _ _ 0 c.loop-entry.entry-index _
    c.loop-entry-test.false c.loop-entry.invariant.0
