use Rattle.std.proofs.Common.{append_assoc}
use Rattle.lks_report.proofs.lines.put_closing_alarm.Goals as goal

pub returns-in-NoSupplier : goal.returns-in-NoSupplier
returns-in-NoSupplier c = rw c.in-NoSupplier.is (simp append_assoc c.writeln-in-NoSupplier.ensures.bytes)
