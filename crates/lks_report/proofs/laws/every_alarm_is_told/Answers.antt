use Rattle.lks_report.proofs.Told.{all_told, all_counted, lines_told}
use Rattle.lks_report.proofs.laws.every_alarm_is_told.Goals as goal

pub returns-clause-tells : goal.returns-clause-tells
returns-clause-tells c = all_told

pub returns-clause-counts : goal.returns-clause-counts
returns-clause-counts c = all_counted

pub returns-clause-lines : goal.returns-clause-lines
returns-clause-lines c = lines_told
