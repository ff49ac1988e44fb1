use Rattle.lks_law.proofs.Happening.{questions_more, alarms_more}
use Rattle.lks_law.proofs.laws.every_event_asks_and_raises_its_own.Goals as goal

pub returns-clause-asks : goal.returns-clause-asks
returns-clause-asks c = questions_more

pub returns-clause-raises : goal.returns-clause-raises
returns-clause-raises c = alarms_more
