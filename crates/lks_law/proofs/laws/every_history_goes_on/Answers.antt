use Rattle.lks_law.proofs.Happening.{no_events, history_more}
use Rattle.lks_law.proofs.laws.every_history_goes_on.Goals as goal

pub returns-clause-none : goal.returns-clause-none
returns-clause-none c = no_events

pub returns-clause-more : goal.returns-clause-more
returns-clause-more c = history_more
