use Rattle.lks_law.proofs.Turning.{ready_is, turns_are, inner_is}
use Rattle.lks_law.proofs.laws.every_turn_is_of_a_running_poll.Goals as goal

pub returns-clause-ready : goal.returns-clause-ready
returns-clause-ready c = ready_is

pub returns-clause-turns : goal.returns-clause-turns
returns-clause-turns c = turns_are

pub returns-clause-inner : goal.returns-clause-inner
returns-clause-inner c = inner_is
