use Rattle.lks_world.proofs.Limits.{few_asked, few_ticks}
use Rattle.lks_world.proofs.Sends.{always_room, in_all}
use Rattle.lks_world.proofs.laws.no_history_passes_a_limit.Goals as goal

pub returns-clause-asked : goal.returns-clause-asked
returns-clause-asked c = few_asked

pub returns-clause-clock : goal.returns-clause-clock
returns-clause-clock c = few_ticks

pub returns-clause-envelopes : goal.returns-clause-envelopes
returns-clause-envelopes c = in_all

pub returns-clause-numbers : goal.returns-clause-numbers
returns-clause-numbers c = always_room
