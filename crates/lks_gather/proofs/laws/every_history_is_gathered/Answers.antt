use Rattle.lks_gather.proofs.Worlds.{history_read, gathered_holds}
use Rattle.lks_gather.proofs.laws.every_history_is_gathered.Goals as goal

pub returns-clause-read : goal.returns-clause-read
returns-clause-read c = history_read

pub returns-clause-holds : goal.returns-clause-holds
returns-clause-holds c = gathered_holds
