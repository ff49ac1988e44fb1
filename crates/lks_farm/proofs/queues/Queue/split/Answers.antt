use Rattle.std.proofs.Common.{rules}
use Rattle.lks_farm.proofs.Moves.{forks}
use Rattle.lks_farm.proofs.queues.Queue.split.Goals as goal

pub another-requires-clause-rule : goal.another-requires-clause-rule
another-requires-clause-rule g c = forks g.T.Entries.entry _ _ (search rules)
