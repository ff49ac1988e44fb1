use Rattle.std.proofs.Common.{rules}
use Rattle.lks_farm.proofs.Moves.{merges}
use Rattle.lks_farm.proofs.queues.Queue.join.Goals as goal

pub absorb-requires-clause-rule : goal.absorb-requires-clause-rule
absorb-requires-clause-rule g c = merges g.T.Entries.entry _ _ _ _ (search rules)
