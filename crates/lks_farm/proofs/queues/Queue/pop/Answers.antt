use Rattle.std.proofs.Common.{rules}
use Rattle.lks_farm.proofs.Moves.{learns, pops}
use Rattle.lks_farm.proofs.queues.Queue.pop.Goals as goal

pub pop_as-requires-clause-rule : goal.pop_as-requires-clause-rule
pop_as-requires-clause-rule g c = (pops g.T.Entries.entry _ _ (search rules), learns g.T.Entries.entry _ _)
