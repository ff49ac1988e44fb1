use Rattle.std.proofs.Common.{rules}
use Rattle.lks_farm.proofs.Moves.{learns, pushes}
use Rattle.lks_farm.proofs.queues.Queue.push.Goals as goal

pub push_as-requires-clause-rule : goal.push_as-requires-clause-rule
push_as-requires-clause-rule g c =
    (pushes g.T.Entries.entry _ _ _ c.args.item (search rules) (search rules), learns g.T.Entries.entry _ _)
