use Rattle.std.proofs.Common.{◌≡◌}
use Rattle.lks_run_trials.proofs.peer.restored.play.Given as goal

abbrev pub invariant-loop-i : goal.invariant-loop-i
invariant-loop-i g l = l.peer.pool ≡ l.pool
