use Rattle.lks_run_trials.proofs.sessions.play_rows.Given as goal
use Rattle.lks_sessions.specs.Kept.{voter_of, IsOf}
use Rattle.lks_sessions.specs.Sendable.{IsSendable}

abbrev pub invariant-loop-i : goal.invariant-loop-i
invariant-loop-i l = record {
  of : IsOf l.pool l.sessions;
  sendable : IsSendable (voter_of l.sessions);
}
