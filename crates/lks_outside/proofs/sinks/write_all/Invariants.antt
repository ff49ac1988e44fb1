use Rattle.std.proofs.Common.{◌≡◌, ◌≤◌, ℕ, List, [], length, Some}
use Rattle.lks_outside.proofs.Progress.{HasWritten}
use Rattle.lks_outside.proofs.sinks.write_all.Given as goal

abbrev pub invariant-turns : goal.invariant-turns
invariant-turns g l = record {
  written : (bytes : List ℕ) → g.K.Sink.taken l.fn.sink ≡ Some bytes
      → HasWritten l.fn.piece l.rest bytes (g.K.Sink.taken l.sink);
  empty : l.fn.piece ≡ [] → (l.rest ≡ []) × (l.sink ≡ l.fn.sink);
  count : g.K.Sink.faults l.fn.sink ≤ g.K.Sink.faults l.sink;
}

abbrev pub decreases-turns : goal.decreases-turns
decreases-turns g l = length l.rest
