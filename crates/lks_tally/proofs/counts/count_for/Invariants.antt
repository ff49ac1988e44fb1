use Rattle.std.proofs.Common.{◌≡◌, ◌+◌, ◌≤◌, drop}
use Rattle.lks_tally.specs.Heads.{matching}
use Rattle.lks_tally.proofs.counts.count_for.Given as goal

abbrev pub invariant-loop-i : goal.invariant-loop-i
invariant-loop-i l =
    (l.n ≤ l.i) × (l.n + matching l.b (drop l.i l.votes) (drop l.i l.heads) ≡ matching l.b l.votes l.heads)
