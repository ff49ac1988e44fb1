use Rattle.std.proofs.Common.{◌≡◌, ◌+◌, ◌≤◌, drop, map}
use Rattle.std.specs.Prelude.{option_map}
use Rattle.lks_tally.specs.Heads.{matching}
use Rattle.lks_evidence.specs.Recounts.{linked_if}
use Rattle.lks_evidence.proofs.hashing.count_linked.Given as goal

abbrev pub invariant-loop-i : goal.invariant-loop-i
invariant-loop-i l =
    let linked = map (λ h. linked_if l.second h (option_map (λ x. x.now) l.block)) in
    (l.n ≤ l.i)
    × (l.n + matching l.b (drop l.i l.votes) (linked (drop l.i l.hashes))
    ≡ matching l.b l.votes (linked l.hashes))
