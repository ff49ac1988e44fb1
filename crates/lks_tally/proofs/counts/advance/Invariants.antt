use Rattle.std.proofs.Common.{◌≡◌, ℕ, ◌+◌, ◌≤◌, [], map, take, get_or}
use Rattle.lks_hash.specs.Running.{linked}
use Rattle.lks_tally.proofs.counts.advance.Given as goal

-- the hashes before the index went on, and the others are as they were
abbrev pub invariant-loop-head : goal.invariant-loop-head
invariant-loop-head g l = record {
  done : take l.head-index l.heads ≡ map (λ h. linked l.second h l.block) (take l.head-index l.initial.heads);
  left : (k : ℕ) → l.head-index ≤ k → get_or l.heads k [] ≡ get_or l.initial.heads k [];
  cost : l.steps ≡ l.initial.steps + l.head-index;
}
