use Rattle.std.proofs.Common.{◌≡◌, ℕ, ◌≤◌, [], map, take, get_or}
use Rattle.std.specs.Prelude.{option_map}
use Rattle.lks_evidence.specs.Recounts.{linked_if}
use Rattle.lks_evidence.proofs.hashing.link_each.Given as goal

-- the hashes before the index went on, and the others are as they were
abbrev pub invariant-loop-hash : goal.invariant-loop-hash
invariant-loop-hash l = record {
  done : take l.hash-index l.hashes
      ≡ map (λ h. linked_if l.second h (option_map (λ b. b.now) l.block)) (take l.hash-index l.initial.hashes);
  left : (k : ℕ) → l.hash-index ≤ k → get_or l.hashes k [] ≡ get_or l.initial.hashes k [];
}
