-- Counts of faults and of calls, as a counter of 64 bits keeps them.
use Rattle.std.specs.Prelude.{◌≡◌, ◌⊎◌, ◌==◌, ℕ, Bool, ◌+◌, ◌-◌, ◌^◌, ◌<◌, min, List}
use Rattle.std.specs.List.{list_any}

-- a count rose, or it stands at its last value, from where it can't rise
abbrev pub Rose : ℕ → ℕ → Type 0
Rose before now = (before < now) ⊎ (now ≡ 2 ^ 64 - 1)

-- one more, up to the last value
abbrev pub raised : ℕ → ℕ
raised n = min (n + 1) (2 ^ 64 - 1)

-- the call after so many is one that fails
abbrev pub next_fails : List ℕ → ℕ → Bool
next_fails fail calls = list_any (λ k. k == raised calls) fail
