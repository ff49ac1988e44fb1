-- Counts of faults, as a counter of 64 bits keeps them.
use Rattle.std.specs.Prelude.{◌≡◌, ◌⊎◌, ◌==◌, ◌&&◌, ℕ, ◌+◌, ◌-◌, ◌^◌, ◌<◌, min, nat_lt, if◌then◌else◌, List, length}

-- a count rose, or it stands at its last value, from where it can't rise
abbrev pub Rose : ℕ → ℕ → Type 0
Rose before now = (before < now) ⊎ (now ≡ 2 ^ 64 - 1)

-- one more, up to the last value
abbrev pub raised : ℕ → ℕ
raised n = min (n + 1) (2 ^ 64 - 1)

-- a sink's count after it took n bytes of a piece: to take none of some is a fault
abbrev pub count_after : ℕ → List ℕ → ℕ → ℕ
count_after faults piece n = if n == 0 && nat_lt 0 (length piece) then raised faults else faults
