-- A range of a list of bytes, and what is put in its place.
use Rattle.std.specs.Prelude.{ℕ, zero, suc, ◌+◌, ◌%◌, ◌<◌, ◌≤◌, List, [], ◌∷◌, ◌++◌, length, take, drop}

-- these bytes in the place of the n bytes at this offset
abbrev pub replaced : ℕ → ℕ → List ℕ → List ℕ → List ℕ
replaced at n bytes x = take at x ++ bytes ++ drop (at + n) x

-- n bytes that count up from this one
abbrev pub counting : ℕ → ℕ → List ℕ
counting c zero = []
counting c (suc n) = counting c n ++ (c + n) % 256 ∷ []

-- a write's range lies in the bytes, and what it wrote over was cut short by their end alone
pub record Fits (at n : ℕ) (over x : List ℕ) : Type 0 where
  pub within : at + n ≤ length x
  pub few : length over ≤ n
  pub short : length over < n → length x ≤ at + n
