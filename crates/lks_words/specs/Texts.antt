-- Which bytes values and texts have.
use Rattle.std.specs.Prelude.{ℕ, ◌≤◌, Bool, nat_lt, List, length}
use Rattle.std.specs.List.{list_all}
use Rattle.hex.specs.Hex.{IsBytes}

-- each code of a text is above this one
abbrev pub are_above : ℕ → List ℕ → Bool
are_above code text = list_all (λ c. nat_lt code c) text

-- at most so many bytes
pub record AreFew (most : ℕ) (xs : List ℕ) : Type 0 where
  pub bytes : IsBytes xs
  pub few : length xs ≤ most

-- 1 to so many bytes
pub record AreSome (most : ℕ) (xs : List ℕ) : Type 0 where
  pub bytes : IsBytes xs
  pub some : 1 ≤ length xs
  pub few : length xs ≤ most
