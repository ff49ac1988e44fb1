-- Who was asked for which block, and who is to be asked next.
use Rattle.std.specs.Prelude.{ℕ, Bool, not, cond, ◌&&◌, ◌==◌, ◌-◌, Option, None, List, length, find, slice_get}
use Rattle.std.specs.List.{list_any}

-- each block with the voter who was asked for it, in order, and whether the last one hasn't answered
pub record Asked : Type 0 where
  pub asked : List (ℕ × ℕ)
  pub waiting : Bool

abbrev pub was_asked : List (ℕ × ℕ) → ℕ → ℕ → Bool
was_asked asked b voter = list_any (λ a. a.0 == b && a.1 == voter) asked

-- of the voters against a block, the first who wasn't asked for it
abbrev pub next_at : List (ℕ × ℕ) → ℕ → List ℕ → Option ℕ
next_at asked b against = find (λ voter. not (was_asked asked b voter)) against

-- the block and the voter that are waited for
abbrev pub awaited_request : Asked → Option (ℕ × ℕ)
awaited_request s = cond s.waiting (slice_get s.asked (length s.asked - 1)) None
