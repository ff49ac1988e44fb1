-- What is picked from a list by random words.
use Rattle.std.specs.Prelude.{◌≡◌, ◌≢◌, ℕ, zero, suc, ◌+◌, min, nat_le, if◌then◌else◌, List, [], ◌∷◌, length}
use Rattle.std.specs.Prelude.{slice_index, remove, All, AllPairs, Contains}
use Rattle.lks_draw.specs.Words.{Drawn, words_of, scaled_word}

-- n members taken out of a list one after another, by the words from a place on; the rest keeps its order
abbrev pub members_taken : (ℕ → ℕ) → ℕ → List ℕ → ℕ → List ℕ
members_taken words place list zero = []
members_taken words place list (suc n) =
    let at = scaled_word (words place) (length list) in
    slice_index list at ∷ members_taken words (place + 1) (remove list at) n

-- a list of at most n members is picked whole, in its order
unfoldable pub picked_members : (ℕ → ℕ) → ℕ → List ℕ → ℕ → List ℕ
picked_members words place list n = if nat_le (length list) n then list else members_taken words place list n

-- what a draw picks next
abbrev pub picked_by : Drawn → List ℕ → ℕ → List ℕ
picked_by d list n = picked_members (words_of d.key) d.place list n

-- how many words such a pick takes
unfoldable pub words_taken : List ℕ → ℕ → ℕ
words_taken list n = if nat_le (length list) n then 0 else n

-- what is true of each pick of at most n members of a list, whatever the words
pub record IsPickOf (list : List ℕ) (n : ℕ) (result : List ℕ) : Type 0 where
  pub count : length result ≡ min n (length list)
  pub members : All (Contains list) result
  pub once : AllPairs ◌≢◌ list → AllPairs ◌≢◌ result
