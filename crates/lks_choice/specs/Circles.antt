-- The outer circle of a poll, from the nominations of its inner circle.
use Rattle.std.specs.Prelude.{◌≡◌, ◌≢◌, ℕ, ◌+◌, ◌-◌, ◌*◌, ◌≤◌, min, Bool, true, false, not, ◌&&◌, ◌==◌, List, [], ◌∷◌}
use Rattle.std.specs.Prelude.{◌++◌, length, take, filter, fold, All, AllPairs}
use Rattle.std.specs.Int.{div_ceil}
use Rattle.std.specs.List.{list_any}
use Rattle.lks_base.specs.Checking.{has_member}
use Rattle.lks_draw.specs.Picks.{picked_members, words_taken}
use Rattle.lks_draw.specs.Words.{Drawn, draw_after, words_of}

-- the members of a list in order, each at its first place
abbrev pub each_once : List ℕ → List ℕ
each_once [] = []
each_once (x ∷ xs) = x ∷ filter (λ y. not (x == y)) (each_once xs)

-- whether a nominee may be picked: not `own`, no inner peer, and not yet in the circle
abbrev pub may_stand : ℕ → List ℕ → List ℕ → ℕ → Bool
may_stand own inner circle p = not (p == own) && not (has_member inner p) && not (has_member circle p)

-- the candidates of a nomination, in its order
unfoldable pub candidates : ℕ → List ℕ → List ℕ → List ℕ → List ℕ
candidates own inner circle nominees = filter (may_stand own inner circle) (each_once nominees)

-- s is the least whole number by which k shares make up the size
pub record IsLeastShare (size k s : ℕ) : Type 0 where
  pub enough : size ≤ s * k
  pub least : (t : ℕ) → size ≤ t * k → s ≤ t

-- a circle that is being filled: its peers so far, and how many words were taken for them
pub record Filled : Type 0 where
  pub peers : List ℕ
  pub words : ℕ

-- a nomination's candidates are picked from: at most its share, and at most what the circle still wants
unfoldable pub filled_circle : Drawn → ℕ → List ℕ → ℕ → ℕ → Filled → List ℕ → Filled
filled_circle d own inner size share circle nominees =
    let those = candidates own inner circle.peers nominees in
    let most = min share (size - length circle.peers) in
    record {
      peers = circle.peers ++ picked_members (words_of d.key) (d.place + circle.words) those most;
      words = circle.words + words_taken those most;
    }

-- the circle after these nominations, each with this share
abbrev pub filled_by : Drawn → ℕ → List ℕ → ℕ → ℕ → List (List ℕ) → Filled
filled_by d own inner size share nominations =
    fold (filled_circle d own inner size share) (record { peers = []; words = 0 }) nominations

-- the nominations of a circle are gone through in order, by the words of one draw
unfoldable pub circle_of : Drawn → ℕ → List ℕ → List (List ℕ) → ℕ → Filled
circle_of d own inner nominated size = filled_by d own inner size (div_ceil size (length nominated)) nominated

-- the draw has come as far as some of these nominations take it
pub record HasComeTo (d : Drawn) (own : ℕ) (inner : List ℕ) (nominated : List (List ℕ)) (size : ℕ)
    (draws : Drawn) : Type 0 where
  pub count : ℕ
  pub after : draws
      ≡ draw_after d (filled_by d own inner size (div_ceil size (length nominated)) (take count nominated)).words

-- some nomination names this peer
abbrev pub is_nominee : List (List ℕ) → ℕ → Bool
is_nominee nominated p = list_any (λ nominees. has_member nominees p) nominated

-- what is true of each outer circle, whatever the words
pub record IsOuterCircle (own : ℕ) (inner : List ℕ) (nominated : List (List ℕ)) (size : ℕ) (circle : List ℕ) : Type
    0 where
  pub few : length circle ≤ size
  pub once : AllPairs ◌≢◌ circle
  pub others : All (λ p. p ≢ own) circle
  pub not_inner : All (λ p. has_member inner p ≡ false) circle
  pub nominees : All (λ p. is_nominee nominated p ≡ true) circle
