-- Lists of entries in another order, where one view of many changes.
use Rattle.std.proofs.Common.{◌≡◌, ◌≢◌, ℕ, zero, suc, List, [], ◌∷◌, ◌++◌, set, sym, refl, ap, ◌∙◌, subst}
use Rattle.std.proofs.Common.{append_assoc, append-nil}
use Rattle.std.specs.Prelude.{flat_map, IsPermutation}
use Rattle.std.proofs.lemmas.List.Sorted.{IsPermutation-refl, IsPermutation-trans, IsPermutation-append_left}
use Rattle.std.proofs.lemmas.List.Sorted.{IsPermutation-append_right, IsPermutation-append_comm}
use mathlib.Core.Option.{some, some-injective, some-ne-none}
use lib.ListN.{get_elem?}

module _ {X : Type 0} where
  -- what stands second comes first
  pub to_front : (a b c : List X) → IsPermutation (a ++ (b ++ c)) (b ++ (a ++ c))
  to_front a b c =
      subst (λ (l : List X). IsPermutation l (b ++ (a ++ c))) (append_assoc a b c)
      (subst (λ (l : List X). IsPermutation ((a ++ b) ++ c) l) (append_assoc b a c)
      (IsPermutation-append_left c (a ++ b) (b ++ a) (IsPermutation-append_comm a b)))

  -- what stands last in the first comes first
  pub last_to_front : (a b c : List X) → IsPermutation ((a ++ b) ++ c) (b ++ (a ++ c))
  last_to_front a b c =
      subst (λ (l : List X). IsPermutation l (b ++ (a ++ c))) (sym (append_assoc a b c)) (to_front a b c)

module _ {V X : Type 0} (f : V → List X) where
  -- a view has these entries more
  pub all_more : (views : List V) (port : ℕ) (v w : V) (more : List X) → get_elem? views port ≡ some v
      → f w ≡ f v ++ more → IsPermutation (flat_map f (set views port w)) (more ++ flat_map f views)
  all_more [] port v w more at is = absurd (some-ne-none v (sym at))
  all_more (x ∷ xs) zero v w more at is =
      let here : x ≡ v = some-injective x v at in
      subst (λ (l : List X). IsPermutation (l ++ flat_map f xs) (more ++ (f x ++ flat_map f xs)))
      (sym (is ∙ ap (λ (y : V). f y ++ more) (sym here))) (last_to_front (f x) more (flat_map f xs))
  all_more (x ∷ xs) (suc port) v w more at is =
      IsPermutation-trans (f x ++ flat_map f (set xs port w)) (f x ++ (more ++ flat_map f xs))
      (more ++ (f x ++ flat_map f xs))
      (IsPermutation-append_right (f x) (flat_map f (set xs port w)) (more ++ flat_map f xs)
      (all_more xs port v w more at is))
      (to_front (f x) more (flat_map f xs))

  -- a view has the same entries
  pub all_same : (views : List V) (port : ℕ) (v w : V) → get_elem? views port ≡ some v → f w ≡ f v
      → flat_map f (set views port w) ≡ flat_map f views
  all_same [] port v w at is = absurd (some-ne-none v (sym at))
  all_same (x ∷ xs) zero v w at is = ap (λ (l : List X). l ++ flat_map f xs) (is ∙ ap f (sym (some-injective x v at)))
  all_same (x ∷ xs) (suc port) v w at is = ap (λ (l : List X). f x ++ l) (all_same xs port v w at is)

  -- a view has none any more
  pub all_less : (views : List V) (port : ℕ) (v w : V) → get_elem? views port ≡ some v → f w ≡ []
      → IsPermutation (f v ++ flat_map f (set views port w)) (flat_map f views)
  all_less [] port v w at is = absurd (some-ne-none v (sym at))
  all_less (x ∷ xs) zero v w at is =
      let e : f v ++ (f w ++ flat_map f xs)
      ≡ f x ++ flat_map f xs = ap (λ (l : List X). f v ++ (l ++ flat_map f xs)) is
      ∙ ap (λ (y : V). f y ++ flat_map f xs) (sym (some-injective x v at)) in
      subst (λ (l : List X). IsPermutation l (f x ++ flat_map f xs)) (sym e) (IsPermutation-refl (f x ++ flat_map f xs))
  all_less (x ∷ xs) (suc port) v w at is =
      IsPermutation-trans (f v ++ (f x ++ flat_map f (set xs port w))) (f x ++ (f v ++ flat_map f (set xs port w)))
      (f x ++ flat_map f xs)
      (to_front (f v) (f x) (flat_map f (set xs port w)))
      (IsPermutation-append_right (f x) (f v ++ flat_map f (set xs port w)) (flat_map f xs)
      (all_less xs port v w at is))

  -- one view more
  pub all_snoc : (views : List V) (w : V) → flat_map f (views ++ w ∷ []) ≡ flat_map f views ++ f w
  all_snoc [] w = append-nil (f w)
  all_snoc (x ∷ xs) w = ap (λ (l : List X). f x ++ l) (all_snoc xs w) ∙ sym (append_assoc (f x) (flat_map f xs) (f w))

pub set_swapped : {V : Type 0} (views : List V) (i j : ℕ) (a b : V) → i ≢ j
    → set (set views i a) j b ≡ set (set views j b) i a
set_swapped [] i j a b n = refl
set_swapped (x ∷ xs) zero zero a b n = absurd (n refl)
set_swapped (x ∷ xs) zero (suc j) a b n = refl
set_swapped (x ∷ xs) (suc i) zero a b n = refl
set_swapped (x ∷ xs) (suc i) (suc j) a b n = ap (λ (l : List _). x ∷ l) (set_swapped xs i j a b (λ e. n (ap suc e)))
