-- A list whose elements change one after another.
use Rattle.std.proofs.Common.{◌≡◌, ◌+◌, ◌<◌, ◌≤◌, ◌∙◌, ap, ℕ, zero, suc, List, [], ◌∷◌, ◌++◌, length, get_or, refl}
use Rattle.std.proofs.Common.{take, drop, arith}
use Rattle.std.specs.Prelude.{map, slice_set}

module _ {X : Type 0} (f : X → X) where
  -- the first i have changed
  abbrev pub front : ℕ → List X → List X
  front i xs = map f (take i xs) ++ drop i xs

  next : (xs : List X) (i : ℕ) (d : X) → i < length xs
      → slice_set (front i xs) i (f (get_or (front i xs) i d)) ≡ front (suc i) xs
  next [] i d low = absurd (omega (arith, low))
  next (x ∷ xs) zero d low = refl
  next (x ∷ xs) (suc i) d low = ap (λ ys. f x ∷ ys) (next xs i d (omega (arith, low)))

  pub front_more : (xs now : List X) (i : ℕ) (d new : X) → now ≡ front i xs → i < length xs
      → new ≡ f (get_or now i d) → slice_set now i new ≡ front (i + 1) xs
  front_more xs now i d new is low made =
      let more : suc i ≡ i + 1 = omega arith in
      ap (slice_set now i) made ∙ (λ j. slice_set (is j) i (f (get_or (is j) i d))) ∙ next xs i d low
      ∙ ap (λ n. front n xs) more

  all_front : (xs : List X) (i : ℕ) → length xs ≤ i → front i xs ≡ map f xs
  all_front [] zero high = refl
  all_front [] (suc i) high = refl
  all_front (x ∷ xs) zero high = absurd (omega (arith, high))
  all_front (x ∷ xs) (suc i) high = ap (λ ys. f x ∷ ys) (all_front xs i (omega (arith, high)))

  pub front_all : (xs now : List X) (i : ℕ) → now ≡ front i xs → length xs ≤ i → now ≡ map f xs
  front_all xs now i is high = is ∙ all_front xs i high
