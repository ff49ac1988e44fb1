-- Where things stand in lists that were made of others.
use Rattle.std.proofs.Common.{◌≡◌, ◌⊎◌, inl, inr, ◌∙◌, ap, sym, ℕ, zero, suc, Bool, true, false, cond, List, [], ◌∷◌}
use Rattle.std.proofs.Common.{◌++◌, refl}
use Rattle.std.specs.Prelude.{Option, Some, None, All, find, is_some, map, slice_get}
use Rattle.std.specs.List.{cons_option, filter_map, flat_map}
use Rattle.std.proofs.lemmas.List.Elements.{All-cons, All-nil}

pub in_front : {X : Type 0} (xs ys : List X) (k : ℕ) (x : X) → slice_get xs k ≡ Some x → slice_get (xs ++ ys) k ≡ Some x
in_front [] ys k x at = absurd cc
in_front (z ∷ xs) ys zero x at = at
in_front (z ∷ xs) ys (suc k) x at = in_front xs ys k x at

pub in_back : {X : Type 0} (xs ys : List X) (k : ℕ) (y : X) → slice_get ys k ≡ Some y
    → (j : ℕ) × (slice_get (xs ++ ys) j ≡ Some y)
in_back [] ys k y at = (k, at)
in_back (x ∷ xs) ys k y at = let later = in_back xs ys k y at in (suc later.0, later.1)

pub in_flat : {X Y : Type 0} (f : X → List Y) (xs : List X) (i : ℕ) (x : X) (k : ℕ) (y : Y)
    → slice_get xs i ≡ Some x → slice_get (f x) k ≡ Some y → (j : ℕ) × (slice_get (flat_map f xs) j ≡ Some y)
in_flat f [] i x k y there at = absurd cc
in_flat f (z ∷ xs) zero x k y there at =
    let same : z ≡ x = cc in (k, in_front (f z) (flat_map f xs) k y (ap (λ w. slice_get (f w) k) same ∙ at))
in_flat f (z ∷ xs) (suc i) x k y there at =
    let later = in_flat f xs i x k y there at in
    in_back (f z) (flat_map f xs) later.0 y later.1

pub in_map : {X Y : Type 0} (f : X → Y) (xs : List X) (k : ℕ) (x : X) → slice_get xs k ≡ Some x
    → slice_get (map f xs) k ≡ Some (f x)
in_map f [] k x at = absurd cc
in_map f (z ∷ xs) zero x at = let same : z ≡ x = cc in ap (λ w. Some (f w)) same
in_map f (z ∷ xs) (suc k) x at = in_map f xs k x at

pub in_filter_map : {X Y : Type 0} (f : X → Option Y) (xs : List X) (k : ℕ) (x : X) (y : Y)
    → slice_get xs k ≡ Some x → f x ≡ Some y → (j : ℕ) × (slice_get (filter_map f xs) j ≡ Some y)
in_filter_map f [] k x y at gives = absurd cc
in_filter_map f (z ∷ xs) zero x y at gives =
    let same : z ≡ x = cc in
    (0, ap (λ o. slice_get (cons_option o (filter_map f xs)) 0) (ap f same ∙ gives))
in_filter_map {Y = Y} f (z ∷ xs) (suc k) x y at gives = behind (f z) (in_filter_map f xs k x y at gives)
  where
    behind : (o : Option Y) → (j : ℕ) × (slice_get (filter_map f xs) j ≡ Some y)
        → (j : ℕ) × (slice_get (cons_option o (filter_map f xs)) j ≡ Some y)
    behind None later = later
    behind (Some w) later = (suc later.0, later.1)

pub of_both : {X : Type 0} (xs ys : List X) (k : ℕ) (x : X) → slice_get (xs ++ ys) k ≡ Some x
    → ((j : ℕ) × (slice_get xs j ≡ Some x)) ⊎ ((j : ℕ) × (slice_get ys j ≡ Some x))
of_both [] ys k x at = inr (k, at)
of_both (z ∷ xs) ys zero x at = inl (0, at)
of_both {X = X} (z ∷ xs) ys (suc k) x at = later (of_both xs ys k x at)
  where
    later : ((j : ℕ) × (slice_get xs j ≡ Some x)) ⊎ ((j : ℕ) × (slice_get ys j ≡ Some x))
        → ((j : ℕ) × (slice_get (z ∷ xs) j ≡ Some x)) ⊎ ((j : ℕ) × (slice_get ys j ≡ Some x))
    later (inl found) = inl (suc found.0, found.1)
    later (inr found) = inr found

pub of_map : {X Y : Type 0} (f : X → Y) (xs : List X) (k : ℕ) (y : Y) → slice_get (map f xs) k ≡ Some y
    → (x : X) × (slice_get xs k ≡ Some x) × (f x ≡ y)
of_map f [] k y at = absurd cc
of_map f (x ∷ xs) zero y at = (x, refl, cc)
of_map f (x ∷ xs) (suc k) y at = of_map f xs k y at

pub record IsGiven {X Y : Type 0} (f : X → Option Y) (xs : List X) (y : Y) : Type 0 where
  pub place : ℕ
  pub item : X
  pub there : slice_get xs place ≡ Some item
  pub gives : f item ≡ Some y

pub of_filter_map : {X Y : Type 0} (f : X → Option Y) (xs : List X) (k : ℕ) (y : Y)
    → slice_get (filter_map f xs) k ≡ Some y → IsGiven f xs y
of_filter_map f [] k y at = absurd cc
of_filter_map {Y = Y} f (x ∷ xs) k y at = by_first (f x) refl k at (λ j later. of_filter_map f xs j y later)
  where
    behind : IsGiven f xs y → IsGiven f (x ∷ xs) y
    behind g = record { place = suc g.place; item = g.item; there = g.there; gives = g.gives }

    by_first : (o : Option Y) → f x ≡ o → (k : ℕ) → slice_get (cons_option o (filter_map f xs)) k ≡ Some y
        → ((j : ℕ) → slice_get (filter_map f xs) j ≡ Some y → IsGiven f xs y) → IsGiven f (x ∷ xs) y
    by_first None is k at later = behind (later k at)
    by_first (Some z) is zero at later =
        let same : z ≡ y = cc in record { place = 0; item = x; there = refl; gives = is ∙ ap Some same }
    by_first (Some z) is (suc k) at later = behind (later k at)

pub of_find : {X : Type 0} (p : X → Bool) (xs : List X) (x : X) → find p xs ≡ Some x
    → (k : ℕ) × (slice_get xs k ≡ Some x) × (p x ≡ true)
of_find p [] x is = absurd cc
of_find {X = X} p (z ∷ xs) x is = by_test (p z) refl is (of_find p xs x)
  where
    by_test : (b : Bool) → p z ≡ b → cond b (Some z) (find p xs) ≡ Some x
        → (find p xs ≡ Some x → (k : ℕ) × (slice_get xs k ≡ Some x) × (p x ≡ true))
        → (k : ℕ) × (slice_get (z ∷ xs) k ≡ Some x) × (p x ≡ true)
    by_test true holds is later = let same : z ≡ x = cc in (0, is, ap p (sym same) ∙ holds)
    by_test false fails is later = let found = later is in (suc found.0, found.1, found.2)

pub is_found : {X : Type 0} (p : X → Bool) (xs : List X) (k : ℕ) (x : X) → slice_get xs k ≡ Some x → p x ≡ true
    → is_some (find p xs) ≡ true
is_found p [] k x at holds = absurd cc
is_found p (z ∷ xs) zero x at holds =
    let same : z ≡ x = cc in ap (λ b. is_some (cond b (Some z) (find p xs))) (ap p same ∙ holds)
is_found {X = X} p (z ∷ xs) (suc k) x at holds = by_test (p z) (is_found p xs k x at holds)
  where
    by_test : (b : Bool) → is_some (find p xs) ≡ true → is_some (cond b (Some z) (find p xs)) ≡ true
    by_test true later = refl
    by_test false later = later

pub none_found : {X : Type 0} (p : X → Bool) (Q : X → Type 0) (xs : List X) → ((x : X) → p x ≡ false → Q x)
    → find p xs ≡ None → All Q xs
none_found p Q [] each none = All-nil Q
none_found {X = X} p Q (x ∷ xs) each none = by_test (p x) refl none (none_found p Q xs each)
  where
    by_test : (b : Bool) → p x ≡ b → cond b (Some x) (find p xs) ≡ None → (find p xs ≡ None → All Q xs) → All Q (x ∷ xs)
    by_test true is none later = absurd cc
    by_test false is none later = All-cons Q x xs (each x is) (later none)

pub none_from : {X : Type 0} (o : Option X) → ((x : X) → o ≡ Some x → ⊥) → o ≡ None
none_from None not = refl
none_from (Some x) not = absurd (not x refl)

pub not_some : {X : Type 0} (o : Option X) → is_some o ≡ false → o ≡ None
not_some None not = refl
not_some (Some x) not = absurd cc
