-- Numbers from 1 on, as loops go through them.
use Rattle.std.proofs.Common.{◌≡◌, ◌+◌, ◌-◌, ◌≤◌, ◌≢◌, ◌==◌, ◌∙◌, ap, ℕ, zero, suc, Bool, false, not, cond, eq-eqb}
use Rattle.std.proofs.Common.{append-nil, List, [], ◌∷◌, ◌++◌, map, arith}
use Rattle.std.specs.List.{range_with_len, filter, flat_map}
use Rattle.std.proofs.lemmas.Grind.{flat_map-append}
use Rattle.std.proofs.lemmas.List.{map-append}
use Rattle.std.proofs.lemmas.List.Elements.{filter-append}

range_last : (a n j : ℕ) → a + n ≡ j → range_with_len a (n + 1) ≡ range_with_len a n ++ j ∷ []
range_last a zero j e = let i : a ≡ j = omega (arith, e) in ap (λ x. x ∷ []) i
range_last a (suc n) j e =
    let more : suc n + 1 ≡ suc (n + 1) = omega arith in
    let at : a + 1 + n ≡ j = omega (arith, e) in
    ap (range_with_len a) more ∙ ap (λ xs. a ∷ xs) (range_last (a + 1) n j at)

-- the numbers below i, and i
range_to : (i : ℕ) → 1 ≤ i → range_with_len 1 (i + 1 - 1) ≡ range_with_len 1 (i - 1) ++ i ∷ []
range_to i some =
    let more : i + 1 - 1 ≡ i - 1 + 1 = omega arith in
    ap (range_with_len 1) more ∙ range_last 1 (i - 1) i (omega arith)

pub map_to : {X : Type 0} (f : ℕ → X) (i : ℕ) → 1 ≤ i
    → map f (range_with_len 1 (i + 1 - 1)) ≡ map f (range_with_len 1 (i - 1)) ++ f i ∷ []
map_to f i some = ap (map f) (range_to i some) ∙ map-append f (range_with_len 1 (i - 1)) (i ∷ [])

filter_to : (test : ℕ → Bool) (i : ℕ) → 1 ≤ i
    → filter test (range_with_len 1 (i + 1 - 1))
    ≡ filter test (range_with_len 1 (i - 1)) ++ cond (test i) (i ∷ []) []
filter_to test i some = ap (filter test) (range_to i some) ∙ filter-append test (range_with_len 1 (i - 1)) (i ∷ [])

-- where the numbers other than one are gone through, another is kept
pub other_kept : (own i : ℕ) → 1 ≤ i → i ≢ own
    → filter (λ id. not (id == own)) (range_with_len 1 (i + 1 - 1))
    ≡ filter (λ id. not (id == own)) (range_with_len 1 (i - 1)) ++ i ∷ []
other_kept own i some other =
    let test : (i == own) ≡ false = grind arith in
    filter_to (λ id. not (id == own)) i some
    ∙ ap (λ b. filter (λ id. not (id == own)) (range_with_len 1 (i - 1)) ++ cond (not b) (i ∷ []) []) test

-- and the one is left out
pub other_left : (own i : ℕ) → 1 ≤ i → i ≡ own
    → filter (λ id. not (id == own)) (range_with_len 1 (i + 1 - 1))
    ≡ filter (λ id. not (id == own)) (range_with_len 1 (i - 1))
other_left own i some same =
    let front = filter (λ id. not (id == own)) (range_with_len 1 (i - 1)) in
    filter_to (λ id. not (id == own)) i some ∙ ap (λ b. front ++ cond (not b) (i ∷ []) []) (eq-eqb i own same)
    ∙ append-nil front

pub flat_map_to : {X : Type 0} (f : ℕ → List X) (i : ℕ) → 1 ≤ i
    → flat_map f (range_with_len 1 (i + 1 - 1)) ≡ flat_map f (range_with_len 1 (i - 1)) ++ f i
flat_map_to f i some =
    ap (flat_map f) (range_to i some) ∙ flat_map-append f (range_with_len 1 (i - 1)) (i ∷ [])
    ∙ ap (λ ys. flat_map f (range_with_len 1 (i - 1)) ++ ys) (append-nil (f i))
