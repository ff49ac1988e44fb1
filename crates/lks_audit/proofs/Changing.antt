-- A list of which one element changes, or goes, as others see it.
use Rattle.std.proofs.Common.{◌≡◌, ◌∙◌, ◌<◌, ap, sym, ℕ, zero, suc, Bool, true, false, cond, ltb, not, List, [], ◌∷◌}
use Rattle.std.proofs.Common.{refl, length, get_or, ◌+◌, arith}
use Rattle.std.specs.Prelude.{Some, None, map, find, option_map, slice_set}
use Rattle.std.specs.List.{position, position_or_len, remove}
use Rattle.std.proofs.lemmas.Bool.{ltb-false, le-ltb}
use Rattle.std.proofs.lemmas.List.Quantifiers.{position-Some}
use Rattle.lks_law.specs.Firsts.{changed_first, without_first}

above : (b : Bool) (k : ℕ) → cond b (Some k) None ≡ None → b ≡ false
above true k e = absurd cc
above false k e = refl

module _ {E X : Type 0} (seen : E → X) (is : X → Bool) where
  -- the place of the first that passes
  abbrev place : List E → ℕ
  place es = position_or_len (λ e. is (seen e)) es

  module _ (f : X → X) where
    set_first : (es : List E) (i : ℕ) (new d : E) → i < length es → is (seen (get_or es i d)) ≡ true
        → ((k : ℕ) → k < i → is (seen (get_or es k d)) ≡ false) → seen new ≡ f (seen (get_or es i d))
        → map seen (slice_set es i new) ≡ changed_first is f (map seen es)
    set_first [] i new d low here before made = absurd (omega (arith, low))
    set_first (e ∷ es) zero new d low here before made =
        (λ i. made i ∷ map seen es)
        ∙ sym (ap (λ b. cond b (f (seen e) ∷ map seen es) (seen e ∷ changed_first is f (map seen es))) here)
    set_first (e ∷ es) (suc i) new d low here before made =
        ap (λ xs. seen e ∷ xs)
        (set_first es i new d (omega (arith, low)) here (λ k lower. before (suc k) (omega (arith, lower))) made)
        ∙ sym
        (ap (λ b. cond b (f (seen e) ∷ map seen es) (seen e ∷ changed_first is f (map seen es)))
        (before zero (omega arith)))

    pub put_first : (es : List E) (i : ℕ) (old new : E) → position (λ e. is (seen e)) es ≡ Some i
        → old ≡ get_or es i old → seen new ≡ f (seen old)
        → map seen (slice_set es i new) ≡ changed_first is f (map seen es)
    put_first es i old new at here made =
        let facts = position-Some (λ e. is (seen e)) es i old at in
        set_first es i new old facts.0 facts.1 facts.2 (made ∙ ap (λ e. f (seen e)) here)

    none_passes : (e : E) (es : List E) (b : Bool) (k : ℕ) → ltb (cond (not b) (1 + k) 0) (suc (length es)) ≡ false
        → (ltb k (length es) ≡ false → map seen es ≡ changed_first is f (map seen es))
        → map seen (e ∷ es) ≡ cond b (f (seen e) ∷ map seen es) (seen e ∷ changed_first is f (map seen es))
    none_passes e es true k high rest = absurd (let no = ltb-false 0 (suc (length es)) high in omega (arith, no))
    none_passes e es false k high rest =
        let over = ltb-false (1 + k) (suc (length es)) high in
        ap (λ xs. seen e ∷ xs) (rest (le-ltb k (length es) (omega (arith, over))))

    all_same : (es : List E) → ltb (place es) (length es) ≡ false → map seen es ≡ changed_first is f (map seen es)
    all_same [] high = refl
    all_same (e ∷ es) high = none_passes e es (is (seen e)) (place es) high (λ rest. all_same es rest)

    pub put_none : (es : List E) → position (λ e. is (seen e)) es ≡ None
        → map seen es ≡ changed_first is f (map seen es)
    put_none es e = all_same es (above (ltb (place es) (length es)) (place es) e)

  gone_at : (es : List E) (i : ℕ) (d : E) → i < length es → is (seen (get_or es i d)) ≡ true
      → ((k : ℕ) → k < i → is (seen (get_or es k d)) ≡ false)
      → map seen (remove es i) ≡ without_first is (map seen es)
  gone_at [] i d low here before = absurd (omega (arith, low))
  gone_at (e ∷ es) zero d low here before =
      sym (ap (λ b. cond b (map seen es) (seen e ∷ without_first is (map seen es))) here)
  gone_at (e ∷ es) (suc i) d low here before =
      ap (λ xs. seen e ∷ xs)
      (gone_at es i d (omega (arith, low)) here (λ k lower. before (suc k) (omega (arith, lower))))
      ∙ sym (ap (λ b. cond b (map seen es) (seen e ∷ without_first is (map seen es))) (before zero (omega arith)))

  stays_by : (e : E) (es : List E) (b : Bool) (k : ℕ) → ltb (cond (not b) (1 + k) 0) (suc (length es)) ≡ false
      → (ltb k (length es) ≡ false → map seen es ≡ without_first is (map seen es))
      → map seen (e ∷ es) ≡ cond b (map seen es) (seen e ∷ without_first is (map seen es))
  stays_by e es true k high rest = absurd (let no = ltb-false 0 (suc (length es)) high in omega (arith, no))
  stays_by e es false k high rest =
      let over = ltb-false (1 + k) (suc (length es)) high in
      ap (λ xs. seen e ∷ xs) (rest (le-ltb k (length es) (omega (arith, over))))

  all_stay : (es : List E) → ltb (place es) (length es) ≡ false → map seen es ≡ without_first is (map seen es)
  all_stay [] high = refl
  all_stay (e ∷ es) high = stays_by e es (is (seen e)) (place es) high (λ rest. all_stay es rest)

  pub gone_none : (es : List E) → position (λ e. is (seen e)) es ≡ None → map seen es ≡ without_first is (map seen es)
  gone_none es e = all_stay es (above (ltb (place es) (length es)) (place es) e)

  pub gone_first : (es : List E) (i : ℕ) → position (λ e. is (seen e)) es ≡ Some i
      → map seen (remove es i) ≡ without_first is (map seen es)
  gone_first [] i at = absurd cc
  gone_first (e ∷ es) i at =
      let facts = position-Some (λ e. is (seen e)) (e ∷ es) i e at in gone_at (e ∷ es) i e facts.0 facts.1 facts.2

  pub found_seen : (es : List E) → find is (map seen es) ≡ option_map seen (find (λ e. is (seen e)) es)
  found_seen [] = refl
  found_seen (e ∷ es) = by_test (is (seen e)) (found_seen es)
    where
      by_test : (b : Bool) → find is (map seen es) ≡ option_map seen (find (λ e. is (seen e)) es)
          → cond b (Some (seen e)) (find is (map seen es))
          ≡ option_map seen (cond b (Some e) (find (λ e. is (seen e)) es))
      by_test true rest = refl
      by_test false rest = rest

  first_found : (es : List E) (i : ℕ) (d : E) → i < length es → is (seen (get_or es i d)) ≡ true
      → ((k : ℕ) → k < i → is (seen (get_or es k d)) ≡ false)
      → find is (map seen es) ≡ Some (seen (get_or es i d))
  first_found [] i d low here before = absurd (omega (arith, low))
  first_found (e ∷ es) zero d low here before = ap (λ b. cond b (Some (seen e)) (find is (map seen es))) here
  first_found (e ∷ es) (suc i) d low here before =
      ap (λ b. cond b (Some (seen e)) (find is (map seen es))) (before zero (omega arith))
      ∙ first_found es i d (omega (arith, low)) here (λ k lower. before (suc k) (omega (arith, lower)))

  -- the one at the place is the one that is found
  pub found_at : (es : List E) (i : ℕ) (d : E) → position (λ e. is (seen e)) es ≡ Some i
      → find is (map seen es) ≡ Some (seen (get_or es i d))
  found_at es i d at =
      let facts = position-Some (λ e. is (seen e)) es i d at in first_found es i d facts.0 facts.1 facts.2

  none_found : (e : E) (es : List E) (b : Bool) (k : ℕ) → ltb (cond (not b) (1 + k) 0) (suc (length es)) ≡ false
      → (ltb k (length es) ≡ false → find is (map seen es) ≡ None)
      → cond b (Some (seen e)) (find is (map seen es)) ≡ None
  none_found e es true k high rest = absurd (let no = ltb-false 0 (suc (length es)) high in omega (arith, no))
  none_found e es false k high rest =
      let over = ltb-false (1 + k) (suc (length es)) high in rest (le-ltb k (length es) (omega (arith, over)))

  all_fail : (es : List E) → ltb (place es) (length es) ≡ false → find is (map seen es) ≡ None
  all_fail [] high = refl
  all_fail (e ∷ es) high = none_found e es (is (seen e)) (place es) high (λ rest. all_fail es rest)

  -- where there is no place, none is found
  pub found_none : (es : List E) → position (λ e. is (seen e)) es ≡ None → find is (map seen es) ≡ None
  found_none es e = all_fail es (above (ltb (place es) (length es)) (place es) e)
