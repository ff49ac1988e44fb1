-- Lists behind their count: as fields, and as a loop reads them.
use Rattle.std.proofs.Common.{◌≡◌, ℕ, zero, suc, ◌+◌, ◌-◌, ◌<◌, ◌≤◌, List, [], ◌∷◌, ◌++◌, length, Result, Ok, Err}
use Rattle.std.proofs.Common.{refl, sym, ap, subst, ◌∙◌, append_assoc, arith}
use Rattle.std.specs.Prelude.{Bool, true, false, All}
use Rattle.std.specs.List.{flat_map, AllByRecursion}
use Rattle.std.proofs.lemmas.List.{append-nil}
use Rattle.std.proofs.lemmas.List.Concat.{flat_map-cons}
use Rattle.std.proofs.lemmas.List.Elements.{All-from_recursion, recursion_from_All}
use Rattle.lks_field.specs.declared.fault.FieldFault.{FieldFault}
use Rattle.lks_field.specs.Reading.{◌>>=◌, bytes_at, many_at, sized_at, list_at, Unless, FailsBut}
use Rattle.lks_field.proofs.Steps.{Reader}
use Rattle.lks_field.proofs.Takes.{IsBytes, Takes, Takes-then, IsField, bind_ok, ok_is, field_as, run_field}

-- ---- fields

module _ {X E : Type 0} (reader : List ℕ → Result (X × List ℕ) E) (spell : X → List ℕ) (Fits : X → Type 0)
    (field : IsField reader spell Fits) where
  many_takes : (n : ℕ) (bytes : List ℕ) (x : List X × List ℕ) → IsBytes bytes → many_at reader n bytes ≡ Ok x
      → Takes bytes (flat_map spell x.0) x.1 × ((length x.0 ≡ n) × AllByRecursion Fits x.0)
  unfolding many_at
  many_takes zero bytes x fits e =
      subst
      (λ (y : List X × List ℕ). Takes bytes (flat_map spell y.0) y.1
      × ((length y.0 ≡ 0) × AllByRecursion Fits y.0)) (ok_is {E = E} ([], bytes) x e)
      (record { parts = refl; rest_fits = fits }, (refl, tt))
  many_takes (suc n) bytes x fits e =
      let a = bind_ok (reader bytes)
      (λ first. many_at reader n first.1 >>= λ others. Ok (first.0 ∷ others.0, others.1)) x e in
      let b = bind_ok (many_at reader n a.0.1) (λ others. Ok (a.0.0 ∷ others.0, others.1)) x a.2 in
      let first = field.takes bytes a.0 fits a.1 in
      let second = many_takes n a.0.1 b.0 first.0.rest_fits b.1 in
      let both = Takes-then bytes (spell a.0.0) a.0.1 (flat_map spell b.0.0) b.0.1 first.0 second.0 in
      let made : List X × List ℕ = (a.0.0 ∷ b.0.0, b.0.1) in
      subst
      (λ (y : List X × List ℕ). Takes bytes (flat_map spell y.0) y.1
      × ((length y.0 ≡ suc n) × AllByRecursion Fits y.0)) (ok_is {E = E} made x b.2)
      (rw flat_map-cons both, (ap suc second.1.0, (first.1, second.1.1)))

  many_again : (xs : List X) (rest : List ℕ) → AllByRecursion Fits xs
      → many_at reader (length xs) (flat_map spell xs ++ rest) ≡ Ok (xs, rest)
  unfolding many_at
  many_again [] rest fits = refl
  many_again (x ∷ xs) rest fits =
      let regrouped : flat_map spell (x ∷ xs) ++ rest
      ≡ spell x ++ (flat_map spell xs ++ rest) = ap (λ (t : List ℕ). t ++ rest) (flat_map-cons spell x xs)
      ∙ append_assoc (spell x) (flat_map spell xs) rest in
      ap (many_at reader (suc (length xs))) regrouped
      ∙ rw (field.again x (flat_map spell xs ++ rest) fits.0, many_again xs rest fits.1) refl

  many_field : (n : ℕ) → IsField (many_at reader n) (flat_map spell) (λ xs. (length xs ≡ n) × AllByRecursion Fits xs)
  many_field n = record {
    takes = many_takes n;
    again =
        λ xs rest h. subst (λ (k : ℕ). many_at reader k (flat_map spell xs ++ rest) ≡ Ok (xs, rest)) h.0
        (many_again xs rest h.1);
  }

-- a number, and what has that size
module _ {X E : Type 0} {number : Reader ℕ E} {spell : ℕ → List ℕ} {Small : ℕ → Type 0}
    (number_is : IsField number spell Small) {items : ℕ → Reader X E} (size : X → ℕ) {text : X → List ℕ}
    {Fits : X → Type 0}
    (items_are : (n : ℕ) → IsField (items n) text (λ x. (size x ≡ n) × Fits x)) where
  counted_field : IsField (λ bytes. number bytes >>= λ n. items n.0 n.1) (λ x. spell (size x) ++ text x)
      (λ x. Small (size x) × Fits x)
  counted_field = record { takes = takes; again = again }
    where
      takes : (bytes : List ℕ) (x : X × List ℕ) → IsBytes bytes → (number bytes >>= λ n. items n.0 n.1) ≡ Ok x
          → Takes bytes (spell (size x.0) ++ text x.0) x.1 × (Small (size x.0) × Fits x.0)
      takes bytes x fits e =
          let a = bind_ok (number bytes) (λ n. items n.0 n.1) x e in
          let t = number_is.takes bytes a.0 fits a.1 in
          let u = (items_are a.0.0).takes a.0.1 x t.0.rest_fits a.2 in
          let both = Takes-then bytes (spell a.0.0) a.0.1 (text x.0) x.1 t.0 u.0 in (
            subst (λ (k : ℕ). Takes bytes (spell k ++ text x.0) x.1) (sym u.1.0) both,
            (subst Small (sym u.1.0) t.1, u.1.1),
          )

      again : (x : X) (rest : List ℕ) → Small (size x) × Fits x
          → (number ((spell (size x) ++ text x) ++ rest) >>= λ n. items n.0 n.1) ≡ Ok (x, rest)
      again x rest h =
          rw (append_assoc (spell (size x)) (text x) rest, number_is.again (size x) (text x ++ rest) h.0)
          ((items_are (size x)).again x rest (refl, h.1))

-- bytes behind their length
pub sized_field : {number : Reader ℕ FieldFault} {spell : ℕ → List ℕ} {Small : ℕ → Type 0}
    → IsField number spell Small → IsField (sized_at number) (λ x. spell (length x) ++ x) (λ x. Small (length x))
unfolding sized_at
sized_field {Small = Small} number_is =
    field_as (λ x h. h.0) (λ x h. (h, tt))
    (counted_field number_is {items = bytes_at} length {text = λ x. x} {Fits = λ x. Unit {0}}
    (λ n. field_as (λ x h. (h, tt)) (λ x h. h.0) (run_field n)))

-- values behind their count
pub list_field : {X E : Type 0} {count : Reader ℕ E} {spell_count : ℕ → List ℕ} {Few : ℕ → Type 0}
    {one : Reader X E} {spell : X → List ℕ} {Fits : X → Type 0}
    → IsField count spell_count Few → IsField one spell Fits
    → IsField (list_at count one) (λ xs. spell_count (length xs) ++ flat_map spell xs)
    (λ xs. Few (length xs) × All Fits xs)
unfolding list_at
list_field {one = one} {spell = spell} {Fits = Fits} count_is one_is =
    field_as (λ xs h. (h.0, All-from_recursion Fits xs h.1)) (λ xs h. (h.0, recursion_from_All Fits xs h.1))
    (counted_field count_is {items = many_at one} length {text = flat_map spell} {Fits = AllByRecursion Fits}
    (many_field one spell Fits one_is))

-- ---- loops

-- a call that stops at a fault
pub stops : {X Y E : Type 0} (free : E → Bool) (fault : E) (one : Result X E) (total : Result Y E)
    → (one ≡ Err fault → total ≡ Err fault) → FailsBut free fault one → FailsBut free fault total
stops free fault one total on failed = by_test (free fault) failed
  where
    by_test : (b : Bool) → Unless b (one ≡ Err fault) → Unless b (total ≡ Err fault)
    by_test true h = tt
    by_test false h = on h

-- the same of a call that takes no memory
pub fails : {X E : Type 0} (free : E → Bool) (fault : E) (read : Result X E) → read ≡ Err fault
    → FailsBut free fault read
fails free fault read e = by_test (free fault)
  where
    by_test : (b : Bool) → Unless b (read ≡ Err fault)
    by_test true = tt
    by_test false = e

module _ {X E : Type 0} (reader : List ℕ → Result (X × List ℕ) E) where
  -- what was read before, and what is still read
  abbrev pub with_front : List X → Result (List X × List ℕ) E → Result (List X × List ℕ) E
  with_front front read = read >>= λ x. Ok (front ++ x.0, x.1)

  regroup : (front : List X) (x : X) (read : Result (List X × List ℕ) E)
      → with_front front (read >>= λ others. Ok (x ∷ others.0, others.1)) ≡ with_front (front ++ x ∷ []) read
  regroup front x (Ok y) = ap (λ (xs : List X). Ok (xs, y.1)) (simp append_assoc)
  regroup front x (Err f) = refl

  pub goes_on : (front : List X) (count i : ℕ) (bytes : List ℕ) (x : X) (after : List ℕ)
      (total : Result (List X × List ℕ) E)
      → i < count → reader bytes ≡ Ok (x, after)
      → with_front front (many_at reader (count - i) bytes) ≡ total
      → with_front (front ++ x ∷ []) (many_at reader (count - (i + 1)) after) ≡ total
  unfolding many_at
  goes_on front count i bytes x after total lt h so_far =
      let k : count - i ≡ suc (count - (i + 1)) = omega arith in
      let one : with_front front (many_at reader (count - i) bytes)
      ≡ with_front (front ++ x ∷ []) (many_at reader (count - (i + 1)) after) = rw (k, h)
      (regroup front x (many_at reader (count - (i + 1)) after)) in
      sym one ∙ so_far

  pub ends : (fault : E) (front : List X) (count i : ℕ) (bytes : List ℕ) (total : Result (List X × List ℕ) E)
      → i < count → reader bytes ≡ Err fault
      → with_front front (many_at reader (count - i) bytes) ≡ total → total ≡ Err fault
  unfolding many_at
  ends fault front count i bytes total lt h so_far =
      let k : count - i ≡ suc (count - (i + 1)) = omega arith in
      let one : with_front front (many_at reader (count - i) bytes) ≡ Err fault = rw (k, h) refl in
      sym so_far ∙ one

  pub is_done : (front : List X) (count i : ℕ) (bytes : List ℕ) (total : Result (List X × List ℕ) E) → count ≤ i
      → with_front front (many_at reader (count - i) bytes) ≡ total → total ≡ Ok (front, bytes)
  unfolding many_at
  is_done front count i bytes total le so_far =
      let k : count - i ≡ 0 = omega arith in
      let one : with_front front (many_at reader (count - i) bytes)
      ≡ Ok (front, bytes) = rw k (ap (λ (xs : List X). Ok (xs, bytes)) (append-nil front)) in
      sym so_far ∙ one
