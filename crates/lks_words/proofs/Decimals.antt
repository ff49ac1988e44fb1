-- The number that a word writes is the one whose decimal digits the word is.
use Rattle.std.proofs.Common.{◌≡◌, ◌&&◌, ℕ, ◌+◌, ◌-◌, ◌*◌, ◌^◌, ◌≤◌, ◌<◌, true, false, cond, leb, eqb, List, [], ◌∷◌}
use Rattle.std.proofs.Common.{length, get_or, Option, Some, None, inl, inr, refl, sym, ap, subst, ◌∙◌, arith, rules}
use Rattle.std.specs.Char.{is_ascii_digit}
use Rattle.std.specs.Fmt.{decimal}
use Rattle.std.specs.Prelude.{IfSome}
use Rattle.std.specs.Str.{all_ascii_digits}
use Rattle.std.proofs.lemmas.Bool.{and_parts, leb-true, le-leb, ne_eqb, cases_eq}
use Rattle.std.proofs.lemmas.Fmt.{decimal_digit, decimal-digits_value, digits_decimal, digits_value-decimal}
use Rattle.std.proofs.lemmas.Fmt.{first_decimal, decimal_is_IsNumeral}
use Rattle.std.proofs.lemmas.Str.Parse.{IsNumeralModel, numerals_by_fold}
use Rattle.lks_words.specs.Numbers.{with_digit, digits_on, number_in}
use Rattle.lks_words.proofs.Steps.{bind_some, if_some, unless_some, same_some}

-- the number that the digits write behind those of n
abbrev read_on : ℕ → List ℕ → ℕ
read_on n [] = n
read_on n (c ∷ cs) = read_on (n * 10 + (c - 48)) cs

own : IsNumeralModel (λ ds. all_ascii_digits ds ≡ true) (read_on 0)
own = numerals_by_fold _ (search rules) read_on (search rules)

-- ---- what is found is written so

pub digits_found : (most n m : ℕ) (ds : List ℕ) → n ≤ most → digits_on most n ds ≡ Some m
    → (all_ascii_digits ds ≡ true) × (read_on n ds ≡ m) × (m ≤ most)
unfolding digits_on with_digit
digits_found most n m [] le e = (refl, cc, subst (λ (k : ℕ). k ≤ most) (same_some n m e) le)
digits_found most n m (d ∷ ds) le e =
    let a = bind_some (with_digit most n d) (λ k. digits_on most k ds) m e in
    let b = if_some (is_ascii_digit d && leb (n * 10 + (d - 48)) most) (Some (n * 10 + (d - 48))) a.0 a.1 in
    let c = and_parts (is_ascii_digit d) (leb (n * 10 + (d - 48)) most) b.0 in
    let more = digits_found most (n * 10 + (d - 48)) m ds (leb-true _ _ c.1)
    (rw (same_some (n * 10 + (d - 48)) a.0 b.1) a.2) in
    (rw (c.0, more.0) refl, more.1, more.2)

led : (d : ℕ) (o : Option ℕ) (m : ℕ) → d ≡ 48 → cond (eqb d 48) None o ≡ Some m → ⊥
led d o m z e = absurd cc

pub number_is : (most m : ℕ) (ds : List ℕ) → most < 2 ^ 64 → number_in most ds ≡ Some m → ds ≡ decimal m
unfolding number_in
number_is most m [] lt e = absurd cc
number_is most m (d ∷ []) lt e =
    let found = digits_found most 0 m (d ∷ []) (omega arith) e in
    sym (decimal-digits_value own (d ∷ []) found.0 (omega arith) (λ z. refl) (omega (arith, found.1, found.2)))
    ∙ ap decimal found.1
number_is most m (d ∷ next ∷ ds) lt e =
    let found = digits_found most 0 m (d ∷ next ∷ ds) (omega arith)
    (unless_some (eqb d 48) (digits_on most 0 (d ∷ next ∷ ds)) m e) in
    sym
    (decimal-digits_value own (d ∷ next ∷ ds) found.0 (omega arith)
    (λ z. absurd (led d (digits_on most 0 (d ∷ next ∷ ds)) m z e)) (omega (arith, found.1, found.2)))
    ∙ ap decimal found.1

-- ---- what is written so is found

grows : (n : ℕ) (ds : List ℕ) → n ≤ read_on n ds
grows n [] = omega arith
grows n (d ∷ ds) = let more = grows (n * 10 + (d - 48)) ds in omega arith

digits_again : (most n : ℕ) (ds : List ℕ) → all_ascii_digits ds ≡ true → read_on n ds ≤ most
    → digits_on most n ds ≡ Some (read_on n ds)
unfolding digits_on with_digit
digits_again most n [] all le = refl
digits_again most n (d ∷ ds) all le =
    let parts = and_parts (is_ascii_digit d) (all_ascii_digits ds) all in
    let fits : leb (n * 10 + (d - 48)) most ≡ true = let more = grows (n * 10 + (d - 48)) ds in
    le-leb _ _ (omega arith) in
    rw (parts.0, fits) (digits_again most (n * 10 + (d - 48)) ds parts.1 le)

number_from : (most : ℕ) (ds : List ℕ) → all_ascii_digits ds ≡ true → 0 < length ds
    → (get_or ds 0 0 ≡ 48 → length ds ≡ 1) → read_on 0 ds ≤ most → number_in most ds ≡ Some (read_on 0 ds)
unfolding number_in
number_from most [] all some lead le = absurd (omega arith)
number_from most (d ∷ []) all some lead le = digits_again most 0 (d ∷ []) all le
number_from most (d ∷ next ∷ ds) all some lead le =
    let other : eqb d 48 ≡ false = ne_eqb d 48 (λ z. let one = lead z in omega arith) in
    rw other (digits_again most 0 (d ∷ next ∷ ds) all le)

lead_of : (n : ℕ) → n < 2 ^ 64 → get_or (decimal n) 0 0 ≡ 48 → length (decimal n) ≡ 1
lead_of n lt z =
    elim (cases_eq n 0) [
      | inl none ↦ ap length (ap decimal none ∙ decimal_digit 0 (omega arith))
      | inr some ↦ absurd (let first = first_decimal n (omega arith) lt in omega arith)
    ]

pub number_again : (most n : ℕ) (ds : List ℕ) → most < 2 ^ 64 → n ≤ most → ds ≡ decimal n → number_in most ds ≡ Some n
number_again most n ds lt le e =
    let is = digits_value-decimal own n (omega arith) in
    let long = (decimal_is_IsNumeral n (omega arith)).0.0 in
    ap (number_in most) e
    ∙ number_from most (decimal n) (digits_decimal own n (omega arith)) long (lead_of n (omega arith))
    (omega arith)
    ∙ ap Some is

pub found_is : (most : ℕ) (ds : List ℕ) (o : Option ℕ) → most < 2 ^ 64 → o ≡ number_in most ds
    → IfSome o (λ m. ds ≡ decimal m)
found_is most ds (Some m) lt e = number_is most m ds lt (sym e)
found_is most ds None lt e = tt

-- what is found is at most so much
pub number_most : (most : ℕ) (ds : List ℕ) (m : ℕ) → number_in most ds ≡ Some m → m ≤ most
unfolding number_in
number_most most [] m e = absurd cc
number_most most (d ∷ []) m e = (digits_found most 0 m (d ∷ []) (omega arith) e).2
number_most most (d ∷ next ∷ ds) m e =
    (digits_found most 0 m (d ∷ next ∷ ds) (omega arith)
    (unless_some (eqb d 48) (digits_on most 0 (d ∷ next ∷ ds)) m e)).2

-- what was read is written so that it reads as the same
pub number_kept : (most m : ℕ) (ds : List ℕ) → most < 2 ^ 64 → number_in most ds ≡ Some m
    → number_in most (decimal m) ≡ Some m
number_kept most m ds lt e = number_again most m (decimal m) lt (number_most most ds m e) refl

-- a decimal has digits alone
pub decimal_digits : (n : ℕ) → n < 2 ^ 64 → all_ascii_digits (decimal n) ≡ true
decimal_digits n lt = digits_decimal own n lt
