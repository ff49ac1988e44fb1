-- What a field takes from the front of the bytes, and that what was written is read again.
use Rattle.std.proofs.Common.{◌≡◌, ℕ, suc, ◌+◌, ◌<◌, ◌≤◌, Bool, true, false, cond, eqb, ltb, List, [], ◌∷◌, ◌++◌}
use Rattle.std.proofs.Common.{length, get_or, take, drop, Result, Ok, Err, refl, sym, ap, subst, ◌∙◌, append_assoc}
use Rattle.std.proofs.Common.{arith, inl, inr}
use Rattle.std.proofs.lemmas.Bool.{cases_lt, eq-eqb, eqb-true, ltb-false, le-ltb}
use Rattle.std.proofs.lemmas.List.{take_at, drop_at, take-append-drop, length-append, length-take, get_or-drop}
use Rattle.std.proofs.lemmas.List.{get_or-take, get_or_past}
use Rattle.lks_field.specs.declared.fault.FieldFault.{FieldFault}
use Rattle.lks_field.specs.declared.fault.FieldFault.TheVariants.{Short, Value}
use Rattle.lks_field.specs.Reading.{◌>>=◌, told, byte_at, given_at, bytes_at, hash_at}

abbrev pub IsBytes : List ℕ → Type 0
IsBytes bytes = (i : ℕ) → get_or bytes i 0 < 256

pub IsBytes-drop : (n : ℕ) (bytes : List ℕ) → IsBytes bytes → IsBytes (drop n bytes)
IsBytes-drop n bytes h i = rw get_or-drop (h (n + i))

pub IsBytes-take : (n : ℕ) (bytes : List ℕ) → IsBytes bytes → IsBytes (take n bytes)
IsBytes-take n bytes h i =
    elim (cases_lt i n) [
      | inl lt ↦ rw (get_or-take n bytes i 0 lt) (h i)
      | inr le ↦ rw (get_or_past (take n bytes) i 0 (omega (arith, length-take n bytes))) (omega arith)
    ]

-- ---- steps that did not fail

pub bind_ok : {A B E : Type 0} (r : Result A E) (f : A → Result B E) (y : B) → (r >>= f) ≡ Ok y
    → (x : A) × (r ≡ Ok x) × (f x ≡ Ok y)
bind_ok (Ok x) f y e = (x, refl, e)
bind_ok (Err d) f y e = absurd cc

pub guard_ok : {A E : Type 0} (b : Bool) (d : E) (x y : A) → cond b (Err d) (Ok x) ≡ Ok y → (b ≡ false) × (x ≡ y)
guard_ok true d x y e = absurd cc
guard_ok false d x y e = (refl, cc)

pub told_ok : {A D E : Type 0} (f : D → E) (r : Result A D) (x : A) → told f r ≡ Ok x → r ≡ Ok x
told_ok f (Ok y) x e = cc
told_ok f (Err d) x e = absurd cc

abbrev done : {A : Type 0} → (E : Type 0) → A → Result A E
done E x = Ok x

pub ok_is : {A E : Type 0} (x y : A) → done E x ≡ done E y → x ≡ y
ok_is x y e = cc

-- ---- fields

-- the bytes are this text and the rest
pub record Takes (bytes text rest : List ℕ) : Type 0 where
  pub parts : bytes ≡ text ++ rest
  pub rest_fits : IsBytes rest

pub Takes-then : (a x b y c : List ℕ) → Takes a x b → Takes b y c → Takes a (x ++ y) c
Takes-then a x b y c p q =
    record {
      parts = p.parts ∙ ap (λ (t : List ℕ). x ++ t) q.parts ∙ sym (append_assoc x y c);
      rest_fits = q.rest_fits;
    }

-- what is read is spelled so and fits, and what fits is read again
pub record IsField {X E : Type 0} (reader : List ℕ → Result (X × List ℕ) E) (spell : X → List ℕ)
    (Fits : X → Type 0) : Type 0 where
  pub takes : (bytes : List ℕ) (x : X × List ℕ) → IsBytes bytes → reader bytes ≡ Ok x
      → Takes bytes (spell x.0) x.1 × Fits x.0
  pub again : (x : X) (rest : List ℕ) → Fits x → reader (spell x ++ rest) ≡ Ok (x, rest)

-- the same with its fault told as another
pub told_field : {X D E : Type 0} {reader : List ℕ → Result (X × List ℕ) D} {spell : X → List ℕ} {Fits : X → Type 0}
    (f : D → E)
    → IsField reader spell Fits → IsField (λ bytes. told f (reader bytes)) spell Fits
told_field {reader = reader} f field = record {
  takes = λ bytes x fits e. field.takes bytes x fits (told_ok f (reader bytes) x e);
  again = λ x rest h. ap (told f) (field.again x rest h);
}

-- the same under a fact that says as much
pub field_as : {X E : Type 0} {reader : List ℕ → Result (X × List ℕ) E} {spell : X → List ℕ} {F G : X → Type 0}
    → ((x : X) → F x → G x) → ((x : X) → G x → F x) → IsField reader spell F → IsField reader spell G
field_as there back field = record {
  takes = λ bytes x fits e. let t = field.takes bytes x fits e in (t.0, there x.0 t.1);
  again = λ x rest h. field.again x rest (back x h);
}

-- ---- bytes

pub byte_field : IsField byte_at (λ b. b ∷ []) (λ b. b < 256)
byte_field = record { takes = takes; again = λ b rest h. refl }
  where
    takes : (bytes : List ℕ) (x : ℕ × List ℕ) → IsBytes bytes → byte_at bytes ≡ Ok x
        → Takes bytes (x.0 ∷ []) x.1 × (x.0 < 256)
    takes [] x fits e = absurd cc
    takes (b ∷ rest) x fits e =
        subst (λ (y : ℕ × List ℕ). Takes (b ∷ rest) (y.0 ∷ []) y.1 × (y.0 < 256))
        (ok_is {E = FieldFault} (b, rest) x e) (record { parts = refl; rest_fits = λ i. fits (suc i) }, fits 0)

pub given_field : (given : ℕ) → IsField (given_at given) (λ x. given ∷ []) (λ x. Unit {0})
unfolding given_at
given_field given = record { takes = takes; again = λ x rest h. rw (eq-eqb given given refl) refl }
  where
    takes : (bytes : List ℕ) (x : Unit {0} × List ℕ) → IsBytes bytes → given_at given bytes ≡ Ok x
        → Takes bytes (given ∷ []) x.1 × Unit {0}
    takes [] x fits e = absurd cc
    takes (b ∷ rest) x fits e = by_test (eqb b given) refl e
      where
        by_test : (same : Bool) → eqb b given ≡ same → cond same (Ok (tt, rest)) (Err Value) ≡ Ok x
            → Takes (b ∷ rest) (given ∷ []) x.1 × Unit {0}
        by_test true same found =
            subst (λ (y : Unit {0} × List ℕ). Takes (b ∷ rest) (given ∷ []) y.1 × Unit {0})
            (ok_is {E = FieldFault} (tt, rest) x found) (
              record { parts = ap (λ (k : ℕ). k ∷ rest) (eqb-true b given same); rest_fits = λ i. fits (suc i) },
              tt,
            )
        by_test false same found = absurd cc

pub run_field : (n : ℕ) → IsField (bytes_at n) (λ x. x) (λ x. length x ≡ n)
run_field n = record { takes = takes; again = again }
  where
    takes : (bytes : List ℕ) (x : List ℕ × List ℕ) → IsBytes bytes → bytes_at n bytes ≡ Ok x
        → Takes bytes x.0 x.1 × (length x.0 ≡ n)
    takes bytes x fits e =
        let g = guard_ok (ltb (length bytes) n) Short (take n bytes, drop n bytes) x e in
        let long : n ≤ length bytes = ltb-false _ _ g.0 in
        let made : Takes bytes (take n bytes)
        (drop n bytes) = record {
          parts = sym (take-append-drop n bytes);
          rest_fits = IsBytes-drop n bytes fits;
        } in
        let len : length (take n bytes) ≡ n = omega (arith, length-take n bytes) in
        subst (λ (y : List ℕ × List ℕ). Takes bytes y.0 y.1 × (length y.0 ≡ n)) g.1 (made, len)

    again : (x rest : List ℕ) → length x ≡ n → bytes_at n (x ++ rest) ≡ Ok (x, rest)
    again x rest len =
        let long : ltb (length (x ++ rest)) n ≡ false = le-ltb _ _ (omega (arith, length-append x rest)) in
        rw (long, take_at x rest n len, drop_at x rest n len) refl

pub hash_field : IsField hash_at (λ x. x) (λ x. length x ≡ 32)
unfolding hash_at
hash_field = run_field 32
