-- Reading several fields one after another, there and back.
use Rattle.std.proofs.Common.{◌≡◌, ℕ, Bool, false, cond, List, [], ◌++◌, Result, Ok, Err, refl, sym, ap, subst, ◌∙◌}
use Rattle.std.proofs.Common.{append_assoc}
use Rattle.lks_field.specs.Reading.{◌>>=◌}
use Rattle.lks_field.proofs.Takes.{IsBytes, Takes, IsField, bind_ok, guard_ok, ok_is}

abbrev pub Reader : Type 0 → Type 0 → Type 0
Reader X E = List ℕ → Result (X × List ℕ) E

-- ---- from bytes to a value

-- what this reads behind the front is spelled so together with it, and fits
pub record IsTail {Y E : Type 0} (spell : Y → List ℕ) (Fits : Y → Type 0) (front : List ℕ) (Known : Type 0)
    (reader : Reader Y E) : Type 0 where
  pub takes : Known → (bytes : List ℕ) (y : Y × List ℕ) → IsBytes bytes → reader bytes ≡ Ok y
      → Takes (front ++ bytes) (spell y.0) y.1 × Fits y.0

-- one field more
pub reads_then : {Y X E : Type 0} {spell : Y → List ℕ} {Fits : Y → Type 0} {front : List ℕ} {Known : Type 0}
    {reader : Reader X E} {text : X → List ℕ} {Small : X → Type 0}
    (next : X × List ℕ → Result (Y × List ℕ) E) → IsField reader text Small
    → ((x : X) → IsTail spell Fits (front ++ text x) (Known × Small x) (λ bytes. next (x, bytes)))
    → IsTail spell Fits front Known (λ bytes. reader bytes >>= next)
reads_then {Y = Y} {X = X} {E = E} {spell = spell} {Fits = Fits} {front = front} {Known = Known} {reader = reader}
    {text = text} {Small = Small} next field others =
    record { takes = takes }
  where
    takes : Known → (bytes : List ℕ) (y : Y × List ℕ) → IsBytes bytes → (reader bytes >>= next) ≡ Ok y
        → Takes (front ++ bytes) (spell y.0) y.1 × Fits y.0
    takes known bytes y fits e =
        let a = bind_ok (reader bytes) next y e in
        let t = field.takes bytes a.0 fits a.1 in
        let n = (others a.0.0).takes (known, t.1) a.0.1 y t.0.rest_fits a.2 in (
          record {
            parts = ap (λ (w : List ℕ). front ++ w) t.0.parts ∙ sym (append_assoc front (text a.0.0) a.0.1)
                ∙ n.0.parts;
            rest_fits = n.0.rest_fits;
          },
          n.1,
        )

abbrev done : {X : Type 0} → (E : Type 0) → X → Result X E
done E x = Ok x

-- no field more
pub reads_end : {Y E : Type 0} {spell : Y → List ℕ} {Fits : Y → Type 0} {front : List ℕ} {Known : Type 0} (y : Y)
    → (Known → (front ≡ spell y) × Fits y) → IsTail {E = E} spell Fits front Known (λ bytes. Ok (y, bytes))
reads_end {Y = Y} {E = E} {spell = spell} {Fits = Fits} {front = front} {Known = Known} y is = record { takes = takes }
  where
    takes : Known → (bytes : List ℕ) (z : Y × List ℕ) → IsBytes bytes → done E (y, bytes) ≡ done E z
        → Takes (front ++ bytes) (spell z.0) z.1 × Fits z.0
    takes known bytes z fits e =
        let h = is known in
        subst (λ (w : Y × List ℕ). Takes (front ++ bytes) (spell w.0) w.1 × Fits w.0) (ok_is {E = E} (y, bytes) z e)
        (record { parts = ap (λ (w : List ℕ). w ++ bytes) h.0; rest_fits = fits }, h.1)

-- ---- from a value to its bytes

-- behind this front the whole reader goes on with another
pub record Goes {Y E : Type 0} (whole : Reader Y E) (front : List ℕ) (reader : Reader Y E) : Type 0 where
  pub at : (rest : List ℕ) → whole (front ++ rest) ≡ reader rest

pub goes_first : {Y E : Type 0} (whole : Reader Y E) → Goes whole [] whole
goes_first whole = record { at = λ rest. refl }

pub goes_then : {Y X E : Type 0} {whole : Reader Y E} {front : List ℕ} {reader : Reader X E} {text : X → List ℕ}
    {Small : X → Type 0}
    (next : X × List ℕ → Result (Y × List ℕ) E) → Goes whole front (λ bytes. reader bytes >>= next)
    → IsField reader text Small → (x : X) → Small x → Goes whole (front ++ text x) (λ bytes. next (x, bytes))
goes_then {Y = Y} {X = X} {E = E} {whole = whole} {front = front} {reader = reader} {text = text} next so_far field
    x small =
    record {
      at =
          λ rest. ap whole (append_assoc front (text x) rest) ∙ so_far.at (text x ++ rest)
          ∙ ap (λ (r : Result (X × List ℕ) E). r >>= next) (field.again x rest small);
    }

-- ---- values that a test refuses

pub guarded_field : {X E : Type 0} {reader : Reader X E} {spell : X → List ℕ} {Fits : X → Type 0} (fault : E)
    (test : X → Bool)
    → IsField reader spell Fits
    → IsField (λ bytes. reader bytes >>= λ x. cond (test x.0) (Err fault) (Ok x)) spell
    (λ x. Fits x × (test x ≡ false))
guarded_field {X = X} {E = E} {reader = reader} {spell = spell} {Fits = Fits} fault test field =
    record { takes = takes; again = λ x rest h. rw (field.again x rest h.0, h.1) refl }
  where
    takes : (bytes : List ℕ) (x : X × List ℕ) → IsBytes bytes
        → (reader bytes >>= λ y. cond (test y.0) (Err fault) (Ok y)) ≡ Ok x
        → Takes bytes (spell x.0) x.1 × (Fits x.0 × (test x.0 ≡ false))
    takes bytes x fits e =
        let a = bind_ok (reader bytes) (λ y. cond (test y.0) (Err fault) (Ok y)) x e in
        let g = guard_ok (test a.0.0) fault a.0 x a.2 in
        let t = field.takes bytes a.0 fits a.1 in
        subst (λ (y : X × List ℕ). Takes bytes (spell y.0) y.1 × (Fits y.0 × (test y.0 ≡ false))) g.1 (t.0, (t.1, g.0))
