-- A value that all of the bytes spell.
use Rattle.std.proofs.Common.{◌≡◌, ℕ, List, [], ◌∷◌, ◌++◌, Result, Ok, refl, sym, ap, subst, ◌∙◌}
use Rattle.std.proofs.lemmas.List.{append-nil}
use Rattle.lks_field.specs.declared.fault.FieldFault.{FieldFault}
use Rattle.lks_field.specs.Reading.{◌>>=◌, told, end_of}
use Rattle.lks_field.proofs.Steps.{Reader}
use Rattle.lks_field.proofs.Takes.{IsBytes, IsField, bind_ok, ok_is}

module _ {X E : Type 0} {reader : Reader X E} {spell : X → List ℕ} {Fits : X → Type 0} (told_as : FieldFault → E)
    (field : IsField reader spell Fits) where
  -- the value of a reader, and then no byte more
  abbrev pub whole : List ℕ → Result X E
  whole bytes = reader bytes >>= λ x. told told_as (end_of x.1) >>= λ end. Ok x.0

  ended : (rest : List ℕ) (x : Unit {0}) → told told_as (end_of rest) ≡ Ok x → rest ≡ []
  ended [] x e = refl
  ended (b ∷ rest) x e = absurd cc

  -- what is read is spelled so
  pub whole_takes : (bytes : List ℕ) (x : X) → IsBytes bytes → whole bytes ≡ Ok x → Fits x × (bytes ≡ spell x)
  whole_takes bytes x fits e =
      let a = bind_ok (reader bytes) (λ y. told told_as (end_of y.1) >>= λ end. Ok y.0) x e in
      let b = bind_ok (told told_as (end_of a.0.1)) (λ end. Ok a.0.0) x a.2 in
      let t = field.takes bytes a.0 fits a.1 in
      let all : bytes
      ≡ spell a.0.0 = t.0.parts ∙ ap (λ (rest : List ℕ). spell a.0.0 ++ rest) (ended a.0.1 b.0 b.1)
      ∙ append-nil (spell a.0.0) in
      subst (λ (y : X). Fits y × (bytes ≡ spell y)) (ok_is {E = E} a.0.0 x b.2) (t.1, all)

  -- what is spelled so is read
  pub whole_again : (x : X) → Fits x → whole (spell x) ≡ Ok x
  whole_again x h =
      let bare : reader (spell x) ≡ Ok (x, []) = ap reader (sym (append-nil (spell x))) ∙ field.again x [] h in
      ap (λ (r : Result (X × List ℕ) E). r >>= λ y. told told_as (end_of y.1) >>= λ end. Ok y.0) bare
