-- Tables of tags: two bytes in front that announce what comes.
use Rattle.std.proofs.Common.{◌≡◌, ℕ, Bool, true, false, cond, eqb, List, [], ◌∷◌, Result, Ok, refl, sym, ap, subst}
use Rattle.std.proofs.lemmas.Bool.{eqb-true}
use Rattle.lks_field.specs.declared.fault.FieldFault.{FieldFault}
use Rattle.lks_field.specs.Reading.{◌>>=◌, told, byte_at, tagged}
use Rattle.lks_field.proofs.Takes.{IsBytes, Takes, bind_ok, ok_is, told_field, byte_field}

module _ {H E : Type 0} (spell : H → List ℕ) where
  -- what is found under a form is spelled by it and its tag
  abbrev pub AreTags : ℕ → (ℕ → Result H E) → Type 0
  AreTags form headings = (tag : ℕ) (h : H) → headings tag ≡ Ok h → spell h ≡ form ∷ tag ∷ []

  -- one row of a table of tags
  pub tag_row : (form tag k : ℕ) (found h : H) (other : Result H E) → spell found ≡ form ∷ k ∷ []
      → (other ≡ Ok h → spell h ≡ form ∷ tag ∷ []) → cond (eqb tag k) (Ok found) other ≡ Ok h
      → spell h ≡ form ∷ tag ∷ []
  tag_row form tag k found h other bytes_are others e = by_test (eqb tag k) refl e
    where
      by_test : (b : Bool) → eqb tag k ≡ b → cond b (Ok found) other ≡ Ok h → spell h ≡ form ∷ tag ∷ []
      by_test true is found_is =
          let same : found ≡ h = ok_is {E = E} found h found_is in
          let tag_is : tag ≡ k = eqb-true _ _ is in
          rw (← same, tag_is) bytes_are
      by_test false is other_is = others other_is

  tagged_takes : (told_as : FieldFault → E) (form : ℕ) (headings : ℕ → Result H E) → AreTags form headings
      → (bytes : List ℕ) (x : H × List ℕ) → IsBytes bytes → tagged told_as headings bytes ≡ Ok x
      → Takes (form ∷ bytes) (spell x.0) x.1
  tagged_takes told_as form headings are bytes x fits e =
      let a = bind_ok (told told_as (byte_at bytes)) (λ tag. headings tag.0 >>= λ heading. Ok (heading, tag.1)) x e in
      let b = bind_ok (headings a.0.0) (λ heading. Ok (heading, a.0.1)) x a.2 in
      let t = (told_field told_as byte_field).takes bytes a.0 fits a.1 in
      let whole : Takes (form ∷ bytes) (form ∷ a.0.0 ∷ [])
      a.0.1 = record { parts = ap (λ (w : List ℕ). form ∷ w) t.0.parts; rest_fits = t.0.rest_fits } in
      let made : Takes (form ∷ bytes) (spell b.0) a.0.1 = subst (λ (w : List ℕ). Takes (form ∷ bytes) w a.0.1)
      (sym (are a.0.0 b.0 b.1)) whole in
      subst (λ (y : H × List ℕ). Takes (form ∷ bytes) (spell y.0) y.1) (ok_is {E = E} (b.0, a.0.1) x b.2) made

  -- one row of a table of forms
  pub form_row : (told_as : FieldFault → E) (form k : ℕ) (headings : ℕ → Result H E) (other : Result (H × List ℕ) E)
      (rest : List ℕ) (x : H × List ℕ)
      → IsBytes rest → AreTags k headings → (other ≡ Ok x → Takes (form ∷ rest) (spell x.0) x.1)
      → cond (eqb form k) (tagged told_as headings rest) other ≡ Ok x → Takes (form ∷ rest) (spell x.0) x.1
  form_row told_as form k headings other rest x fits are others e = by_test (eqb form k) refl e
    where
      by_test : (b : Bool) → eqb form k ≡ b → cond b (tagged told_as headings rest) other ≡ Ok x
          → Takes (form ∷ rest) (spell x.0) x.1
      by_test true is read =
          subst (λ (f : ℕ). Takes (f ∷ rest) (spell x.0) x.1) (sym (eqb-true form k is))
          (tagged_takes told_as k headings are rest x fits read)
      by_test false is read = others read
