-- Texts with a mark between them split into these texts.
use Rattle.std.proofs.Common.{◌≡◌, ℕ, ◌≤◌, ◌<◌, true, false, ltb, eqb, List, [], ◌∷◌, ◌++◌, map, refl, ap, ◌∙◌, arith}
use Rattle.std.specs.List.{All, list_all}
use Rattle.std.proofs.lemmas.Bool.{and_parts, and_from, ltb-true, lt-ltb, ne_eqb}
use Rattle.std.proofs.lemmas.List.{append-nil, map-id}
use Rattle.std.proofs.lemmas.List.Elements.{All-nil, All-cons}
use Rattle.std.proofs.lemmas.List.Folds.{list_all-append}
use Rattle.std.proofs.lemmas.List.Splits.{slice_split_none, slice_split_at}
use Rattle.lks_words.specs.Words.{parts}
use Rattle.lks_words.specs.Texts.{are_above}
use Rattle.lks_words.specs.Printing.{behind}

-- a text of codes above a mark hasn't the mark
pub lacks : (code mark : ℕ) (text : List ℕ) → mark ≤ code → are_above code text ≡ true
    → All (λ b. eqb b mark ≡ false) text
lacks code mark [] le h = All-nil (λ b. eqb b mark ≡ false)
lacks code mark (c ∷ text) le h =
    let p = and_parts (ltb code c) (are_above code text) h in
    let above = ltb-true code c p.0 in
    All-cons (λ b. eqb b mark ≡ false) c text (ne_eqb c mark (λ e. absurd (omega (arith, above, e))))
    (lacks code mark text le p.1)

pub weaker : (low code : ℕ) (text : List ℕ) → low ≤ code → are_above code text ≡ true → are_above low text ≡ true
weaker low code [] le h = refl
weaker low code (c ∷ text) le h =
    let p = and_parts (ltb code c) (are_above code text) h in
    let above = ltb-true code c p.0 in
    and_from (ltb low c) (are_above low text) (lt-ltb low c (omega (arith, above))) (weaker low code text le p.1)

pub above_append : (code : ℕ) (a b : List ℕ) → are_above code a ≡ true → are_above code b ≡ true
    → are_above code (a ++ b) ≡ true
above_append code a b p q = list_all-append (λ c. ltb code c) a b ∙ and_from (are_above code a) (are_above code b) p q

-- a text without the mark
pub uncut : (code mark : ℕ) (text : List ℕ) → mark ≤ code → are_above code text ≡ true → parts mark text ≡ text ∷ []
uncut code mark text le h = slice_split_none (λ b. eqb b mark) text (lacks code mark text le h)

module _ {X : Type 0} (text : X → List ℕ) where
  -- marks and texts
  pub above_behind : (code mark : ℕ) (xs : List X) → code < mark → list_all (λ x. are_above code (text x)) xs ≡ true
      → are_above code (behind mark text xs) ≡ true
  above_behind code mark [] lt h = refl
  above_behind code mark (x ∷ xs) lt h =
      let p = and_parts (are_above code (text x)) (list_all (λ y. are_above code (text y)) xs) h in
      and_from (ltb code mark) _ (lt-ltb code mark lt)
      (above_append code (text x) (behind mark text xs) p.0 (above_behind code mark xs lt p.1))

  -- the first text, and texts behind a mark each
  pub split_behind : (code mark : ℕ) (first : List ℕ) (xs : List X) → mark ≤ code → are_above code first ≡ true
      → list_all (λ x. are_above code (text x)) xs ≡ true
      → parts mark (first ++ behind mark text xs) ≡ first ∷ map text xs
  split_behind code mark first [] le h hs =
      ap (parts mark) (append-nil first) ∙ slice_split_none (λ b. eqb b mark) first (lacks code mark first le h)
  split_behind code mark first (x ∷ xs) le h hs =
      let p = and_parts (are_above code (text x)) (list_all (λ y. are_above code (text y)) xs) hs in
      slice_split_at (λ b. eqb b mark) first mark (text x ++ behind mark text xs) (lacks code mark first le h)
      (same mark)
      ∙ ap (λ ws. first ∷ ws) (split_behind code mark (text x) xs le p.0 p.1)
    where
      same : (n : ℕ) → eqb n n ≡ true
      same n = grind arith

-- words behind a space each are split into these words
pub words_part : (first : List ℕ) (words : List (List ℕ)) → are_above 32 first ≡ true
    → list_all (are_above 32) words ≡ true → parts 32 (first ++ behind 32 (λ w. w) words) ≡ first ∷ words
words_part first words h hs =
    split_behind (λ w. w) 32 32 first words (omega arith) h hs ∙ ap (λ ws. first ∷ ws) (map-id words)
