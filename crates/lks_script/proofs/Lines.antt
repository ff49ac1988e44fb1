-- Lines that are read one after another, as a loop does.
use Rattle.std.proofs.Common.{◌≡◌, ◌==◌, ℕ, ◌+◌, ◌≤◌, ◌<◌, Bool, true, false, cond, ltb, List, [], ◌∷◌, length, take}
use Rattle.std.proofs.Common.{drop, Some, None, Err, refl, sym, arith}
use Rattle.std.specs.List.{onto_first, position, position_or_len}
use Rattle.std.proofs.lemmas.Bool.{ltb-true, ltb-false}
use Rattle.std.proofs.lemmas.List.Splits.{slice_split_first, slice_split_none}
use Rattle.std.proofs.lemmas.List.Sums.{fails_before_first}
use Rattle.lks_script.specs.declared.drafts.Draft.{Draft}
use Rattle.lks_words.specs.Words.{parts}
use Rattle.lks_script.specs.Grammar.{with_line, line_number, end_in, lines_in}

-- the place of the first element that passes
placed : (b : Bool) (n at : ℕ) → cond b (Some n) None ≡ Some at → (b ≡ true) × (n ≡ at)
placed true n at e = (refl, cc)
placed false n at e = absurd cc

missing : (b : Bool) (n : ℕ) → cond b (Some n) None ≡ None → b ≡ false
missing true n e = absurd cc
missing false n e = refl

-- a text up to its first mark, and behind that
pub cut_at : (code : ℕ) (text : List ℕ) (at : ℕ) → position (λ b. b == code) text ≡ Some at
    → (at < length text) × (parts code text ≡ take at text ∷ parts code (drop (at + 1) text))
cut_at code text at found =
    let here = placed (ltb (position_or_len (λ b. b == code) text) (length text))
    (position_or_len (λ b. b == code) text) at found in
    let within : position_or_len (λ b. b == code) text < length text = ltb-true _ _ here.0 in
    (omega arith, rw (sym here.1) (slice_split_first (λ b. b == code) text 0 within))

-- a text without a mark
pub uncut : (code : ℕ) (text : List ℕ) → position (λ b. b == code) text ≡ None → parts code text ≡ text ∷ []
uncut code text lost =
    let past : length text
    ≤ position_or_len (λ b. b == code) text = ltb-false _ _
    (missing (ltb (position_or_len (λ b. b == code) text) (length text))
    (position_or_len (λ b. b == code) text) lost) in
    slice_split_none (λ b. b == code) text (λ k d lt. fails_before_first (λ b. b == code) text k d (omega arith))

cut_is_cons : (b : Bool) (x : ℕ) (ps : List (List ℕ))
    → (y : List ℕ) × (ys : List (List ℕ)) × (cond b ([] ∷ ps) (onto_first x ps) ≡ y ∷ ys)
cut_is_cons true x ps = ([], ps, refl)
cut_is_cons false x [] = (x ∷ [], [], refl)
cut_is_cons false x (p ∷ ps) = (x ∷ p, ps, refl)

-- there is a part at least
pub parts_cons : (code : ℕ) (text : List ℕ) → (y : List ℕ) × (ys : List (List ℕ)) × (parts code text ≡ y ∷ ys)
parts_cons code [] = ([], [], refl)
parts_cons code (x ∷ text) = cut_is_cons (x == code) x (parts code text)

pub goes_on : (k : ℕ) (draft longer : Draft) (line more : List ℕ) → with_line draft line ≡ Some longer
    → lines_in k draft (line ∷ parts 10 more) ≡ lines_in (k + 1) longer (parts 10 more)
unfolding lines_in
goes_on k draft longer line more h =
    let m = parts_cons 10 more in
    rw m.2 (rw (h, lines_in) refl)

pub is_bad : (k : ℕ) (draft : Draft) (line more : List ℕ) → with_line draft line ≡ None
    → lines_in k draft (line ∷ parts 10 more) ≡ Err (line_number k)
unfolding lines_in
is_bad k draft line more h =
    let m = parts_cons 10 more in
    rw m.2 (rw (h, lines_in) refl)

pub comes_to_end : (k : ℕ) (draft : Draft) (last : List ℕ) → lines_in k draft (last ∷ []) ≡ end_in k draft last
unfolding lines_in
comes_to_end k draft last = refl
