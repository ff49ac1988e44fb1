-- Where the script ends and the journals begin, as a loop finds it.
use Rattle.std.proofs.Common.{◌≡◌, ◌==◌, ℕ, ◌+◌, ◌≤◌, ◌<◌, Bool, true, false, cond, List, [], ◌∷◌, ◌++◌, length}
use Rattle.std.proofs.Common.{filter, get_or, take, drop, refl, sym, ap, ◌∙◌, arith, append_assoc}
use Rattle.std.specs.List.{onto_first}
use Rattle.std.proofs.lemmas.List.{drop_more, drop_all, take_more, take_all, append-nil}
use Rattle.lks_words.specs.Words.{parts}
use Rattle.lks_gather.specs.Sets.{is_journal_at, script_from, journals_from}

-- ---- lines

longer : (x : ℕ) (ps : List (List ℕ)) (n : ℕ) → length ps ≡ n + 1 → length (onto_first x ps) ≡ n + 1
longer x [] n e = absurd (omega (arith, e))
longer x (p ∷ ps) n e = e

one_line : (b : Bool) (x : ℕ) (ps : List (List ℕ)) (feeds : List ℕ) → length ps ≡ length feeds + 1
    → length (cond b ([] ∷ ps) (onto_first x ps)) ≡ length (cond b (x ∷ feeds) feeds) + 1
one_line true x ps feeds e = omega (arith, e)
one_line false x ps feeds e = longer x ps (length feeds) e

-- a line more than line feeds
pub lines_counted : (bytes : List ℕ) → length (parts 10 bytes) ≡ length (filter (λ b. b == 10) bytes) + 1
lines_counted [] = refl
lines_counted (b ∷ bytes) = one_line (b == 10) b (parts 10 bytes) (filter (λ x. x == 10) bytes) (lines_counted bytes)

-- ---- the cut

-- so far all is of the script
pub record IsBefore (starts : Bool) (at : ℕ) (bytes : List ℕ) : Type 0 where
  pub script : take at bytes ++ script_from starts (drop at bytes) ≡ script_from true bytes
  pub journals : journals_from starts (drop at bytes) ≡ journals_from true bytes

pub begins : (bytes : List ℕ) → IsBefore true 0 bytes
begins bytes = record { script = refl; journals = refl }

here_script : (starts : Bool) (b : ℕ) (bytes : List ℕ) → is_journal_at starts (b ∷ bytes) ≡ true
    → script_from starts (b ∷ bytes) ≡ []
unfolding script_from
here_script starts b bytes is = rw is refl

here_journals : (starts : Bool) (b : ℕ) (bytes : List ℕ) → is_journal_at starts (b ∷ bytes) ≡ true
    → journals_from starts (b ∷ bytes) ≡ b ∷ bytes
unfolding journals_from
here_journals starts b bytes is = rw is refl

later_script : (starts : Bool) (b : ℕ) (bytes : List ℕ) → is_journal_at starts (b ∷ bytes) ≡ false
    → script_from starts (b ∷ bytes) ≡ b ∷ script_from (b == 10) bytes
unfolding script_from
later_script starts b bytes is = rw is refl

later_journals : (starts : Bool) (b : ℕ) (bytes : List ℕ) → is_journal_at starts (b ∷ bytes) ≡ false
    → journals_from starts (b ∷ bytes) ≡ journals_from (b == 10) bytes
unfolding journals_from
later_journals starts b bytes is = rw is refl

-- the line that begins here gives a journal
pub is_cut : (starts : Bool) (at : ℕ) (bytes : List ℕ) → IsBefore starts at bytes → at < length bytes
    → is_journal_at starts (drop at bytes) ≡ true
    → (take at bytes ≡ script_from true bytes) × (drop at bytes ≡ journals_from true bytes)
is_cut starts at bytes so_far lt is =
    let here : drop at bytes ≡ get_or bytes at 0 ∷ drop (at + 1) bytes = drop_more bytes at 0 lt in
    let there : is_journal_at starts (get_or bytes at 0 ∷ drop (at + 1) bytes) ≡ true = rw (sym here) is in (
      sym (append-nil (take at bytes))
          ∙ sym
          (ap (λ (l : List ℕ). take at bytes ++ l)
          (ap (script_from starts) here ∙ here_script starts (get_or bytes at 0) (drop (at + 1) bytes) there))
          ∙ so_far.script,
      here ∙ sym (here_journals starts (get_or bytes at 0) (drop (at + 1) bytes) there)
          ∙ sym (ap (journals_from starts) here) ∙ so_far.journals,
    )

-- one byte more
pub goes_on : (starts : Bool) (at : ℕ) (bytes : List ℕ) → IsBefore starts at bytes → at < length bytes
    → is_journal_at starts (drop at bytes) ≡ false → IsBefore (get_or bytes at 0 == 10) (at + 1) bytes
goes_on starts at bytes so_far lt is =
    let here : drop at bytes ≡ get_or bytes at 0 ∷ drop (at + 1) bytes = drop_more bytes at 0 lt in
    let there : is_journal_at starts (get_or bytes at 0 ∷ drop (at + 1) bytes) ≡ false = rw (sym here) is in
    let rest : List ℕ = script_from (get_or bytes at 0 == 10) (drop (at + 1) bytes) in
    record {
      script =
          ap (λ (l : List ℕ). l ++ rest) (take_more bytes at 0 lt)
          ∙ append_assoc (take at bytes) (get_or bytes at 0 ∷ []) rest
          ∙ sym
          (ap (λ (l : List ℕ). take at bytes ++ l)
          (ap (script_from starts) here
          ∙ later_script starts (get_or bytes at 0) (drop (at + 1) bytes) there))
          ∙ so_far.script;
      journals =
          sym
          (ap (journals_from starts) here
          ∙ later_journals starts (get_or bytes at 0) (drop (at + 1) bytes) there)
          ∙ so_far.journals;
    }

none_script : (starts : Bool) → script_from starts [] ≡ []
unfolding script_from
none_script starts = refl

none_journals : (starts : Bool) → journals_from starts [] ≡ []
unfolding journals_from
none_journals starts = refl

-- no line gives a journal
pub is_uncut : (starts : Bool) (at : ℕ) (bytes : List ℕ) → IsBefore starts at bytes → length bytes ≤ at
    → (take (length bytes) bytes ≡ script_from true bytes) × (drop (length bytes) bytes ≡ journals_from true bytes)
is_uncut starts at bytes so_far le =
    let none : drop at bytes ≡ [] = drop_all at bytes le in (
      take_all (length bytes) bytes (omega arith) ∙ sym (take_all at bytes le) ∙ sym (append-nil (take at bytes))
          ∙ sym (ap (λ (l : List ℕ). take at bytes ++ l) (ap (script_from starts) none ∙ none_script starts))
          ∙ so_far.script,
      drop_all (length bytes) bytes (omega arith) ∙ sym (ap (journals_from starts) none ∙ none_journals starts)
          ∙ so_far.journals,
    )
