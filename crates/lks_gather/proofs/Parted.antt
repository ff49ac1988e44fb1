-- Bytes are parted where their first journal begins.
use Rattle.std.proofs.Common.{◌≡◌, ◌⊎◌, inl, inr, ◌==◌, ℕ, Bool, true, false, cond, List, [], ◌∷◌, ◌++◌, length, take}
use Rattle.std.proofs.Common.{refl, ap, ◌∙◌}
use Rattle.std.specs.Prelude.{codes}
use Rattle.std.specs.Str.{bytes_eq}
use Rattle.std.proofs.lemmas.Bool.{and_parts, and_from}
use Rattle.lks_gather.specs.Sets.{begins_journal, is_journal_at, script_from, journals_from}

pub parted_whole : (starts : Bool) (bytes : List ℕ) → script_from starts bytes ++ journals_from starts bytes ≡ bytes
unfolding script_from journals_from
parted_whole starts [] = refl
parted_whole starts (b ∷ bytes) = by_test (is_journal_at starts (b ∷ bytes)) (parted_whole (b == 10) bytes)
  where
    by_test : (cut : Bool) → script_from (b == 10) bytes ++ journals_from (b == 10) bytes ≡ bytes
        → cond cut [] (b ∷ script_from (b == 10) bytes) ++ cond cut (b ∷ bytes) (journals_from (b == 10) bytes)
        ≡ b ∷ bytes
    by_test true rest = refl
    by_test false rest = ap (λ (l : List ℕ). b ∷ l) rest

-- no bytes, or a line that gives a journal
abbrev pub AreJournals : List ℕ → Type 0
AreJournals bytes = (bytes ≡ []) ⊎ (begins_journal bytes ≡ true)

begun : (starts : Bool) (bytes : List ℕ) → is_journal_at starts bytes ≡ true → begins_journal bytes ≡ true
unfolding is_journal_at
begun starts bytes e = (and_parts starts (begins_journal bytes) e).1

pub parted_begins : (starts : Bool) (bytes : List ℕ) → AreJournals (journals_from starts bytes)
unfolding journals_from
parted_begins starts [] = inl refl
parted_begins starts (b ∷ bytes) = by_test (is_journal_at starts (b ∷ bytes)) refl (parted_begins (b == 10) bytes)
  where
    by_test : (cut : Bool) → is_journal_at starts (b ∷ bytes) ≡ cut → AreJournals (journals_from (b == 10) bytes)
        → AreJournals (cond cut (b ∷ bytes) (journals_from (b == 10) bytes))
    by_test true is rest = inr (begun starts (b ∷ bytes) is)
    by_test false is rest = rest

-- what begins so does so with more behind it
front_stays : (front text rest : List ℕ) → bytes_eq (take (length front) text) front ≡ true
    → bytes_eq (take (length front) (text ++ rest)) front ≡ true
front_stays [] text rest e = refl
front_stays (p ∷ front) [] rest e = absurd cc
front_stays (p ∷ front) (x ∷ text) rest e =
    let both = and_parts (x == p) (bytes_eq (take (length front) text) front) e in
    and_from (x == p) (bytes_eq (take (length front) (text ++ rest)) front) both.0 (front_stays front text rest both.1)

begun_more : (starts : Bool) (text rest : List ℕ) → is_journal_at starts text ≡ true
    → is_journal_at starts (text ++ rest) ≡ true
unfolding is_journal_at begins_journal
begun_more starts text rest e =
    let both = and_parts starts (bytes_eq (take 8 text) (codes "journal ")) e in
    and_from starts (bytes_eq (take 8 (text ++ rest)) (codes "journal ")) both.0
    (front_stays (codes "journal ") text rest both.1)

not_before : (starts : Bool) (text rest : List ℕ) (before : Bool) → is_journal_at starts text ≡ before
    → is_journal_at starts (text ++ rest) ≡ false → is_journal_at starts text ≡ false
not_before starts text rest true e f = let more = begun_more starts text rest e in absurd (cc (more, f))
not_before starts text rest false e f = e

nothing : (starts : Bool) → journals_from starts [] ≡ []
unfolding journals_from
nothing starts = refl

one_more : (starts : Bool) (b : ℕ) (text : List ℕ) → is_journal_at starts (b ∷ text) ≡ false
    → journals_from (b == 10) text ≡ [] → journals_from starts (b ∷ text) ≡ []
unfolding journals_from
one_more starts b text is rest = rw is rest

pub parted_first : (starts : Bool) (bytes : List ℕ) → journals_from starts (script_from starts bytes) ≡ []
unfolding script_from
parted_first starts [] = nothing starts
parted_first starts (b ∷ bytes) = by_test (is_journal_at starts (b ∷ bytes)) refl (parted_first (b == 10) bytes)
  where
    by_test : (cut : Bool) → is_journal_at starts (b ∷ bytes) ≡ cut
        → journals_from (b == 10) (script_from (b == 10) bytes) ≡ []
        → journals_from starts (cond cut [] (b ∷ script_from (b == 10) bytes)) ≡ []
    by_test true is rest = nothing starts
    by_test false is rest =
        let text = script_from (b == 10) bytes in
        let later = journals_from (b == 10) bytes in
        one_more starts b text
        (not_before starts (b ∷ text) later (is_journal_at starts (b ∷ text)) refl
        (ap (λ (l : List ℕ). is_journal_at starts (b ∷ l)) (parted_whole (b == 10) bytes) ∙ is)) rest
