-- Lists that have no member twice, and what a list has.
use Rattle.std.proofs.Common.{◌≡◌, ◌≢◌, ℕ, zero, suc, ◌<◌, Bool, true, false, not, ◌||◌, List, [], ◌∷◌, ◌++◌, length}
use Rattle.std.proofs.Common.{get_or, eqb, refl, sym, ◌∙◌, arith}
use Rattle.std.specs.Prelude.{if◌then◌else◌}
use Rattle.std.specs.List.{All, AllPairs}
use Rattle.std.proofs.lemmas.Bool.{eq-eqb, false≢true}
use Rattle.std.proofs.lemmas.List.Folds.{list_any_at}
use Rattle.std.proofs.lemmas.List.Elements.{All-append, All-push, All-filter}
use Rattle.std.proofs.lemmas.List.Kept.{AllPairs-cons, AllPairs-filter}
use Rattle.std.proofs.lemmas.List.Quantifiers.{all_pairs_push}
use Rattle.lks_base.specs.Checking.{has_member}
use Rattle.lks_choice.specs.Lists.{without_peers, joined_by, all_joined, list_after, IsReferenceList}

-- a list has the member at each place
pub has_at : (list : List ℕ) (k d p : ℕ) → k < length list → get_or list k d ≡ p → has_member list p ≡ true
unfolding has_member
has_at list k d p within same = list_any_at (λ q. eqb q p) list k d within (eq-eqb _ p same)

-- what a list hasn't is none of its members
pub absent_apart : (list : List ℕ) (p : ℕ) → has_member list p ≡ false → All (λ q. q ≢ p) list
absent_apart list p absent = λ k d within same. false≢true (sym absent ∙ has_at list k d p within same)

pub AllPairs-head : (R : ℕ → ℕ → Type 0) (x : ℕ) (xs : List ℕ) → AllPairs R (x ∷ xs) → All (R x) xs
AllPairs-head R x xs h = λ k d within. h zero (suc k) d (omega arith) (omega arith)

pub AllPairs-tail : (R : ℕ → ℕ → Type 0) (x : ℕ) (xs : List ℕ) → AllPairs R (x ∷ xs) → AllPairs R xs
AllPairs-tail R x xs h = λ i j d before within. h (suc i) (suc j) d (omega arith) (omega arith)

-- two such lists, where no member of one is in the other
pub AllPairs-append : (xs ys : List ℕ) → AllPairs ◌≢◌ xs → AllPairs ◌≢◌ ys → All (λ y. has_member xs y ≡ false) ys
    → AllPairs ◌≢◌ (xs ++ ys)
unfolding has_member
AllPairs-append [] ys once_x once_y apart = once_y
AllPairs-append (x ∷ xs) ys once_x once_y apart =
    let here : All (λ y. x ≢ y) ys =
    λ k d within same. false≢true (sym (apart k d within) ∙ has_at (x ∷ xs) 0 d _ (omega arith) same) in
    let rest : All (λ y. has_member xs y ≡ false) ys = λ k d within. grind (arith, apart k d within) in
    AllPairs-cons ◌≢◌ x (xs ++ ys) (All-append (λ y. x ≢ y) xs ys (AllPairs-head ◌≢◌ x xs once_x) here)
    (AllPairs-append xs ys (AllPairs-tail ◌≢◌ x xs once_x) once_y rest)

-- a peer that joins a reference list leaves it one
joined_kept : (own : ℕ) (list : List ℕ) (p : ℕ) → IsReferenceList own list → IsReferenceList own (joined_by own list p)
joined_kept own list p is = by_test (eqb p own) (has_member list p) refl refl where
  by_test : (a b : Bool) → eqb p own ≡ a → has_member list p ≡ b
      → IsReferenceList own (if a || b then list else list ++ p ∷ [])
  by_test true b own_is there = is
  by_test false true own_is there = is
  by_test false false not_own absent = record {
    once = all_pairs_push ◌≢◌ list p is.once (λ k d within. absent_apart list p absent k d within);
    others = All-push (λ q. q ≢ own) list p is.others (λ same. false≢true (sym not_own ∙ eq-eqb p own same));
  }

all_joined_kept : (own : ℕ) (list peers : List ℕ) → IsReferenceList own list
    → IsReferenceList own (all_joined own list peers)
all_joined_kept own list [] is = is
all_joined_kept own list (p ∷ ps) is = all_joined_kept own (joined_by own list p) ps (joined_kept own list p is)

-- an agreed poll leaves a reference list one
pub list_after_kept : (own : ℕ) (list against joining picked : List ℕ) → IsReferenceList own list
    → IsReferenceList own (list_after own list against joining picked)
unfolding list_after
list_after_kept own list against joining picked is =
    let test : ℕ → Bool = λ p. not (has_member against p) in
    let stayed : IsReferenceList own (without_peers against list) = record {
      once = AllPairs-filter ◌≢◌ test list is.once;
      others = All-filter test (λ q. q ≢ own) list is.others;
    } in
    all_joined_kept own _ picked (all_joined_kept own _ joining stayed)

-- the same of a list that is known by equations
pub IsReferenceList-after : (own list_own : ℕ) (list against joining picked new : List ℕ) → list_own ≡ own
    → new ≡ list_after own list against joining picked
    → IsReferenceList own list → IsReferenceList list_own new
IsReferenceList-after own list_own list against joining picked new own_is is before =
    rw (own_is, is) (list_after_kept own list against joining picked before)
