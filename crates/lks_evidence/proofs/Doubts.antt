-- Where there is no doubt.
use Rattle.std.proofs.Common.{◌≡◌, ◌≢◌, ◌∙◌, ap, sym, ℕ, zero, suc, Bool, true, false, cond, eqb, List, [], ◌∷◌, ◌++◌}
use Rattle.std.proofs.Common.{take, refl, arith, append_assoc}
use Rattle.std.specs.Prelude.{Option, Some, None, option_map, slice_get, ◌==◌, ◌||◌}
use Rattle.std.specs.List.{All}
use Rattle.std.proofs.lemmas.Bool.{eqb-true, eq-eqb, false≢true}
use Rattle.std.proofs.lemmas.List.{append-nil}
use Rattle.std.proofs.lemmas.List.Elements.{All-nil, All-cons, All-head, All-tail}
use Rattle.std.proofs.lemmas.List.Folds.{list_any_at}
use Rattle.std.proofs.lemmas.List.Kept.{AllPairs-cons}
use Rattle.lks_tally.specs.declared.ballots.Vote.{Vote}
use Rattle.lks_tally.specs.Distinct.{AreDistinct}
use Rattle.lks_tally.specs.Keeping.{has_vote_of}
use Rattle.lks_evidence.specs.declared.findings.Doubt.{Doubt}
use Rattle.lks_evidence.specs.declared.findings.Why.{Why}
use Rattle.lks_evidence.specs.Rules.{◌▹◌, unless, first_twice, first_failing}
use Rattle.lks_evidence.specs.Search.{each}

-- One rule and the next.

pub or_none : {X : Type 0} (a b : Option X) → a ▹ b ≡ None → (a ≡ None) × (b ≡ None)
or_none None b e = (refl, e)
or_none (Some x) b e = absurd cc

pub none_or : {X : Type 0} (a b : Option X) → a ≡ None → b ≡ None → a ▹ b ≡ None
none_or None b e f = f
none_or (Some x) b e f = absurd cc

pub unless_none : (t : Bool) (w : Why) → unless t w ≡ None → t ≡ true
unless_none true w e = refl
unless_none false w e = absurd cc

pub none_unless : (t : Bool) (w : Why) → t ≡ true → unless t w ≡ None
none_unless true w e = refl
none_unless false w e = absurd cc

pub map_none : {X Y : Type 0} (f : X → Y) (o : Option X) → option_map f o ≡ None → o ≡ None
map_none f None e = refl
map_none f (Some x) e = absurd cc

pub none_map : {X Y : Type 0} (f : X → Y) (o : Option X) → o ≡ None → option_map f o ≡ None
none_map f None e = refl
none_map f (Some x) e = absurd cc

-- A rule for each element.

pub each_none : {X : Type 0} (rule : List X → X → Option Doubt) (before xs : List X) → each rule before xs ≡ None
    → (i : ℕ) (x : X) → slice_get xs i ≡ Some x → rule (before ++ take i xs) x ≡ None
each_none rule before [] e i x at = absurd cc
each_none rule before (y ∷ xs) e zero x at =
    let same : y ≡ x = cc in
    ap (λ b. rule b x) (append-nil before) ∙ ap (rule before) (sym same) ∙ (or_none (rule before y) _ e).0
each_none rule before (y ∷ xs) e (suc i) x at =
    ap (λ b. rule b x) (sym (append_assoc before (y ∷ []) (take i xs)))
    ∙ each_none rule (before ++ y ∷ []) xs (or_none (rule before y) _ e).1 i x at

pub none_each : {X : Type 0} (rule : List X → X → Option Doubt) (before xs : List X)
    → ((i : ℕ) (x : X) → slice_get xs i ≡ Some x → rule (before ++ take i xs) x ≡ None) → each rule before xs ≡ None
none_each rule before [] f = refl
none_each rule before (y ∷ xs) f =
    none_or (rule before y) _ (ap (λ b. rule b y) (sym (append-nil before)) ∙ f 0 y refl)
    (none_each rule (before ++ y ∷ []) xs
    (λ i x at. ap (λ b. rule b x) (append_assoc before (y ∷ []) (take i xs)) ∙ f (suc i) x at))

-- Votes.

pub failing_none : (passes : Vote → Bool) (vs : List Vote) → first_failing passes vs ≡ None
    → All (λ v. passes v ≡ true) vs
failing_none passes [] e = All-nil _
failing_none passes (v ∷ vs) e = by_test (passes v) refl e (failing_none passes vs)
  where
    by_test : (t : Bool) → passes v ≡ t → cond t (first_failing passes vs) (Some v.voter) ≡ None
        → (first_failing passes vs ≡ None → All (λ v. passes v ≡ true) vs) → All (λ v. passes v ≡ true) (v ∷ vs)
    by_test true is e rest = All-cons (λ v. passes v ≡ true) v vs is (rest e)
    by_test false is e rest = absurd cc

pub none_failing : (passes : Vote → Bool) (vs : List Vote) → All (λ v. passes v ≡ true) vs
    → first_failing passes vs ≡ None
none_failing passes [] all = refl
none_failing passes (v ∷ vs) all =
    ap (λ t. cond t (first_failing passes vs) (Some v.voter)) (All-head (λ v. passes v ≡ true) v vs all)
    ∙ none_failing passes vs (All-tail (λ v. passes v ≡ true) v vs all)

-- who has no vote among these is the voter of none
unvoted : (vs : List Vote) (voter : ℕ) → has_vote_of vs voter ≡ false → All (λ w. voter ≢ w.voter) vs
unvoted vs voter new = λ k d within same.
    false≢true (sym new ∙ list_any_at (λ w. w.voter == voter) vs k d within (eq-eqb _ voter (sym same)))

voted_not : (vs : List Vote) (voter : ℕ) → All (λ w. voter ≢ w.voter) vs → has_vote_of vs voter ≡ false
voted_not [] voter all = refl
voted_not (w ∷ vs) voter all =
    by_test (eqb w.voter voter) refl (voted_not vs voter (All-tail (λ w. voter ≢ w.voter) w vs all))
  where
    by_test : (t : Bool) → eqb w.voter voter ≡ t → has_vote_of vs voter ≡ false → has_vote_of (w ∷ vs) voter ≡ false
    by_test true is rest = absurd (All-head (λ w. voter ≢ w.voter) w vs all (sym (eqb-true w.voter voter is)))
    by_test false is rest = (λ i. is i || has_vote_of vs voter) ∙ rest

pub twice_none : (vs : List Vote) → first_twice vs ≡ None → AreDistinct vs
twice_none [] e = λ i j d before within. absurd (omega arith)
twice_none (v ∷ vs) e = by_test (has_vote_of vs v.voter) refl e (twice_none vs)
  where
    by_test : (t : Bool) → has_vote_of vs v.voter ≡ t → cond t (Some v.voter) (first_twice vs) ≡ None
        → (first_twice vs ≡ None → AreDistinct vs) → AreDistinct (v ∷ vs)
    by_test true is e rest = absurd cc
    by_test false is e rest = AllPairs-cons (λ v w. v.voter ≢ w.voter) v vs (unvoted vs v.voter is) (rest e)

pub none_twice : (vs : List Vote) → AreDistinct vs → first_twice vs ≡ None
none_twice [] distinct = refl
none_twice (v ∷ vs) distinct =
    ap (λ t. cond t (Some v.voter) (first_twice vs))
    (voted_not vs v.voter (λ k d within. distinct 0 (suc k) d (omega arith) (omega arith)))
    ∙ none_twice vs (λ i j d before within. distinct (suc i) (suc j) d (omega arith) (omega arith))
