-- What the loop over a nomination needs, and what is true of its candidates.
use Rattle.std.proofs.Common.{◌≡◌, ◌≢◌, ℕ, ◌+◌, ◌<◌, Bool, true, false, not, ◌&&◌, ◌||◌, cond, List, [], ◌∷◌, ◌++◌}
use Rattle.std.proofs.Common.{length, take, get_or, eqb, refl, ap, sym, ◌∙◌, arith}
use Rattle.std.specs.List.{filter, All, AllPairs}
use Rattle.std.proofs.lemmas.Bool.{eqb-true, eq-eqb, false≢true}
use Rattle.std.proofs.lemmas.List.{take_more}
use Rattle.std.proofs.lemmas.List.Elements.{All-cons, All-head, All-tail, All-nil, All-filter, All-weaker}
use Rattle.std.proofs.lemmas.List.Elements.{filter-append, filter_passes}
use Rattle.std.proofs.lemmas.List.Kept.{AllPairs-cons, AllPairs-filter}
use Rattle.std.proofs.lemmas.Map.Views.{any-filter_same}
use Rattle.lks_base.specs.Checking.{has_member}
use Rattle.lks_choice.specs.Circles.{each_once, may_stand, candidates}

-- a filter keeps or drops a member by its test
has_member-filter : (test : ℕ → Bool) (list : List ℕ) (p : ℕ)
    → has_member (filter test list) p ≡ (test p && has_member list p)
unfolding has_member
has_member-filter test list p =
    any-filter_same (λ q. eqb q p) test (test p) (λ k same. ap test (eqb-true k p same)) list

has_member-each_once : (list : List ℕ) (p : ℕ) → has_member (each_once list) p ≡ has_member list p
unfolding has_member
has_member-each_once [] p = refl
has_member-each_once (x ∷ xs) p =
    ap (λ b. eqb x p || b)
    (has_member-filter (λ y. not (eqb x y)) (each_once xs) p
    ∙ ap (λ b. not (eqb x p) && b) (has_member-each_once xs p))
    ∙ or_else (eqb x p) (has_member xs p)
  where
    or_else : (a b : Bool) → (a || (not a && b)) ≡ (a || b)
    or_else true b = refl
    or_else false b = refl

-- one member more at the end
each_once-push : (list : List ℕ) (x : ℕ)
    → each_once (list ++ x ∷ []) ≡ each_once list ++ cond (has_member list x) [] (x ∷ [])
unfolding has_member
each_once-push [] x = refl
each_once-push (y ∷ ys) x =
    ap (λ zs. y ∷ filter (λ z. not (eqb y z)) zs) (each_once-push ys x)
    ∙ ap (λ zs. y ∷ zs)
    (filter-append (λ z. not (eqb y z)) (each_once ys) (cond (has_member ys x) [] (x ∷ []))
    ∙ ap (λ zs. filter (λ z. not (eqb y z)) (each_once ys) ++ zs) (last (eqb y x) refl (has_member ys x)))
  where
    last : (same : Bool) → eqb y x ≡ same → (there : Bool)
        → filter (λ z. not (eqb y z)) (cond there [] (x ∷ [])) ≡ cond (same || there) [] (x ∷ [])
    last true is true = refl
    last true is false = rw is refl
    last false is true = refl
    last false is false = rw is refl

-- a turn of the loop over a nomination
pub candidates-push : (own : ℕ) (inner circle nominees : List ℕ) (x : ℕ)
    → candidates own inner circle (nominees ++ x ∷ [])
    ≡ candidates own inner circle nominees
    ++ cond (may_stand own inner circle x && not (has_member (candidates own inner circle nominees) x)) (x ∷ [])
    []
unfolding candidates
candidates-push own inner circle nominees x =
    let may = may_stand own inner circle in
    ap (filter may) (each_once-push nominees x)
    ∙ filter-append may (each_once nominees) (cond (has_member nominees x) [] (x ∷ []))
    ∙ ap (λ zs. filter may (each_once nominees) ++ zs)
    (last (may x) refl (has_member nominees x)
    ∙ sym
    (ap (λ b. cond (may x && not b) (x ∷ []) [])
    (has_member-filter may (each_once nominees) x
    ∙ ap (λ b. may x && b) (has_member-each_once nominees x))))
  where
    last : (test : Bool) → may_stand own inner circle x ≡ test → (there : Bool)
        → filter (may_stand own inner circle) (cond there [] (x ∷ []))
        ≡ cond (may_stand own inner circle x && not (may_stand own inner circle x && there)) (x ∷ []) []
    last true is true = rw is refl
    last true is false = rw is refl
    last false is true = rw is refl
    last false is false = rw is refl

each_once-once : (list : List ℕ) → AllPairs ◌≢◌ (each_once list)
each_once-once [] = λ i j d before within. absurd (omega arith)
each_once-once (x ∷ xs) =
    let rest = each_once-once xs in
    let differs : ℕ → Bool = λ y. not (eqb x y) in
    AllPairs-cons ◌≢◌ x (filter differs (each_once xs))
    (All-weaker (λ y. differs y ≡ true) (λ y. x ≢ y)
    (λ y passes same. false≢true (sym (ap not (eq-eqb x y same)) ∙ passes)) _
    (filter_passes differs (each_once xs)))
    (AllPairs-filter ◌≢◌ differs (each_once xs) rest)

All-each_once : (P : ℕ → Type 0) (list : List ℕ) → All P list → All P (each_once list)
All-each_once P [] all = All-nil P
All-each_once P (x ∷ xs) all =
    All-cons P x _ (All-head P x xs all)
    (All-filter (λ y. not (eqb x y)) P (each_once xs) (All-each_once P xs (All-tail P x xs all)))

-- no candidate stands twice
pub candidates-once : (own : ℕ) (inner circle nominees : List ℕ) → AllPairs ◌≢◌ (candidates own inner circle nominees)
unfolding candidates
candidates-once own inner circle nominees =
    AllPairs-filter ◌≢◌ (may_stand own inner circle) (each_once nominees) (each_once-once nominees)

-- each candidate may stand
pub candidates-pass : (own : ℕ) (inner circle nominees : List ℕ)
    → All (λ p. may_stand own inner circle p ≡ true) (candidates own inner circle nominees)
unfolding candidates
candidates-pass own inner circle nominees = filter_passes (may_stand own inner circle) (each_once nominees)

-- what is true of each nominee is true of each candidate
pub All-candidates : (P : ℕ → Type 0) (own : ℕ) (inner circle nominees : List ℕ) → All P nominees
    → All P (candidates own inner circle nominees)
unfolding candidates
All-candidates P own inner circle nominees all =
    All-filter (may_stand own inner circle) P (each_once nominees) (All-each_once P nominees all)

-- the candidates of one nominee more
pub candidates_more : (own : ℕ) (inner circle nominees : List ℕ) (i : ℕ) → i < length nominees
    → candidates own inner circle (take (i + 1) nominees)
    ≡ candidates own inner circle (take i nominees)
    ++ cond
    (may_stand own inner circle (get_or nominees i 0)
    && not (has_member (candidates own inner circle (take i nominees)) (get_or nominees i 0)))
    (get_or nominees i 0 ∷ []) []
candidates_more own inner circle nominees i within =
    ap (candidates own inner circle) (take_more nominees i 0 within)
    ∙ candidates-push own inner circle (take i nominees) (get_or nominees i 0)
