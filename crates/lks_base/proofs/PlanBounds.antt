-- Bounds of a plan in which no rule fails, and what stands in it once.
use Rattle.std.proofs.Common.{◌≡◌, ◌≤◌, ◌<◌, ◌==◌, ◌∙◌, ◌*◌, ap, sym, subst, ℕ, zero, suc, Bool, true, false, cond}
use Rattle.std.proofs.Common.{List, [], ◌∷◌, ◌++◌, length, get_or, refl, inl, inr, arith}
use Rattle.std.specs.Prelude.{Option, Some, None, find, filter, slice_get, not, ◌&&◌, ◌||◌, nat_le, nat_lt, All}
use Rattle.std.specs.List.{list_any, list_all}
use Rattle.std.proofs.lemmas.Bool.{and_parts, and_from, or_cases, or_parts, cases_Bool, not-true, eqb-true, eq-eqb}
use Rattle.std.proofs.lemmas.Bool.{leb-true, ltb-true}
use Rattle.std.proofs.lemmas.List.Folds.{list_any-append}
use Rattle.std.proofs.lemmas.List.Sums.{AllPass-from_list_all}
use Rattle.std.proofs.lemmas.Option.{slice_get-get_or}
use Rattle.lks_base.specs.Checking.{unless, ◌▹◌, each, is_within, are_bounded, are_ordered, au_fault, has_peer}
use Rattle.lks_base.specs.Checking.{member_fault, has_counted, has_copy, are_short, copy_fault, is_fit, peer_fault}
use Rattle.lks_base.specs.Checking.{bytes_of_peers, plan_fault}
use Rattle.lks_base.specs.declared.plans.AuPlan.{AuPlan}
use Rattle.lks_base.specs.declared.plans.Holding.{Holding}
use Rattle.lks_base.specs.declared.plans.PeerPlan.{PeerPlan}
use Rattle.lks_base.specs.declared.plans.Plan.{Plan}
use Rattle.lks_base.specs.declared.plans.PlanFault.{PlanFault}
use Rattle.lks_base.specs.declared.plans.PlanFault.TheVariants.{Bounds, RulesOrder, Repeat, BlockCount}
use Rattle.lks_base.specs.declared.plans.Rules.{Rules}
use Rattle.lks_base.proofs.PlanLaws.{no_first, no_second, stands, all_of, fifth, lists_stand}

-- ---- rules and lists

fourth : (a b c d e : Option PlanFault) → (a ▹ b ▹ c ▹ d ▹ e) ≡ None → d ≡ None
fourth a b c d e h = no_first d e (no_second c (d ▹ e) (no_second b (c ▹ d ▹ e) (no_second a (b ▹ c ▹ d ▹ e) h)))

-- at most 4 AUs
pub few_aus : (plan : Plan) → plan_fault plan ≡ None → length plan.aus ≤ 4
unfolding plan_fault
few_aus plan good =
    let count = fourth (unless (are_bounded plan.rules) Bounds) (unless (are_ordered plan.rules) RulesOrder)
    (unless (nat_le plan.turns 4096) Bounds)
    (unless (is_within 1 4 (length plan.aus)) Bounds)
    (each au_fault [] plan.aus ▹ unless (is_within 1 32 (length plan.peers)) Bounds
    ▹ each (peer_fault plan.aus plan.peers) [] plan.peers
    ▹ unless (nat_le (bytes_of_peers plan.peers) 134217728) Bounds) good in
    leb-true (length plan.aus) 4
    (and_parts (nat_le 1 (length plan.aus)) (nat_le (length plan.aus) 4) (stands _ _ count)).1

sixth : (a b c d e f g : Option PlanFault) → (a ▹ b ▹ c ▹ d ▹ e ▹ f ▹ g) ≡ None → f ≡ None
sixth a b c d e f g h = no_first f g (no_second e (f ▹ g) (fifth a b c d (e ▹ f ▹ g) h))

-- and at most 32 peers
pub few_peers : (plan : Plan) → plan_fault plan ≡ None → length plan.peers ≤ 32
unfolding plan_fault
few_peers plan good =
    let count = sixth (unless (are_bounded plan.rules) Bounds) (unless (are_ordered plan.rules) RulesOrder)
    (unless (nat_le plan.turns 4096) Bounds)
    (unless (is_within 1 4 (length plan.aus)) Bounds) (each au_fault [] plan.aus)
    (unless (is_within 1 32 (length plan.peers)) Bounds)
    (each (peer_fault plan.aus plan.peers) [] plan.peers
    ▹ unless (nat_le (bytes_of_peers plan.peers) 134217728) Bounds) good in
    leb-true (length plan.peers) 32
    (and_parts (nat_le 1 (length plan.peers)) (nat_le (length plan.peers) 32) (stands _ _ count)).1

bounded : (plan : Plan) → plan_fault plan ≡ None → are_bounded plan.rules ≡ true
unfolding plan_fault
bounded plan good = stands _ _ (no_first _ _ good)

ordered : (plan : Plan) → plan_fault plan ≡ None → are_ordered plan.rules ≡ true
unfolding plan_fault
ordered plan good = stands _ _ (no_first _ _ (no_second _ _ good))

first_two : (a b c d e f g h i j : Bool) → (a && b && c && d && e && f && g && h && i && j) ≡ true → (a && b) ≡ true
first_two true true c d e f g h i j all = refl
first_two true false c d e f g h i j all = all
first_two false b c d e f g h i j all = all

has_inner : (rules : Rules) → are_bounded rules ≡ true → (rules.inner ≤ 16) × (1 ≤ rules.quorum)
unfolding are_bounded
has_inner rules all =
    let all_first = first_two (is_within 1 16 rules.inner) (nat_le 1 rules.quorum) (nat_le rules.outer 16)
    (nat_le rules.repairs 512) (nat_le rules.pace 1000000)
    (nat_le rules.refractory 1000000) (nat_le rules.overdue 1000000) (nat_le rules.unknown_pct 100)
    (nat_le rules.debt_pct 100) (nat_le rules.churn 16) all in
    let parts = and_parts (is_within 1 16 rules.inner) (nat_le 1 rules.quorum) all_first in (
      leb-true rules.inner 16 (and_parts (nat_le 1 rules.inner) (nat_le rules.inner 16) parts.0).1,
      leb-true 1 rules.quorum parts.1,
    )

has_order : (rules : Rules) → are_ordered rules ≡ true
    → (2 * rules.minority < rules.quorum) × (rules.quorum ≤ rules.inner)
unfolding are_ordered
has_order rules all =
    let parts = and_parts (nat_lt (2 * rules.minority) rules.quorum) (nat_le rules.quorum rules.inner) all in
    (ltb-true (2 * rules.minority) rules.quorum parts.0, leb-true rules.quorum rules.inner parts.1)

-- the inner circle and the quorum have at most 16 peers, and twice the minority is below the quorum
pub good_rules : (plan : Plan) → plan_fault plan ≡ None
    → (plan.rules.inner ≤ 16) × (1 ≤ plan.rules.quorum) × (plan.rules.quorum ≤ 16)
    × (2 * plan.rules.minority < plan.rules.quorum)
good_rules plan good =
    let inner = has_inner plan.rules (bounded plan good) in
    let order = has_order plan.rules (ordered plan good) in
    (inner.0, inner.1, omega (arith, inner.0, order.1), order.0)

-- ---- elements of lists

-- where a rule fails of no element, what it asks of each holds of the one at a place
holds_at : {X : Type 0} (rule : List X → X → Option PlanFault) (P : X → Type 0)
    → ((before : List X) (x : X) → rule before x ≡ None → P x) → (before xs : List X) (i : ℕ) (x : X)
    → each rule before xs ≡ None → slice_get xs i ≡ Some x → P x
holds_at rule P asks before [] i x none is = absurd cc
holds_at rule P asks before (y ∷ ys) zero x none is =
    let same : y ≡ x = cc in
    subst P same (asks before y (no_first (rule before y) (each rule (before ++ y ∷ []) ys) none))
holds_at rule P asks before (y ∷ ys) (suc i) x none is =
    holds_at rule P asks (before ++ y ∷ []) ys i x
    (no_second (rule before y) (each rule (before ++ y ∷ []) ys) none) is

-- and of all
holds_of_all : {X : Type 0} (rule : List X → X → Option PlanFault) (P : X → Type 0)
    → ((before : List X) (x : X) → rule before x ≡ None → P x) → (xs : List X) → each rule [] xs ≡ None → All P xs
holds_of_all rule P asks xs none =
    λ k d lt. holds_at rule P asks [] xs k (get_or xs k d) none (slice_get-get_or xs k d lt)

-- ---- lists whose keys stand once

or_true : (b : Bool) → (b || true) ≡ true
or_true true = refl
or_true false = refl

-- the keys of all before x differ from its own
abbrev AreOther : {X : Type 0} → (X → ℕ) → List X → X → Type 0
AreOther key before x = list_any (λ y. key y == key x) before ≡ false

-- a rule that fails of a key that stood before
abbrev IsOnce : {X : Type 0} → (X → ℕ) → (List X → X → Option PlanFault) → Type 0
IsOnce {X} key rule = (before : List X) (x : X) → rule before x ≡ None → AreOther key before x

module _ {X : Type 0} (key : X → ℕ) (rule : List X → X → Option PlanFault) (once : IsOnce key rule) where
  abbrev has : ℕ → X → Bool
  has k x = key x == k

  head_other : (before : List X) (y : X) (ys : List X) → each rule before (y ∷ ys) ≡ None → AreOther key before y
  head_other before y ys none = once before y (no_first (rule before y) (each rule (before ++ y ∷ []) ys) none)

  rest_stands : (before : List X) (y : X) (ys : List X) → each rule before (y ∷ ys) ≡ None
      → each rule (before ++ y ∷ []) ys ≡ None
  rest_stands before y ys none = no_second (rule before y) (each rule (before ++ y ∷ []) ys) none

  any_more : (k : ℕ) (before : List X) (y : X)
      → list_any (has k) (before ++ y ∷ []) ≡ (list_any (has k) before || (has k y || false))
  any_more k before y = list_any-append (has k) before (y ∷ [])

  -- one that comes later has another key than those before it
  apart : (before xs : List X) (i : ℕ) (x : X) → each rule before xs ≡ None → slice_get xs i ≡ Some x
      → AreOther key before x
  apart before [] i x none is = absurd cc
  apart before (y ∷ ys) zero x none is =
      let same : y ≡ x = cc in
      subst (λ (z : X). AreOther key before z) same (head_other before y ys none)
  apart before (y ∷ ys) (suc i) x none is =
      let later = apart (before ++ y ∷ []) ys i x (rest_stands before y ys none) is in
      (or_parts (list_any (has (key x)) before) (has (key x) y || false) (sym (any_more (key x) before y) ∙ later)).0

  -- a key that stood comes no more
  no_more : (k : ℕ) (before xs : List X) → each rule before xs ≡ None → list_any (has k) before ≡ true
      → filter (has k) xs ≡ []
  no_more k before [] none stood = refl
  no_more k before (y ∷ ys) none stood =
      let later = no_more k (before ++ y ∷ []) ys (rest_stands before y ys none)
      (any_more k before y ∙ ap (λ b. b || (has k y || false)) stood) in
      elim (cases_Bool (has k y)) [
        | inl here ↦
            let again : list_any (has k) before
            ≡ false = subst (λ (n : ℕ). list_any (has n) before ≡ false) (eqb-true (key y) k here)
            (head_other before y ys none) in
            absurd cc
        | inr there ↦ ap (λ b. cond b (y ∷ filter (has k) ys) (filter (has k) ys)) there ∙ later
      ]

  at_most_once : (k : ℕ) (before xs : List X) → each rule before xs ≡ None → length (filter (has k) xs) ≤ 1
  at_most_once k before [] none = omega arith
  at_most_once k before (y ∷ ys) none =
      let rest = rest_stands before y ys none in
      elim (cases_Bool (has k y)) [
        | inl here ↦
            let stood = any_more k before y ∙ ap (λ b. list_any (has k) before || (b || false)) here
            ∙ or_true (list_any (has k) before) in
            let one = ap (λ b. cond b (y ∷ filter (has k) ys) (filter (has k) ys)) here
            ∙ ap (λ zs. y ∷ zs) (no_more k (before ++ y ∷ []) ys rest stood) in
            let count : length (filter (has k) (y ∷ ys)) ≡ 1 = ap length one in
            omega (arith, count)
        | inr there ↦
            let same : length (filter (has k) (y ∷ ys))
            ≡ length (filter (has k) ys) = ap (λ b. length (cond b (y ∷ filter (has k) ys) (filter (has k) ys)))
            there in
            omega (arith, same, at_most_once k (before ++ y ∷ []) ys rest)
      ]

  -- a test that asks for a key finds the one that has it
  finds_it : (test : X → Bool) (before xs : List X) (i : ℕ) (x : X) → each rule before xs ≡ None → test x ≡ true
      → ((y : X) → test y ≡ true → key y ≡ key x) → slice_get xs i ≡ Some x → find test xs ≡ Some x
  finds_it test before [] i x none passes asks is = absurd cc
  finds_it test before (y ∷ ys) zero x none passes asks is =
      let same : y ≡ x = cc in
      ap (λ b. cond b (Some y) (find test ys)) (ap test same ∙ passes) ∙ ap Some same
  finds_it test before (y ∷ ys) (suc i) x none passes asks is =
      let rest = rest_stands before y ys none in
      let others = or_parts (list_any (has (key x)) before) (has (key x) y || false)
      (sym (any_more (key x) before y) ∙ apart (before ++ y ∷ []) ys i x rest is) in
      elim (cases_Bool (test y)) [
        | inl here ↦
            let same : has (key x) y ≡ true = eq-eqb (key y) (key x) (asks y here) in
            let other : has (key x) y ≡ false = (or_parts (has (key x) y) false others.1).0 in
            absurd cc
        | inr there
            ↦ ap (λ b. cond b (Some y) (find test ys)) there
            ∙ finds_it test (before ++ y ∷ []) ys i x rest passes asks is
      ]

-- ---- copies

once_copy : (aus : List AuPlan) → IsOnce (λ (c : Holding). c.au) (copy_fault aus)
unfolding copy_fault has_copy
once_copy aus before copy e = not-true (has_copy before copy.au) (stands _ _ (no_first _ _ (no_second _ _ e)))

copies_stand : (aus : List AuPlan) (peers before : List PeerPlan) (p : PeerPlan)
    → peer_fault aus peers before p ≡ None → each (copy_fault aus) [] p.copies ≡ None
unfolding peer_fault
copies_stand aus peers before p e =
    fifth (unless (is_fit p) Bounds) (unless (not (has_peer before p.id)) Repeat)
    (each (member_fault peers p.id) [] p.refs)
    (each (member_fault peers p.id) [] p.friends) (each (copy_fault aus) [] p.copies) e

copies_at : (plan : Plan) → plan_fault plan ≡ None → (i : ℕ) (p : PeerPlan) → slice_get plan.peers i ≡ Some p
    → each (copy_fault plan.aus) [] p.copies ≡ None
copies_at plan good i p is =
    holds_at (peer_fault plan.aus plan.peers) (λ p. each (copy_fault plan.aus) [] p.copies ≡ None)
    (copies_stand plan.aus plan.peers) [] plan.peers i p (lists_stand plan good).1 is

-- no peer has two copies of an AU
pub one_copy : (plan : Plan) → plan_fault plan ≡ None → (i : ℕ) (p : PeerPlan) → slice_get plan.peers i ≡ Some p
    → (au : ℕ) → length (filter (λ c. c.au == au) p.copies) ≤ 1
one_copy plan good i p is au =
    at_most_once (λ (c : Holding). c.au) (copy_fault plan.aus) (once_copy plan.aus) au [] p.copies
    (copies_at plan good i p is)

abbrev is_sized : AuPlan → Bool
is_sized au = is_within 1 512 au.count

sized_au : (before : List AuPlan) (au : AuPlan) → au_fault before au ≡ None → is_sized au ≡ true
unfolding au_fault
sized_au before au e = (and_parts (is_within 0 65535 au.id) (is_sized au) (stands _ _ (no_first _ _ e))).1

counted_sized : (aus : List AuPlan) (au n : ℕ) → has_counted aus au n ≡ true → list_all is_sized aus ≡ true
    → is_within 1 512 n ≡ true
unfolding has_counted
counted_sized [] au n found sized = absurd cc
counted_sized (a ∷ rest) au n found sized =
    let parts = and_parts (is_sized a) (list_all is_sized rest) sized in
    elim (or_cases (a.id == au && a.count == n) (list_any (λ a. a.id == au && a.count == n) rest) found) [
      | inl here
          ↦ ap (is_within 1 512) (sym (eqb-true a.count n (and_parts (a.id == au) (a.count == n) here).1)) ∙ parts.0
      | inr there ↦ counted_sized rest au n there parts.1
    ]

abbrev IsSound : Holding → Type 0
IsSound c = (1 ≤ length c.blocks) × (length c.blocks ≤ 512) × All (λ b. length b ≤ 16384) c.blocks

third : (a b c : Option PlanFault) → (a ▹ b ▹ c) ≡ None → c ≡ None
third a b c e = no_second b c (no_second a (b ▹ c) e)

short_blocks : (blocks : List (List ℕ)) → are_short blocks ≡ true → All (λ b. length b ≤ 16384) blocks
unfolding are_short
short_blocks blocks short =
    λ k d lt. leb-true (length (get_or blocks k d)) 16384
    (AllPass-from_list_all (λ b. nat_le (length b) 16384) blocks short k d lt)

sound : (aus : List AuPlan) → list_all is_sized aus ≡ true → (before : List Holding) (c : Holding)
    → copy_fault aus before c ≡ None → IsSound c
unfolding copy_fault
sound aus sized before c e =
    let n = length c.blocks in
    let within = and_parts (nat_le 1 n) (nat_le n 512) (counted_sized aus c.au n (stands _ _ (no_first _ _ e)) sized) in
    let short = third (unless (has_counted aus c.au n) BlockCount) (unless (not (has_copy before c.au)) Repeat)
    (unless (are_short c.blocks) Bounds) e in
    (leb-true 1 n within.0, leb-true n 512 within.1, short_blocks c.blocks (stands _ _ short))

-- each copy has 1 to 512 blocks of at most 16,384 bytes
pub sound_copy : (plan : Plan) → plan_fault plan ≡ None → (i : ℕ) (p : PeerPlan) → slice_get plan.peers i ≡ Some p
    → All (λ (c : Holding). (1 ≤ length c.blocks) × (length c.blocks ≤ 512) × All (λ b. length b ≤ 16384) c.blocks)
    p.copies
sound_copy plan good i p is =
    let sized = all_of au_fault is_sized sized_au [] plan.aus (lists_stand plan good).0 in
    holds_of_all (copy_fault plan.aus) IsSound (sound plan.aus sized) p.copies (copies_at plan good i p is)

-- ---- peers

once_peer : (aus : List AuPlan) (peers : List PeerPlan) → IsOnce (λ (p : PeerPlan). p.id) (peer_fault aus peers)
unfolding peer_fault has_peer
once_peer aus peers before p e = not-true (has_peer before p.id) (stands _ _ (no_first _ _ (no_second _ _ e)))

-- a peer that isn't corrupt is the one that its number finds
pub found_peer : (plan : Plan) → plan_fault plan ≡ None → (i : ℕ) (p : PeerPlan) → slice_get plan.peers i ≡ Some p
    → p.corrupt ≡ false → find (λ q. q.id == p.id && not q.corrupt) plan.peers ≡ Some p
found_peer plan good i p is honest =
    finds_it (λ (q : PeerPlan). q.id) (peer_fault plan.aus plan.peers) (once_peer plan.aus plan.peers)
    (λ q. q.id == p.id && not q.corrupt) [] plan.peers i p
    (lists_stand plan good).1 (and_from (p.id == p.id) (not p.corrupt) (eq-eqb p.id p.id refl) (ap not honest))
    (λ y passes. eqb-true y.id p.id (and_parts (y.id == p.id) (not y.corrupt) passes).0) is
