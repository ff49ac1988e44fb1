-- What holds of a plan in which no rule fails.
use Rattle.std.proofs.Common.{◌≡◌, ◌≤◌, ◌==◌, ◌∙◌, ap, sym, ℕ, Bool, true, false, cond, List, [], ◌∷◌, ◌++◌, length}
use Rattle.std.proofs.Common.{refl, inl, inr}
use Rattle.std.specs.Prelude.{Option, Some, None, find, not, ◌&&◌, nat_le}
use Rattle.std.specs.List.{list_any, list_all}
use Rattle.std.proofs.lemmas.Bool.{and_parts, or_cases, eqb-true, leb-true}
use Rattle.lks_base.specs.Checking.{unless, ◌▹◌, each, is_within, are_bounded, are_ordered, au_fault, has_peer}
use Rattle.lks_base.specs.Checking.{member_fault, has_counted, copy_fault, is_fit, peer_fault, bytes_of_peers}
use Rattle.lks_base.specs.Checking.{plan_fault}
use Rattle.lks_base.specs.Sizes.{is_small_copy, is_small_peer}
use Rattle.lks_base.specs.declared.plans.AuPlan.{AuPlan}
use Rattle.lks_base.specs.declared.plans.Holding.{Holding}
use Rattle.lks_base.specs.declared.plans.PeerPlan.{PeerPlan}
use Rattle.lks_base.specs.declared.plans.Plan.{Plan}
use Rattle.lks_base.specs.declared.plans.PlanFault.{PlanFault}
use Rattle.lks_base.specs.declared.plans.PlanFault.TheVariants.{Bounds, RulesOrder, Repeat}

pub no_first : (a b : Option PlanFault) → (a ▹ b) ≡ None → a ≡ None
no_first None b e = refl
no_first (Some fault) b e = e

pub no_second : (a b : Option PlanFault) → (a ▹ b) ≡ None → b ≡ None
no_second None b e = e
no_second (Some fault) b e = absurd cc

pub stands : (test : Bool) (fault : PlanFault) → unless test fault ≡ None → test ≡ true
stands true fault e = refl
stands false fault e = absurd cc

-- where a rule fails of no element, what it asks of each holds of all
pub all_of : {X : Type 0} (rule : List X → X → Option PlanFault) (test : X → Bool)
    → ((before : List X) (x : X) → rule before x ≡ None → test x ≡ true) → (before xs : List X)
    → each rule before xs ≡ None → list_all test xs ≡ true
all_of rule test h before [] e = refl
all_of rule test h before (x ∷ xs) e =
    ap (λ b. b && list_all test xs) (h before x (no_first (rule before x) (each rule (before ++ x ∷ []) xs) e))
    ∙ all_of rule test h (before ++ x ∷ []) xs (no_second (rule before x) (each rule (before ++ x ∷ []) xs) e)

abbrev pub is_small_au : AuPlan → Bool
is_small_au au = nat_le au.count 512

counted_small : (aus : List AuPlan) (au n : ℕ) → has_counted aus au n ≡ true → list_all is_small_au aus ≡ true
    → nat_le n 512 ≡ true
unfolding has_counted
counted_small [] au n found small = absurd cc
counted_small (a ∷ rest) au n found small =
    let smalls = and_parts (is_small_au a) (list_all is_small_au rest) small in
    elim (or_cases (a.id == au && a.count == n) (list_any (λ a. a.id == au && a.count == n) rest) found) [
      | inl here
          ↦ ap (λ c. nat_le c 512) (sym (eqb-true a.count n (and_parts (a.id == au) (a.count == n) here).1))
          ∙ smalls.0
      | inr there ↦ counted_small rest au n there smalls.1
    ]

small_copy : (aus : List AuPlan) → list_all is_small_au aus ≡ true → (before : List Holding) (copy : Holding)
    → copy_fault aus before copy ≡ None → is_small_copy copy ≡ true
unfolding copy_fault
small_copy aus small before copy e = counted_small aus copy.au (length copy.blocks) (stands _ _ (no_first _ _ e)) small

pub fifth : (a b c d e : Option PlanFault) → (a ▹ b ▹ c ▹ d ▹ e) ≡ None → e ≡ None
fifth a b c d e h = no_second d e (no_second c (d ▹ e) (no_second b (c ▹ d ▹ e) (no_second a (b ▹ c ▹ d ▹ e) h)))

small_peer : (aus : List AuPlan) (peers : List PeerPlan) → list_all is_small_au aus ≡ true
    → (before : List PeerPlan) (p : PeerPlan) → peer_fault aus peers before p ≡ None → is_small_peer p ≡ true
unfolding peer_fault
small_peer aus peers small before p e =
    all_of (copy_fault aus) is_small_copy (small_copy aus small) [] p.copies
    (fifth (unless (is_fit p) Bounds) (unless (not (has_peer before p.id)) Repeat)
    (each (member_fault peers p.id) [] p.refs)
    (each (member_fault peers p.id) [] p.friends) (each (copy_fault aus) [] p.copies) e)

fit_peer : (aus : List AuPlan) (peers before : List PeerPlan) (p : PeerPlan) → peer_fault aus peers before p ≡ None
    → is_fit p ≡ true
unfolding peer_fault
fit_peer aus peers before p e = stands _ _ (no_first _ _ e)

aus_and_peers : (a b c d e f g h : Option PlanFault) → (a ▹ b ▹ c ▹ d ▹ e ▹ f ▹ g ▹ h) ≡ None → (e ≡ None) × (g ≡ None)
aus_and_peers a b c d e f g h none =
    let from_e = fifth a b c d (e ▹ f ▹ g ▹ h) none in
    (no_first e (f ▹ g ▹ h) from_e, no_first g h (no_second f (g ▹ h) (no_second e (f ▹ g ▹ h) from_e)))

pub lists_stand : (plan : Plan) → plan_fault plan ≡ None
    → (each au_fault [] plan.aus ≡ None) × (each (peer_fault plan.aus plan.peers) [] plan.peers ≡ None)
unfolding plan_fault
lists_stand plan good =
    aus_and_peers (unless (are_bounded plan.rules) Bounds) (unless (are_ordered plan.rules) RulesOrder)
    (unless (nat_le plan.turns 4096) Bounds)
    (unless (is_within 1 4 (length plan.aus)) Bounds) (each au_fault [] plan.aus)
    (unless (is_within 1 32 (length plan.peers)) Bounds)
    (each (peer_fault plan.aus plan.peers) [] plan.peers)
    (unless (nat_le (bytes_of_peers plan.peers) 134217728) Bounds) good

numbered_au : (before : List AuPlan) (au : AuPlan) → au_fault before au ≡ None → is_within 0 65535 au.id ≡ true
unfolding au_fault
numbered_au before au e =
    (and_parts (is_within 0 65535 au.id) (is_within 1 512 au.count) (stands _ _ (no_first _ _ e))).0

-- the number of an AU has two bytes
pub numbered_aus : (plan : Plan) → plan_fault plan ≡ None → list_all (λ a. is_within 0 65535 a.id) plan.aus ≡ true
numbered_aus plan good = all_of au_fault (λ a. is_within 0 65535 a.id) numbered_au [] plan.aus (lists_stand plan good).0

-- no proof has more than 64 bytes, and corrupt peers have no lists and no copies
pub fit_peers : (plan : Plan) → plan_fault plan ≡ None → list_all is_fit plan.peers ≡ true
fit_peers plan good =
    all_of (peer_fault plan.aus plan.peers) is_fit (fit_peer plan.aus plan.peers) [] plan.peers
    (lists_stand plan good).1

pub fit_proof : (p : PeerPlan) → is_fit p ≡ true → length p.proof ≤ 64
unfolding is_fit
fit_proof p fit = leb-true (length p.proof) 64 (and_parts (nat_le (length p.proof) 64) _ fit).0

first_passes : (test : PeerPlan → Bool) (b : Bool) (y x : PeerPlan) (rest : Option PeerPlan) → test y ≡ true
    → (rest ≡ Some x → test x ≡ true) → cond b (Some y) rest ≡ Some x → test x ≡ true
first_passes test true y x rest passes later found = let same : y ≡ x = cc in ap test (sym same) ∙ passes
first_passes test false y x rest passes later found = later found

found_passes : (test q : PeerPlan → Bool) (xs : List PeerPlan) (x : PeerPlan) → list_all test xs ≡ true
    → find q xs ≡ Some x → test x ≡ true
found_passes test q [] x all found = absurd cc
found_passes test q (y ∷ ys) x all found =
    let parts = and_parts (test y) (list_all test ys) all in
    first_passes test (q y) y x (find q ys) parts.0 (found_passes test q ys x parts.1) found

-- the proof of a peer of the plan has at most 64 bytes
pub short_proof : (plan : Plan) (q : PeerPlan → Bool) (p : PeerPlan) → plan_fault plan ≡ None
    → find q plan.peers ≡ Some p → length p.proof ≤ 64
short_proof plan q p good found = fit_proof p (found_passes is_fit q plan.peers p (fit_peers plan good) found)
