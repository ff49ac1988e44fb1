-- When a plan is good: its rules in order, each with the fault that its breach is called.
use Rattle.std.specs.Prelude.{ℕ, Bool, true, not, ◌&&◌, ◌==◌, nat_le, if◌then◌else◌, Option, Some, None, Result, Ok}
use Rattle.std.specs.Prelude.{Err, List, [], ◌∷◌, ◌++◌, length, sum_by}
use Rattle.std.specs.List.{list_any, list_all}
use Rattle.lks_base.specs.Quorums.{obeys_quorum_rule}
use Rattle.lks_base.specs.declared.limits.TheConstants.{LAST_NUMBER, MOST_AUS, MOST_BLOCKS, MOST_BLOCK_BYTES}
use Rattle.lks_base.specs.declared.limits.TheConstants.{MOST_CIRCLE, MOST_COPY_BYTES, MOST_EVENTS, MOST_PEERS}
use Rattle.lks_base.specs.declared.limits.TheConstants.{MOST_PROOF_BYTES, MOST_REPAIRS, MOST_TICKS}
use Rattle.lks_base.specs.declared.plans.AuPlan.{AuPlan}
use Rattle.lks_base.specs.declared.plans.Holding.{Holding}
use Rattle.lks_base.specs.declared.plans.PeerPlan.{PeerPlan}
use Rattle.lks_base.specs.declared.plans.Plan.{Plan}
use Rattle.lks_base.specs.declared.plans.PlanFault.{PlanFault}
use Rattle.lks_base.specs.declared.plans.PlanFault.TheVariants.{Bounds, RulesOrder, Repeat, SelfListed, UnknownPeer}
use Rattle.lks_base.specs.declared.plans.PlanFault.TheVariants.{BlockCount}
use Rattle.lks_base.specs.declared.plans.Rules.{Rules}

abbrev pub fault_of : Result (Unit {0}) PlanFault → Option PlanFault
fault_of (Ok _) = None
fault_of (Err fault) = Some fault

-- a rule that stands where the test is true
abbrev pub unless : Bool → PlanFault → Option PlanFault
unless test fault = if test then None else Some fault

infixr 20 ◌▹◌
-- the first of two faults
abbrev pub ◌▹◌ : Option PlanFault → Option PlanFault → Option PlanFault
None ▹ second = second
(Some fault) ▹ second = Some fault

-- a rule for each element, beside those before it
abbrev pub each : {X : Type 0} → (List X → X → Option PlanFault) → List X → List X → Option PlanFault
each rule before [] = None
each rule before (x ∷ xs) = rule before x ▹ each rule (before ++ x ∷ []) xs

abbrev pub is_within : ℕ → ℕ → ℕ → Bool
is_within low high n = nat_le low n && nat_le n high

-- quorum and minority are judged together, by the next rule
unfoldable pub are_bounded : Rules → Bool
are_bounded r =
    is_within 1 MOST_CIRCLE r.inner && nat_le 1 r.quorum && nat_le r.outer MOST_CIRCLE && nat_le r.repairs MOST_REPAIRS
    && nat_le r.pace MOST_TICKS && nat_le r.refractory MOST_TICKS && nat_le r.overdue MOST_TICKS
    && nat_le r.unknown_pct 100 && nat_le r.debt_pct 100 && nat_le r.churn MOST_CIRCLE

unfoldable pub are_ordered : Rules → Bool
are_ordered r = obeys_quorum_rule r.quorum r.minority && nat_le r.quorum r.inner

unfoldable pub has_au : List AuPlan → ℕ → Bool
has_au aus id = list_any (λ a. a.id == id) aus

unfoldable pub au_fault : List AuPlan → AuPlan → Option PlanFault
au_fault before au =
    unless (is_within 0 LAST_NUMBER au.id && is_within 1 MOST_BLOCKS au.count) Bounds
    ▹ unless (not (has_au before au.id)) Repeat

unfoldable pub has_peer : List PeerPlan → ℕ → Bool
has_peer peers id = list_any (λ p. p.id == id) peers

-- a declared peer that is corrupt, or one that isn't
unfoldable pub has_corrupt : List PeerPlan → ℕ → Bool
has_corrupt peers id = list_any (λ p. p.id == id && p.corrupt) peers

unfoldable pub has_honest : List PeerPlan → ℕ → Bool
has_honest peers id = list_any (λ p. p.id == id && not p.corrupt) peers

unfoldable pub has_member : List ℕ → ℕ → Bool
has_member ids id = list_any (λ i. i == id) ids

-- a member of a list of the peer with the number `own`
unfoldable pub member_fault : List PeerPlan → ℕ → List ℕ → ℕ → Option PlanFault
member_fault peers own before id =
    unless (not (id == own)) SelfListed ▹ unless (has_peer peers id) UnknownPeer
    ▹ unless (not (has_member before id)) Repeat

-- an AU of this number with so many blocks
unfoldable pub has_counted : List AuPlan → ℕ → ℕ → Bool
has_counted aus au count = list_any (λ a. a.id == au && a.count == count) aus

unfoldable pub has_copy : List Holding → ℕ → Bool
has_copy copies au = list_any (λ c. c.au == au) copies

unfoldable pub are_short : List (List ℕ) → Bool
are_short blocks = list_all (λ b. nat_le (length b) MOST_BLOCK_BYTES) blocks

unfoldable pub copy_fault : List AuPlan → List Holding → Holding → Option PlanFault
copy_fault aus before copy =
    unless (has_counted aus copy.au (length copy.blocks)) BlockCount ▹ unless (not (has_copy before copy.au)) Repeat
    ▹ unless (are_short copy.blocks) Bounds

-- a corrupt peer has no lists and no copies
unfoldable pub is_bare : PeerPlan → Bool
is_bare p = length p.refs == 0 && length p.friends == 0 && length p.copies == 0

unfoldable pub is_fit : PeerPlan → Bool
is_fit p = nat_le (length p.proof) MOST_PROOF_BYTES && (if p.corrupt then is_bare p else true)

unfoldable pub peer_fault : List AuPlan → List PeerPlan → List PeerPlan → PeerPlan → Option PlanFault
peer_fault aus peers before p =
    unless (is_fit p) Bounds ▹ unless (not (has_peer before p.id)) Repeat
    ▹ each (member_fault peers p.id) [] p.refs ▹ each (member_fault peers p.id) [] p.friends
    ▹ each (copy_fault aus) [] p.copies

abbrev pub bytes_of_blocks : List (List ℕ) → ℕ
bytes_of_blocks blocks = sum_by length blocks

abbrev pub bytes_of_copies : List Holding → ℕ
bytes_of_copies copies = sum_by (λ c. bytes_of_blocks c.blocks) copies

abbrev pub bytes_of_peers : List PeerPlan → ℕ
bytes_of_peers peers = sum_by (λ p. bytes_of_copies p.copies) peers

unfoldable pub plan_fault : Plan → Option PlanFault
plan_fault p =
    unless (are_bounded p.rules) Bounds ▹ unless (are_ordered p.rules) RulesOrder
    ▹ unless (nat_le p.turns MOST_EVENTS) Bounds
    ▹ unless (is_within 1 MOST_AUS (length p.aus)) Bounds ▹ each au_fault [] p.aus
    ▹ unless (is_within 1 MOST_PEERS (length p.peers)) Bounds ▹ each (peer_fault p.aus p.peers) [] p.peers
    ▹ unless (nat_le (bytes_of_peers p.peers) MOST_COPY_BYTES) Bounds
