-- A set of journals that holds: no rule fails in it.
use Rattle.std.specs.Prelude.{◌≡◌, ℕ, true, Some, List, length, take, slice_get, All}
use Rattle.lks_base.specs.declared.plans.Plan.{Plan}
use Rattle.lks_base.specs.declared.records.Record.{Record}
use Rattle.lks_law.specs.Journal.{Repair, EachRepair, contents_of}
use Rattle.lks_law.specs.Polls.{votes_behind, ballot_behind}
use Rattle.lks_law.specs.Safe.{Evidence}
use Rattle.lks_evidence.specs.declared.findings.Shelf.{Shelf}
use Rattle.lks_evidence.specs.declared.findings.Finding.{Finding}
use Rattle.lks_evidence.specs.declared.findings.Finding.TheVariants.{Yes, No}
use Rattle.lks_evidence.specs.Records.{openings}
use Rattle.lks_evidence.specs.Rules.{is_new, is_held, is_founded}

-- A replaced block stands, in the set and in the journal before it: its AU is held, it has its evidence, its poll was
-- opened once, each inner vote has a hash for each block, and where a voter has a shelf, that bears out its vote.
pub record Stands (plan : Plan) (set : List Shelf) (poller : ℕ) (journal before : List Record) (r : Repair) : Type 0
  where
    pub held : is_held plan.aus journal before r ≡ true
    pub evidence : Evidence plan.rules poller before r
    pub once : openings r.number before ≡ 1
    pub whole : All (λ v. length v.hashes ≡ length (contents_of r.au before)) (votes_behind before r evidence.opening)
    pub founded : All (λ v. is_founded plan.aus set (ballot_behind poller before r evidence.opening) v ≡ true)
        (votes_behind before r evidence.opening)

abbrev pub IsYes : Finding → Type 0
IsYes (Yes replaced) = Unit {0}
IsYes (No doubt) = ⊥

-- each shelf is of another honest peer, and each replaced block on it stands
pub record SetHolds (plan : Plan) (set : List Shelf) : Type 0 where
  pub shelves : (k : ℕ) (s : Shelf) → slice_get set k ≡ Some s → is_new plan (take k set) s.peer ≡ true
  pub repairs : (k : ℕ) (s : Shelf) → slice_get set k ≡ Some s
      → EachRepair (Stands plan set s.peer s.list.items) s.list.items
