-- What is promised of every history.
use Rattle.std.specs.Prelude.{◌≡◌, ◌≤◌, ℕ, Some, true, List, length, slice_get}
use Rattle.lks_base.specs.declared.events.Event.{Event}
use Rattle.lks_base.specs.declared.plans.Plan.{Plan}
use Rattle.lks_base.specs.declared.plans.Rules.{Rules}
use Rattle.lks_base.specs.declared.records.Record.{Record}
use Rattle.lks_law.specs.Journal.{Opening, Repair, EachRepair, with_repair, contents_of, opening_of, is_shut}
use Rattle.lks_law.specs.Polls.{ObeyQuorumRule, limits_of, votes_behind, ballot_behind}
use Rattle.lks_law.specs.Snapshots.{HaveSnapshots, HasFewHolders}
use Rattle.lks_law.specs.World.{Standing, world}
use Rattle.lks_tally.specs.Counting.{for_at, against_at}
use Rattle.lks_tally.specs.Distinct.{AreDistinct}

-- The evidence for a replaced block, in the poller's journal before it was put there: of one poll on the AU, whose
-- numbers obey the quorum rule and whose voting had ended, at least a quorum of distinct invited inner peers voted, at
-- most a minority of these votes is for the old block, and at most a minority is against the new one.
pub record Evidence (rules : Rules) (poller : ℕ) (journal : List Record) (r : Repair) : Type 0 where
  pub opening : Opening
  pub opened : opening_of r.number journal ≡ Some opening
  pub of_au : opening.au ≡ r.au
  pub lawful : ObeyQuorumRule (limits_of rules opening)
  pub ended : is_shut r.number journal ≡ true
  pub distinct : AreDistinct (votes_behind journal r opening)
  pub quorum : (limits_of rules opening).quorum ≤ length (votes_behind journal r opening)
  pub few_for_old :
      for_at (ballot_behind poller journal r opening) (votes_behind journal r opening) (contents_of r.au journal)
      r.block
      ≤ (limits_of rules opening).minority
  pub few_against_new :
      against_at (ballot_behind poller journal r opening) (votes_behind journal r opening) (with_repair journal r)
      r.block
      ≤ (limits_of rules opening).minority

-- each replaced block of a poller's journal has its evidence before it
abbrev pub HasEvidence : Rules → ℕ → List Record → Type 0
HasEvidence rules poller journal = EachRepair (Evidence rules poller) journal

-- In the world after this history each replaced block of each honest peer has its evidence, each vote that an honest
-- peer sent is over one version of the AU, and of the votes behind a replaced block at most a minority is of honest
-- peers that held it and all blocks before it.
pub record Safe (plan : Plan) (history : List Event) : Type 0 where
  pub evidence : (place : ℕ) (s : Standing) → slice_get (world plan history).peers place ≡ Some s
      → HasEvidence s.own.rules s.own.id s.journal
  pub snapshots : HaveSnapshots (world plan history)
  pub few_holders : (place : ℕ) (s : Standing) → slice_get (world plan history).peers place ≡ Some s
      → HasFewHolders (world plan history) s
