-- A peer whose journal is on its disk.
use Rattle.std.specs.Prelude.{◌≡◌, ◌≤◌, ◌⊎◌, ℕ, Some, None, List, ◌++◌, length, take, map, Result, Ok, Err, option_map}
use Rattle.lks_base.specs.Checking.{plan_fault}
use Rattle.lks_base.specs.declared.plans.Plan.{Plan}
use Rattle.lks_base.specs.declared.records.Record.{Record}
use Rattle.lks_disk.specs.Face.{Face}
use Rattle.lks_field.specs.Frames.{HoldsBodies}
use Rattle.lks_host.specs.Bodies.{bodies_of, AreRead}
use Rattle.lks_host.specs.declared.hosts.Host.{Host}
use Rattle.lks_journal.specs.Settled.{IsSettled}
use Rattle.lks_law.specs.Batches.{alone, together}
use Rattle.lks_law.specs.Fitting.{AreFitting}
use Rattle.lks_law.specs.Polls.{Station}
use Rattle.lks_law.specs.State.{state_of, blank}
use Rattle.lks_law.specs.World.{station_of, honest_peer}

-- the disk holds these batches, which read back, and the peer is in the state that their records say, each of which
-- fits
pub record StandsFor {D : Type 0} (f : Face D) (host : Host D) (batches : List (List Record)) : Type 0 where
  pub state : host.peer.state ≡ state_of host.peer.own (together batches)
  pub disk : IsSettled f host.journal (bodies_of batches)
  pub read : AreRead batches
  pub fit : AreFitting host.peer.own (blank host.peer.own) (together batches)

-- the disk holds these batches, and behind them one for each of these records, which reads back
pub record Holds {D : Type 0} (f : Face D) (host : Host D) (before : List (List Record)) (list : List Record) : Type
    0 where
  pub disk : IsSettled f host.journal (bodies_of (before ++ map alone list))
  pub read : AreRead (map alone list)

-- a peer's disk holds these batches, which read back, and whose records fit
pub record LiesOn {D : Type 0} (f : Face D) (own : Station) (disk : D) (batches : List (List Record)) : Type 0 where
  pub holds : HoldsBodies (bodies_of batches) (f.seen disk)
  pub read : AreRead batches
  pub fit : AreFitting own (blank own) (together batches)

-- A crash leaves at most one byte, of a journal that was being made, or a front of the batches with which it was to
-- begin.
pub record HasFront {D : Type 0} (f : Face D) (batches : List (List Record)) (disk : D) : Type 0 where
  pub leaves : (c : List ℕ) → f.may_leave disk c
      → (length c ≤ 1) ⊎ ((n : ℕ) × HoldsBodies (bodies_of (take n batches)) c)

-- so an honest peer of this good plan stands
pub record IsMadeBy (plan : Plan) (own : Station) : Type 0 where
  pub good : plan_fault plan ≡ None
  pub made : option_map (station_of plan) (honest_peer own.id plan) ≡ Some own

-- what is left of a call that takes a disk: the disk
abbrev pub disk_hosted : {D F : Type 0} → Result (Host D) (D × F) → D
disk_hosted (Ok host) = host.journal.disk
disk_hosted (Err e) = e.0

-- and its answer without its value
abbrev pub answer_of : {A B F : Type 0} → Result A (B × F) → Result (Unit {0}) F
answer_of (Ok _) = Ok tt
answer_of (Err e) = Err e.1
