-- How a world goes on in a race.
use Rattle.std.specs.Prelude.{◌≡◌, ◌+◌, ◌-◌, ℕ, Some, None, List, [], ◌++◌, length, slice_get}
use Rattle.lks_base.specs.declared.events.Event.{Event}
use Rattle.lks_base.specs.declared.plans.Plan.{Plan}
use Rattle.lks_blocks.specs.Block.{AllOf}
use Rattle.lks_disk.specs.Face.{Face}
use Rattle.lks_farm.specs.Seats.{AreFresh, AreSeatsOf, FarmName, SeatSeen}
use Rattle.lks_farm.specs.declared.farms.FarmSet.{FarmSet}
use Rattle.lks_law.specs.Due.{AreDue}
use Rattle.lks_law.specs.Entries.{entries}
use Rattle.lks_race.specs.declared.turns.Met.{Met}
use Rattle.lks_race.specs.declared.turns.Met.TheVariants as met
use Rattle.lks_watch.specs.Watching.{Ears}
use Rattle.lks_work.specs.Names.{refs_of}
use Rattle.lks_world.specs.Giving.{IsOver}
use Rattle.lks_world.specs.Worlds.{HasWatched, HaveServed, Seen, StandsAtFault, Start}

-- How a race began, as plain data: the plan, the pool, what the world remembers of its own beginning, the history and
-- its turns.
pub record Begin : Type 0 where
  pub plan : Plan
  pub pool : List ℕ
  pub start : Start
  pub history : List Event
  pub turns : ℕ

abbrev pub begin_of : {D J B : Type 0} → Seen D J B → Begin
begin_of w = record { plan = w.plan; pool = w.pool; start = w.start; history = w.history; turns = w.turns }

-- of no race
abbrev pub nowhere : Begin
nowhere = record {
  plan = record {
    rules =
        record {
          inner = 0;
          quorum = 0;
          minority = 0;
          outer = 0;
          repairs = 0;
          pace = 0;
          refractory = 0;
          overdue = 0;
          unknown_pct = 0;
          debt_pct = 0;
          churn = 0;
        };
    turns = 0;
    aus = [];
    peers = [];
  };
  pool = [];
  start = record { limits = []; faults = [] };
  history = [];
  turns = 0;
}

-- The world remembers the same beginning, and its history goes on from that of the race's beginning by events each of
-- which was due at its place and used a turn.
pub record GoesOn {D J B : Type 0} (b : Begin) (w : Seen D J B) : Type 0 where
  pub plan : w.plan ≡ b.plan
  pub pool : w.pool ≡ b.pool
  pub start : w.start ≡ b.start
  pub more : List Event
  pub history : w.history ≡ b.history ++ more
  pub due : AreDue b.plan b.history more
  pub turns : w.turns ≡ b.turns + length more

-- What a race leaves of a world as it was: it went on so, and unless a fault stopped it, until nothing is due or no
-- turn or no room is left; then the judge and the bells that are there have watched its history. At a fault what stands
-- is what one may leave. Its disks have served since its beginning.
pub record Runs {D J B : Type 0} (f : Face D) (e : Ears J B) (first w : Seen D J B) : Type 0 where
  pub on : GoesOn (begin_of first) w
  pub over : w.stopped ≡ None → IsOver w
  pub watched : w.stopped ≡ None → HasWatched e first.plan first.start.limits w.history w.judge w.bells
  pub halted : StandsAtFault f e w
  pub served : HaveServed f first.plan.peers first.start.faults w.disks w.stopped

-- What a thread meets: the entry of the event that was kept last, a job over blocks of this pool, that all work is out,
-- or the end, where the world was stopped or nothing more is done.
abbrev pub Meets : {D J B : Type 0} → List ℕ → Seen D J B → Met → Type 0
Meets pool w (met.On None) = Unit {0}
Meets pool w (met.On (Some entry)) = slice_get (entries w.plan w.history) (length w.history - 1) ≡ Some entry
Meets pool w (met.Work job) = AllOf pool (refs_of job)
Meets pool w met.Out = Unit {0}
Meets pool w met.End = w.stopped ≡ None → IsOver w

-- of what a thread meets, a job is over blocks of this pool
abbrev pub IsJobOf : List ℕ → Met → Type 0
IsJobOf pool (met.On entry) = Unit {0}
IsJobOf pool (met.Work job) = AllOf pool (refs_of job)
IsJobOf pool met.Out = Unit {0}
IsJobOf pool met.End = Unit {0}

-- a seat of the farm that holds no job
abbrev pub IsSeat : FarmName → SeatSeen → Type 0
IsSeat farm seat = (seat.badge.farm ≡ farm) × (seat.held ≡ None)

-- a farm over this pool with all its seats, by way of which nothing was done yet
pub record IsFreshSet (pool : List ℕ) (set : FarmSet) : Type 0 where
  pub of : set.farm.name.pool ≡ pool
  pub fresh : AreFresh set.farm.name 0 set.seats.items
  pub all : AreSeatsOf set.farm.name set.seats.items
