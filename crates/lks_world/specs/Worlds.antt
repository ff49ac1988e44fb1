-- What a world keeps.
use Rattle.std.specs.Prelude.{◌≡◌, ◌≤◌, ◌+◌, ℕ, Option, Some, None, List, [], ◌++◌, length, map, reverse, vec_len}
use Rattle.std.specs.Prelude.{vec_capacity, Result}
use Rattle.lks_outside.specs.Bells.{left_of, seen}
use Rattle.lks_disk.specs.Face.{Face}
use Rattle.lks_base.specs.Checking.{plan_fault}
use Rattle.lks_base.specs.declared.events.Event.{Event}
use Rattle.lks_base.specs.declared.events.PeerStep.{PeerStep}
use Rattle.lks_base.specs.declared.plans.PeerPlan.{PeerPlan}
use Rattle.lks_base.specs.declared.plans.Plan.{Plan}
use Rattle.lks_law.specs.Alarms.{alarms}
use Rattle.lks_law.specs.Entries.{entries}
use Rattle.lks_law.specs.Histories.{IsHistory}
use Rattle.lks_law.specs.Questions.{Verdicts, questions, AreJudged}
use Rattle.lks_law.specs.World.{world}
use Rattle.lks_script.specs.declared.steps.Step.{Step}
use Rattle.lks_watch.specs.Watching.{Ears, Watches, watching}
use Rattle.lks_work.specs.declared.jobs.JobName.{JobName}
use Rattle.lks_world.specs.Counts.{fault_in, ServesHonest}
use Rattle.lks_world.specs.Follows.{Performs}
use Rattle.lks_world.specs.Held.{AreUnfused, HaveBatchesOrNext, MayBegin}
use Rattle.lks_world.specs.Sites.{disks_at, AreSites}
use Rattle.lks_world.specs.Spending.{Spends}
use Rattle.lks_world.specs.States.{events_in, IsStateOf}
use Rattle.lks_world.specs.Watched.{asked_next}
use Rattle.lks_world.specs.declared.faults.WorldFault.{WorldFault}
use Rattle.lks_world.specs.declared.faults.WorldFault.TheVariants.{Memory}
use Rattle.lks_world.specs.declared.worlds.World.TheInside.{Inside}

-- What a world remembers of its beginning beside its plan and its pool: the limits of the bells, and the counts of
-- faults of the disks that were handed in.
pub record Start : Type 0 where
  pub limits : List ℕ
  pub faults : List ℕ

-- A world as callers see it: its plan, the pool of its blocks and its beginning, the events that it kept, how many of
-- them were turns, which jobs are out, the fault that stopped it, all disks in the order in which they were handed in,
-- the judge, and the bells that hang there.
pub record Seen (D J B : Type 0) : Type 0 where
  pub plan : Plan
  pub pool : List ℕ
  pub start : Start
  pub history : List Event
  pub turns : ℕ
  pub out : List JobName
  pub stopped : Option WorldFault
  pub disks : List D
  pub judge : J
  pub bells : List B

abbrev pub seen_in : {D J B : Type 0} → Inside D J B → Seen D J B
seen_in a = record {
  plan = a.plan;
  pool = a.state.pool.now;
  start = record { limits = a.first_limits.numbers; faults = a.first_faults.numbers };
  history = events_in a.state;
  turns = a.turns;
  out = a.out.items;
  stopped = a.stopped;
  disks = disks_at a.state.sites.items ++ reverse a.rest.items;
  judge = a.watch.judge;
  bells = a.watch.desk;
}

-- bells that rang for nothing yet and want to
abbrev pub AreSilent : {J B : Type 0} → Ears J B → List B → Type 0
AreSilent e bells = seen e.rung e.limit bells ≡ left_of [] (map e.limit bells)

-- The judge has heard what the history asks, and what it says of that stands there; the bells are those with these
-- limits that want more than the history's alarms, for which they rang.
pub record HasWatched {J B : Type 0} (e : Ears J B) (plan : Plan) (limits : List ℕ) (history : List Event)
    (judge : J) (bells : List B) : Type 0 where
  pub heard : e.heard judge ≡ questions plan history
  pub judged : AreJudged (e.verdict judge) plan history
  pub rung : seen e.rung e.limit bells ≡ left_of (alarms plan history) limits

-- Where a fault stopped it, a step may have been begun that may be taken there; the judge has heard what the history
-- asks, and what this step asks; the bells are those with these limits that want more than the history's alarms, for
-- which they rang; and a crash leaves of each honest peer's disk the batches of its journal, or of the peer which began
-- the step these, or that step's too.
pub record HasHalted {D J B : Type 0} (f : Face D) (e : Ears J B) (plan : Plan) (limits : List ℕ)
    (history : List Event) (disks : List D) (judge : J) (bells : List B) : Type 0 where
  pub next : Option PeerStep
  pub may : MayBegin plan history next
  pub heard : e.heard judge ≡ questions plan history ++ asked_next (world plan history) next
  pub rung : seen e.rung e.limit bells ≡ left_of (alarms plan history) limits
  pub left : HaveBatchesOrNext f plan history next disks

-- the same of a world as callers see it, if a fault stopped it
abbrev pub StandsAtFault : {D J B : Type 0} → Face D → Ears J B → Seen D J B → Type 0
StandsAtFault f e w =
    (fault : WorldFault) → w.stopped ≡ Some fault
    → HasHalted f e w.plan w.start.limits w.history w.disks w.judge w.bells

-- What became of disks with these counts of faults is what calls on those of honest peers may do: a fault blames only a
-- disk whose count rose.
pub record HaveServed {D : Type 0} (f : Face D) (peers : List PeerPlan) (counts : List ℕ) (disks : List D)
    (fault : Option WorldFault) : Type 0 where
  pub first : List D
  pub counted : map f.faults first ≡ counts
  pub serves : ServesHonest f peers first disks fault

-- The plan is good, and the events are a history of it, each with its entry, of which no more were turns than the plan
-- has. While the world isn't stopped its state is that of the history, which its judge and its bells have watched; and
-- a fault has left of these and of the disks what it may. Each peer has its site, no disk has a fuse, the list that was
-- handed in has room for all disks, and these have served since the beginning.
pub record IsKept {D J B : Type 0} (f : Face D) (e : Ears J B) (a : Inside D J B) : Type 0 where
  pub good : plan_fault a.plan ≡ None
  pub happened : IsHistory a.plan (events_in a.state)
  pub used : a.turns ≤ a.plan.turns
  pub entries : a.state.history.items ≡ entries a.plan (events_in a.state)
  pub state : a.stopped ≡ None → IsStateOf f a.plan a.state
  pub watched : a.stopped ≡ None
      → HasWatched e a.plan a.first_limits.numbers (events_in a.state) a.watch.judge a.watch.desk
  pub halted : (fault : WorldFault) → a.stopped ≡ Some fault
      → HasHalted f e a.plan a.first_limits.numbers (events_in a.state)
      (disks_at a.state.sites.items ++ reverse a.rest.items) a.watch.judge a.watch.desk
  pub sites : AreSites a.plan.peers a.state.sites.items
  pub unfused : AreUnfused f (disks_at a.state.sites.items ++ reverse a.rest.items)
  pub room : vec_len a.rest + length a.state.sites.items ≤ vec_capacity a.rest
  pub served : HaveServed f a.plan.peers a.first_faults.numbers
      (disks_at a.state.sites.items ++ reverse a.rest.items) a.stopped

-- a world in which nothing happened yet, with this plan, pool, judge, bells and disks' counts of faults
pub record Begins {D J B : Type 0} (e : Ears J B) (p : Plan) (pool : List ℕ) (faults : List ℕ) (j : J) (bs : List B)
    (world : Seen D J B) : Type 0 where
  pub plan : world.plan ≡ p
  pub pooled : world.pool ≡ pool
  pub limits : world.start.limits ≡ map e.limit bs
  pub counts : world.start.faults ≡ faults
  pub history : world.history ≡ []
  pub turns : world.turns ≡ 0
  pub out : world.out ≡ []
  pub running : world.stopped ≡ None
  pub judge : world.judge ≡ j
  pub bells : world.bells ≡ bs

-- what no call changes: the plan, the pool and what is remembered of the beginning
pub record Remembers {D J B : Type 0} (old new : Seen D J B) : Type 0 where
  pub plan : new.plan ≡ old.plan
  pub pool : new.pool ≡ old.pool
  pub start : new.start ≡ old.start

-- What a step makes of a world: its history goes on as the step says, while its judge and bells watch.
pub record PerformsIn {D J B : Type 0} (e : Ears J B) (s : Step) (old new : Seen D J B) : Type 0 where
  pub performs : Performs (e.verdict old.judge) old.plan old.history s new.history
  pub watches : Watches old.plan old.history new.history (watching e old.judge old.bells)
      (watching e new.judge new.bells)

-- what a step costs the honest peers of power
abbrev pub SpendsPower : {D J B T : Type 0} → Face D → (J → Verdicts) → Step → Seen D J B → Seen D J B
    → Result T WorldFault → Type 0
SpendsPower f verdict s old new result =
    Spends f (verdict old.judge) old.plan s old.history new.history (fault_in result) old.disks new.disks

-- the fault of a world that was stopped, by want of memory if by nothing before
abbrev pub halting_fault : Option WorldFault → Option WorldFault
halting_fault None = Some Memory
halting_fault (Some fault) = Some fault
