-- A world that a fault stopped.
use Rattle.std.specs.Prelude.{List, Option}
use Rattle.lks_base.specs.declared.events.Event.{Event}
use Rattle.lks_base.specs.declared.events.PeerStep.{PeerStep}
use Rattle.lks_base.specs.declared.plans.Plan.{Plan}
use Rattle.lks_disk.specs.Face.{Face}
use Rattle.lks_script.specs.declared.steps.Step.{Step}
use Rattle.lks_watch.specs.Watching.{Ears, watching}
use Rattle.lks_watch.specs.declared.watches.Watch.{Watch}
use Rattle.lks_world.specs.Follows.{IsUpTo, Performs}
use Rattle.lks_world.specs.Held.{HaveBatchesOrNext, MayBegin}
use Rattle.lks_world.specs.States.{AreLeft, events_in}
use Rattle.lks_world.specs.Watched.{Stops, StopsBy}
use Rattle.lks_world.specs.Worlds.{Seen}
use Rattle.lks_world.specs.declared.states.State.{State}

-- On the way to a history with P: what was kept is a front of it, the step that was begun may come next, the judge
-- heard what that history asks and what this step asks, the bells rang, and a crash leaves the journals, or those with
-- the batch of this step.
pub record HasStopped {D J B : Type 0} (f : Face D) (e : Ears J B) (plan : Plan) (P : List Event → Type 0)
    (before : List Event) (first : Watch J B) (s : State D) (w : Watch J B) : Type 0 where
  pub next : Option PeerStep
  pub up_to : IsUpTo P (events_in s) next
  pub may : MayBegin plan (events_in s) next
  pub stops : StopsBy e plan before (events_in s) next first w
  pub left : AreLeft f plan next s

-- the same of a world as callers see it, in a step of a script
pub record StopsIn {D J B : Type 0} (f : Face D) (e : Ears J B) (s : Step) (old new : Seen D J B) : Type 0 where
  pub next : Option PeerStep
  pub up_to : IsUpTo (Performs (e.verdict old.judge) old.plan old.history s) new.history next
  pub may : MayBegin old.plan new.history next
  pub stops : Stops old.plan old.history new.history next (watching e old.judge old.bells)
      (watching e new.judge new.bells)
  pub left : HaveBatchesOrNext f old.plan new.history next new.disks
