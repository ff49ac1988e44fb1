-- What can be done in a world that is watched.
use Rattle.std.specs.Prelude.{◌≡◌, List}
use Rattle.lks_base.specs.declared.events.Due.{Due}
use Rattle.lks_base.specs.declared.plans.Plan.{Plan}
use Rattle.lks_disk.specs.Face.{Face}
use Rattle.lks_outside.specs.declared.questions.Question.{Question}
use Rattle.lks_law.specs.Histories.{MayHappen}
use Rattle.lks_law.specs.Questions.{Verdicts, event_of, questions}
use Rattle.lks_law.specs.World.{world}
use Rattle.lks_watch.specs.declared.watches.Watch.{Watch}
use Rattle.lks_world.specs.States.{IsStateOf, events_in}
use Rattle.lks_law.specs.Questions.{OwnAsksNothing}
use Rattle.lks_world.specs.declared.states.State.{State}

-- the state is that of a history of the plan, the judge has heard what it asks, and what is due may happen next
pub record IsDoable {D J B : Type 0} (f : Face D) (hears : J → List Question) (plan : Plan) (s : State D)
    (x : Watch J B) (due : Due) : Type 0 where
  pub state : IsStateOf f plan s
  pub heard : hears x.judge ≡ questions plan (events_in s)
  pub may : (verdict : Verdicts) → MayHappen plan (world plan (events_in s)) (event_of verdict plan (events_in s) due)
  pub asks : OwnAsksNothing (world plan (events_in s)) due
