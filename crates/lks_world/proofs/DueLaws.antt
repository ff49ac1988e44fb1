-- What comes next, or is due at all, can be done.
use Rattle.std.proofs.Common.{◌≡◌, ℕ, List}
use Rattle.std.specs.Prelude.{Some, slice_get}
use Rattle.lks_base.specs.declared.events.Due.{Due}
use Rattle.lks_base.specs.declared.events.Event.{Event}
use Rattle.lks_base.specs.declared.plans.Plan.{Plan}
use Rattle.lks_disk.specs.Face.{Face}
use Rattle.lks_outside.specs.declared.questions.Question.{Question}
use Rattle.lks_law.proofs.Dues.{deliver_can, settle_can, finish_can, due_can, can_happen, can_ask, Can}
use Rattle.lks_law.specs.Due.{dues}
use Rattle.lks_law.specs.Histories.{MayHappen}
use Rattle.lks_law.specs.Questions.{Verdicts, event_of, questions, OwnAsksNothing}
use Rattle.lks_law.specs.World.{world}
use Rattle.lks_watch.specs.declared.watches.Watch.{Watch}
use Rattle.lks_world.specs.Doable.{IsDoable}
use Rattle.lks_world.specs.States.{IsStateOf, events_in, next_of}
use Rattle.lks_world.specs.declared.settling.Course.{Course}
use Rattle.lks_world.specs.declared.settling.Course.TheVariants.{Settling, Delivering, Finishing}
use Rattle.lks_world.specs.declared.states.State.{State}

module _ (plan : Plan) (history : List Event) where
  course_can : (course : Course) (d : Due) → next_of course plan history ≡ Some d → Can plan (world plan history) d
  course_can Settling d next = settle_can plan history d next
  course_can Delivering d next = deliver_can plan history d next
  course_can Finishing d next = finish_can plan history d next

  pub course_may : (verdict : Verdicts) (course : Course) (d : Due) → next_of course plan history ≡ Some d
      → MayHappen plan (world plan history) (event_of verdict plan history d)
  course_may verdict course d next = can_happen plan history verdict d (course_can course d next)

  pub course_asks : (course : Course) (d : Due) → next_of course plan history ≡ Some d
      → OwnAsksNothing (world plan history) d
  course_asks course d next = can_ask plan history d (course_can course d next)

-- what is due at any place can be done
pub due_doable : {D J B : Type 0} (f : Face D) (hears : J → List Question) (plan : Plan) (s : State D)
    (x : Watch J B) (k : ℕ) (d : Due)
    → IsStateOf f plan s → hears x.judge ≡ questions plan (events_in s)
    → slice_get (dues plan (events_in s)) k ≡ Some d → IsDoable f hears plan s x d
due_doable f hears plan s x k d is heard at =
    let can = due_can plan (events_in s) k d at in
    record {
      state = is;
      heard = heard;
      may = λ verdict. can_happen plan (events_in s) verdict d can;
      asks = can_ask plan (events_in s) d can;
    }
