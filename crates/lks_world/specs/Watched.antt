-- What is asked of the judge of a world.
use Rattle.std.specs.Prelude.{◌≡◌, ℕ, List, [], ◌++◌, Option, Some, None}
use Rattle.std.specs.Option.{option_to_list}
use Rattle.lks_outside.specs.Bells.{left_of}
use Rattle.lks_base.specs.declared.events.PeerStep.{PeerStep}
use Rattle.lks_base.specs.declared.events.Event.{Event}
use Rattle.lks_base.specs.declared.plans.Plan.{Plan}
use Rattle.lks_outside.specs.declared.questions.Question.{Question}
use Rattle.lks_law.specs.Alarms.{alarms}
use Rattle.lks_law.specs.Questions.{question_on, questions}
use Rattle.lks_law.specs.World.{World, world}
use Rattle.lks_watch.specs.Watching.{Ears, Watching, seen_by}
use Rattle.lks_watch.specs.declared.watches.Watch.{Watch}

-- what a step that was begun asks, if one was
abbrev pub asked_next : World → Option PeerStep → List Question
asked_next w None = []
asked_next w (Some s) = option_to_list (question_on w s)

-- While a history went on up to a fault, the judge heard its questions, and that of the step that was begun and isn't
-- an event, if one was; and the bells rang for its alarms.
pub record Stops (plan : Plan) (before after : List Event) (next : Option PeerStep) (old new : Watching) : Type 0 where
  pub heard : old.heard ≡ questions plan before → new.heard ≡ questions plan after ++ asked_next (world plan after) next
  pub verdict : new.verdict ≡ old.verdict
  pub bells : (limits : List ℕ) → old.bells ≡ left_of (alarms plan before) limits
      → new.bells ≡ left_of (alarms plan after) limits

abbrev pub StopsBy : {J B : Type 0} → Ears J B → Plan → List Event → List Event → Option PeerStep → Watch J B
    → Watch J B → Type 0
StopsBy e plan before after next old new = Stops plan before after next (seen_by e old) (seen_by e new)
