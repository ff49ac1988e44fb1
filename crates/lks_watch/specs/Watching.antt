-- What is seen of a judge and bells, and what a history makes of it.
use Rattle.std.specs.Prelude.{◌≡◌, ℕ, List, [], ◌∷◌, ◌++◌, Result, Ok, Err}
use Rattle.std.specs.Option.{option_to_list}
use Rattle.lks_outside.specs.Bells.{Heard, raised, left_of, seen}
use Rattle.lks_outside.specs.declared.alarms.Alarm.{Alarm}
use Rattle.lks_base.specs.declared.events.Event.{Event}
use Rattle.lks_base.specs.declared.events.PeerStep.{PeerStep}
use Rattle.lks_base.specs.declared.plans.Plan.{Plan}
use Rattle.lks_outside.specs.declared.questions.Question.{Question}
use Rattle.lks_law.specs.Alarms.{alarms}
use Rattle.lks_law.specs.Questions.{Verdicts, question_on, questions}
use Rattle.lks_law.specs.World.{World}
use Rattle.lks_watch.specs.declared.watches.Watch.{Watch}

-- the questions that the judge heard, how it judges, and what is heard of the bells
pub record Watching : Type 0 where
  pub heard : List Question
  pub verdict : Verdicts
  pub bells : List Heard

-- what contracts say of a judge and of a bell
pub record Ears (J B : Type 0) : Type 0 where
  pub heard : J → List Question
  pub verdict : J → Verdicts
  pub rung : B → List Alarm
  pub limit : B → ℕ

abbrev pub ears : {J B : Type 0} → (J → List Question) → (J → Verdicts) → (B → List Alarm) → (B → ℕ) → Ears J B
ears heard verdict rung limit = record { heard = heard; verdict = verdict; rung = rung; limit = limit }

abbrev pub watching : {J B : Type 0} → Ears J B → J → List B → Watching
watching e judge bells = record { heard = e.heard judge; verdict = e.verdict judge; bells = seen e.rung e.limit bells }

abbrev pub seen_by : {J B : Type 0} → Ears J B → Watch J B → Watching
seen_by e w = watching e w.judge w.desk

-- the judge was asked these, and judges as before
pub record Asks (asked : List Question) (old new : Watching) : Type 0 where
  pub heard : new.heard ≡ old.heard ++ asked
  pub verdict : new.verdict ≡ old.verdict
  pub bells : new.bells ≡ old.bells

-- what is heard of bells after these alarms, one after another
abbrev pub raised_all : List Alarm → List Heard → List Heard
raised_all [] bells = bells
raised_all (a ∷ more) bells = raised_all more (raised a bells)

-- these alarms were raised
pub record Rings (alarms : List Alarm) (old new : Watching) : Type 0 where
  pub heard : new.heard ≡ old.heard
  pub verdict : new.verdict ≡ old.verdict
  pub bells : new.bells ≡ raised_all alarms old.bells

-- While a history went on, the judge heard its questions, once each, and the bells rang for its alarms: those of these
-- limits that rang for all alarms before do so now, but for those that have reached their limit.
pub record Watches (plan : Plan) (before after : List Event) (old new : Watching) : Type 0 where
  pub heard : old.heard ≡ questions plan before → new.heard ≡ questions plan after
  pub verdict : new.verdict ≡ old.verdict
  pub bells : (limits : List ℕ) → old.bells ≡ left_of (alarms plan before) limits
      → new.bells ≡ left_of (alarms plan after) limits

-- The same of a judge and a desk.

abbrev pub WatchesBy : {J B : Type 0} → Ears J B → Plan → List Event → List Event → Watch J B → Watch J B → Type 0
WatchesBy e plan before after old new = Watches plan before after (seen_by e old) (seen_by e new)

-- these alarms were raised, or at a refusal none
abbrev pub Hears : {J B T F : Type 0} → Ears J B → List Alarm → Watch J B → Watch J B → Result T F → Type 0
Hears e alarms old new (Ok _) = Rings alarms (seen_by e old) (seen_by e new)
Hears e alarms old new (Err _) = new ≡ old

-- the judge was asked what a step asks in a world
abbrev pub AsksOn : {J B : Type 0} → Ears J B → World → PeerStep → Watch J B → Watch J B → Type 0
AsksOn e w s old new = Asks (option_to_list (question_on w s)) (seen_by e old) (seen_by e new)
