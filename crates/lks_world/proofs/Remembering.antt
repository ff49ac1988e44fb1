-- What judge and bells have watched since the beginning, while a history goes on.
use Rattle.std.proofs.Common.{◌≡◌, ◌∙◌, ap, sym, subst, ℕ, List, [], ◌∷◌, ◌++◌}
use Rattle.std.specs.Prelude.{true, Option, None}
use Rattle.lks_outside.specs.Bells.{left_of, seen}
use Rattle.lks_outside.specs.declared.alarms.Alarm.{Alarm}
use Rattle.lks_base.specs.declared.events.Event.{Event}
use Rattle.lks_base.specs.declared.plans.PeerPlan.{PeerPlan}
use Rattle.lks_base.specs.declared.plans.Plan.{Plan}
use Rattle.lks_disk.specs.Face.{Face}
use Rattle.lks_law.specs.Alarms.{alarms}
use Rattle.lks_law.specs.Questions.{Verdicts, AreJudged}
use Rattle.lks_script.specs.StepRules.{is_step_of}
use Rattle.lks_script.specs.declared.steps.Step.{Step}
use Rattle.lks_watch.specs.Watching.{Ears, WatchesBy}
use Rattle.lks_watch.specs.declared.watches.Watch.{Watch}
use Rattle.lks_world.proofs.Judging.{judged_more, none_judged, performed_judged, Says}
use Rattle.lks_world.proofs.Watched.{asked_first}
use Rattle.lks_world.specs.Follows.{Performs}
use Rattle.lks_world.specs.Worlds.{HasWatched, HaveServed}
use Rattle.lks_world.specs.Counts.{ServesHonest}
use Rattle.lks_world.specs.declared.faults.WorldFault.{WorldFault}
use Rattle.lks_world.proofs.ServingLaws.{serves_then}

no_alarms : (plan : Plan) {history : List Event} → history ≡ [] → [] ≡ alarms plan history
unfolding alarms
no_alarms plan none = ap (alarms plan) (sym none)

module _ {J B : Type 0} (e : Ears J B) (plan : Plan) (limits : List ℕ) where
  pub begins_watched : (history : List Event) (judge : J) (bells : List B) → history ≡ [] → e.heard judge ≡ []
      → seen e.rung e.limit bells ≡ left_of [] limits → HasWatched e plan limits history judge bells
  begins_watched history judge bells none unasked silent = record {
    heard = unasked ∙ asked_first plan none;
    judged = none_judged (e.verdict judge) plan history none;
    rung = silent ∙ ap (λ (raised : List Alarm). left_of raised limits) (no_alarms plan none);
  }

  goes_watched : (before after : List Event) (old new : Watch J B)
      → HasWatched e plan limits before old.judge old.desk → WatchesBy e plan before after old new
      → AreJudged (e.verdict old.judge) plan after
      → HasWatched e plan limits after new.judge new.desk
  goes_watched before after old new was watches judged = record {
    heard = watches.heard was.heard;
    judged = subst (λ (v : Verdicts). AreJudged v plan after) (sym watches.verdict) judged;
    rung = watches.bells limits was.rung;
  }

  pub performs_watched : (before after : List Event) (old new : Watch J B) (s : Step) → is_step_of plan s ≡ true
      → HasWatched e plan limits before old.judge old.desk → Performs (e.verdict old.judge) plan before s after
      → WatchesBy e plan before after old new → HasWatched e plan limits after new.judge new.desk
  performs_watched before after old new s legal was performs watches =
      goes_watched before after old new was watches
      (performed_judged (e.verdict old.judge) plan before after s legal was.judged performs)

  pub event_watched : (before after : List Event) (v : Event) (old new : Watch J B)
      → HasWatched e plan limits before old.judge old.desk → after ≡ before ++ v ∷ []
      → Says (e.verdict old.judge) plan before v
      → WatchesBy e plan before after old new → HasWatched e plan limits after new.judge new.desk
  event_watched before after v old new was more says watches =
      goes_watched before after old new was watches
      (subst (AreJudged (e.verdict old.judge) plan) (sym more)
      (judged_more (e.verdict old.judge) plan before v was.judged says))

-- calls after calls, since the counts were these
pub served_on : {D : Type 0} (f : Face D) (peers : List PeerPlan) (counts : List ℕ) (xs ys : List D)
    (fault : Option WorldFault)
    → HaveServed f peers counts xs None → ServesHonest f peers xs ys fault → HaveServed f peers counts ys fault
served_on f peers counts xs ys fault was next =
    record {
      first = was.first;
      counted = was.counted;
      serves = serves_then f peers was.first xs ys fault was.serves next;
    }
