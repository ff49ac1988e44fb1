-- A world in which a script was played and threads took what was due, and its disks.
use Rattle.std.proofs.Common.{◌≡◌, ◌≤◌, ◌⊎◌, ◌∙◌, ap, sym, subst, inl, inr, ℕ, List, [], length, arith}
use Rattle.std.specs.Prelude.{Option, Some, None, map}
use Rattle.lks_outside.specs.Bells.{left_of, seen}
use Rattle.lks_base.specs.Checking.{plan_fault}
use Rattle.lks_base.specs.declared.limits.TheConstants.{MOST_EVENTS}
use Rattle.lks_base.specs.declared.plans.Plan.{Plan}
use Rattle.lks_words.specs.declared.commands.Play.TheVariants.{Replay}
use Rattle.lks_law.proofs.Holding.{is_safe}
use Rattle.lks_law.specs.Alarms.{alarms}
use Rattle.lks_law.specs.Due.{AreDue, dues}
use Rattle.lks_law.specs.Histories.{IsHistory}
use Rattle.lks_race.specs.Racing.{Runs}
use Rattle.lks_report.specs.Alarms.{has_any}
use Rattle.lks_script.specs.declared.steps.Script.{Script}
use Rattle.lks_script.specs.declared.steps.Step.{Step}
use Rattle.lks_world.specs.Counts.{ServesHonest}
use Rattle.lks_world.specs.Follows.{Follows}
use Rattle.lks_world.specs.Giving.{IsOver}
use Rattle.lks_world.specs.Held.{HaveBatches, HaveBatchesOrNext}
use Rattle.lks_world.specs.Powers.{power_of}
use Rattle.lks_world.specs.Worlds.{Begins, HasHalted, HasWatched, HaveServed, Remembers, Seen, Start}
use Rattle.lks_world.specs.declared.faults.WorldFault.{WorldFault}
use Rattle.lockss.proofs.Played.{halted}
use Rattle.lockss.specs.Deeds.{deed_of}
use Rattle.lockss.specs.Handed.{AreGiven, Devices, Senses}
use Rattle.lockss.specs.Promise.{Races, RacesOut, RacesTo, RacesUpTo, Tells}
use Rattle.lockss.specs.Running.{ComesOut, EndsAs, IsRaced}
use Rattle.lockss.specs.declared.ends.Raced.{Raced}
use Rattle.lockss.specs.declared.ends.Raced.TheVariants as raced

-- The world began with the script's plan and no events, did its steps, and was raced.
module _ {D K J B : Type 0} (e : Senses D K J B) (s : Script) (before after : Devices D K J B)
    (first mid now : Seen D J B) (asked : J) (pool : List ℕ) (steps : List Step)
    (good : plan_fault s.plan ≡ None) (asked_is : before.judge ≡ Some asked)
    (begins : Begins e.ears s.plan pool (map e.face.faults before.disks) asked before.bells first)
    (same : steps ≡ s.steps)
    (remembers : Remembers first mid) (turns : mid.turns ≡ first.turns)
    (follows : Follows (e.ears.verdict first.judge) first.plan first.history steps mid.history)
    (runs : Runs e.face e.ears mid now)
    (disks_back : after.disks ≡ now.disks) (judge_back : after.judge ≡ Some now.judge)
    (bells_back : after.bells ≡ now.bells)
    (occurred : IsHistory now.plan now.history)
    (holds : now.stopped ≡ None → HaveBatches e.face now.plan now.history now.disks) where
  mid_plan : mid.plan ≡ s.plan
  mid_plan = remembers.plan ∙ begins.plan

  now_plan : now.plan ≡ s.plan
  now_plan = runs.on.plan ∙ mid_plan

  happened : IsHistory s.plan now.history
  happened = subst (λ (p : Plan). IsHistory p now.history) now_plan occurred

  limits_are : mid.start.limits ≡ map e.ears.limit before.bells
  limits_are = ap (λ (start : Start). start.limits) remembers.start ∙ begins.limits

  faults_are : mid.start.faults ≡ map e.face.faults before.disks
  faults_are = ap (λ (start : Start). start.faults) remembers.start ∙ begins.counts

  ended_as : IsOver now
      → (s.plan.turns ≤ length runs.on.more) ⊎ ((MOST_EVENTS ≤ length now.history) ⊎ (dues s.plan now.history ≡ []))
  ended_as (inl (inl used)) =
      inl (omega (arith, used, ap (λ (p : Plan). p.turns) now_plan, runs.on.turns, turns, begins.turns))
  ended_as (inl (inr full)) = inr (inl full)
  ended_as (inr none) = inr (inr (subst (λ (p : Plan). dues p now.history ≡ []) now_plan none))

  races_out : now.stopped ≡ None → RacesOut e s before after runs.on.more now.history now.judge
  races_out running =
      let watched = subst (λ (p : Plan). HasWatched e.ears p mid.start.limits now.history now.judge now.bells)
      mid_plan (runs.watched running) in
      record {
        ended = ended_as (runs.over running);
        held =
            subst (HaveBatches e.face s.plan now.history) (sym disks_back)
            (subst (λ (p : Plan). HaveBatches e.face p now.history now.disks) now_plan (holds running));
        heard = watched.heard;
        judged = watched.judged;
        rung =
            ap (seen e.ears.rung e.ears.limit) bells_back ∙ watched.rung
            ∙ ap (left_of (alarms s.plan now.history)) limits_are;
      }

  races_up_to : (fault : WorldFault) → now.stopped ≡ Some fault → RacesUpTo e s before after now.history now.judge
  races_up_to fault is =
      let halts = subst
      (λ (p : Plan). HasHalted e.face e.ears p now.start.limits now.history now.disks now.judge now.bells)
      now_plan (runs.halted fault is) in
      record {
        next = halts.next;
        may = halts.may;
        left = subst (HaveBatchesOrNext e.face s.plan now.history halts.next) (sym disks_back) halts.left;
        heard = halts.heard;
        rung =
            ap (seen e.ears.rung e.ears.limit) bells_back ∙ halts.rung
            ∙ ap (λ (start : Start). left_of (alarms s.plan now.history) start.limits) runs.on.start
            ∙ ap (left_of (alarms s.plan now.history)) limits_are;
      }

  races_by : (fault : Option WorldFault) → now.stopped ≡ fault → Races e s before after fault
  races_by fault is = record {
    done = mid.history;
    more = runs.on.more;
    history = now.history;
    goes_on = runs.on.history;
    good = good;
    happened = happened;
    safe = is_safe s.plan now.history good happened;
    served =
        subst (λ disks. HaveServed e.face s.plan.peers (map e.face.faults before.disks) disks fault) (sym disks_back)
        (subst (λ stopped. HaveServed e.face s.plan.peers (map e.face.faults before.disks) now.disks stopped) is
        (subst (λ counts. HaveServed e.face s.plan.peers counts now.disks now.stopped) faults_are
        (subst (λ (p : Plan). HaveServed e.face p.peers mid.start.faults now.disks now.stopped) mid_plan runs.served)));
    first = first.judge;
    last = now.judge;
    given = asked_is ∙ ap Some (sym begins.judge);
    back = judge_back;
    follows =
        subst (λ ss. Follows (e.ears.verdict first.judge) s.plan [] ss mid.history) same
        (subst (λ h. Follows (e.ears.verdict first.judge) s.plan h steps mid.history) begins.history
        (subst (λ p. Follows (e.ears.verdict first.judge) p first.history steps mid.history) begins.plan follows));
    due = subst (λ (p : Plan). AreDue p mid.history runs.on.more) mid_plan runs.on.due;
    out = λ none. races_out (is ∙ none);
    up_to = λ stop stopped. races_up_to stop (is ∙ stopped);
  }

  pub raced_as : (came : Raced) → EndsAs e now before.sink after.sink came → RacesTo e s before after came
  unfolding races_by
  raced_as (raced.Told told) ends = (
    races_by None ends.0,
    subst
        (λ (p : Plan). Tells e ((deed_of Replay).told p now.history) (has_any (alarms p now.history)) before.sink
        after.sink told) now_plan ends.1,
  )
  raced_as (raced.Halted fault) ends = (races_by (Some fault) ends.0, ends.1)
  raced_as (raced.Stopped fault) ends = absurd ends
  raced_as (raced.Unmade fault) ends = absurd ends

-- what came of a race is what is told of it
pub comes_out : {D K J B : Type 0} (e : Senses D K J B) (steps : List Step) (first now : Seen D J B)
    (before after : K) (came : Raced)
    → IsRaced e steps first now → EndsAs e now before after came → ComesOut e steps first now before after came
comes_out e steps first now before after (raced.Told told) is ends = (is, ends)
comes_out e steps first now before after (raced.Halted fault) is ends = (is, ends)
comes_out e steps first now before after (raced.Stopped fault) is ends = absurd ends
comes_out e steps first now before after (raced.Unmade fault) is ends = absurd ends

-- The world began on these disks with the script's plan and no events, and its disks, judge and bells are back.
module _ {D K J B : Type 0} (e : Senses D K J B) (s : Script) (before after : Devices D K J B)
    (first now : Seen D J B) (asked : J) (pool : List ℕ) (steps : List Step)
    (good : plan_fault s.plan ≡ None) (given : AreGiven e before) (asked_is : before.judge ≡ Some asked)
    (begins : Begins e.ears s.plan pool (map e.face.faults before.disks) asked before.bells first)
    (same : steps ≡ s.steps)
    (disks_back : after.disks ≡ now.disks) (judge_back : after.judge ≡ Some now.judge)
    (bells_back : after.bells ≡ now.bells)
    (made : ServesHonest e.face s.plan.peers before.disks first.disks None)
    (calm : map (power_of e.face) first.disks ≡ map (power_of e.face) before.disks)
    (occurred : IsHistory now.plan now.history)
    (holds : now.stopped ≡ None → HaveBatches e.face now.plan now.history now.disks) where
  raced_by : (came : Raced) → IsRaced e steps first now → EndsAs e now before.sink after.sink came
      → RacesTo e s before after came
  raced_by came is =
      raced_as e s before after first is.mid now asked pool steps good asked_is begins same is.remembers is.turns
      is.follows is.runs disks_back judge_back bells_back occurred holds came

  pub comes_to : (came : Raced) → ComesOut e steps first now before.sink after.sink came → RacesTo e s before after came
  comes_to (raced.Told told) (is, ends) = raced_by (raced.Told told) is ends
  comes_to (raced.Halted fault) (is, ends) = raced_by (raced.Halted fault) is ends
  comes_to (raced.Stopped fault) (kept, stopped) =
      halted e Replay s before after first now steps asked good given asked_is pool (map e.face.faults before.disks)
      begins same kept disks_back judge_back bells_back made calm occurred holds fault stopped
  comes_to (raced.Unmade fault) none = absurd none
