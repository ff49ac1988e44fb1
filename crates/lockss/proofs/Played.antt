-- A world that was played, and its disks.
use Rattle.std.proofs.Common.{◌≡◌, ◌<◌, ◌∙◌, ap, sym, subst, cond, ℕ, true, false, List, [], ◌∷◌, ◌++◌, length}
use Rattle.std.proofs.Common.{filter, refl, arith}
use Rattle.std.proofs.lemmas.Bool.{lt-ltb}
use Rattle.std.specs.Prelude.{All, Bool, Option, Some, None, Result, Err, map}
use Rattle.std.proofs.lemmas.List.Elements.{All-head, All-tail}
use Rattle.lks_outside.specs.Bells.{Heard, left_of, seen}
use Rattle.lks_outside.specs.declared.alarms.Alarm.{Alarm}
use Rattle.lks_base.proofs.PlanBounds.{few_peers}
use Rattle.lks_base.specs.Checking.{plan_fault}
use Rattle.lks_base.specs.declared.plans.PeerPlan.{PeerPlan}
use Rattle.lks_base.specs.declared.plans.Plan.{Plan}
use Rattle.std.specs.List.{flat_map}
use Rattle.std.proofs.lemmas.List.{length-map}
use Rattle.lks_disk.specs.Face.{Face}
use Rattle.lks_gather.specs.Texts.{Filed, IsSaidPlan, journal_text, set_text}
use Rattle.lks_law.specs.World.{is_honest, world}
use Rattle.lks_outside.specs.declared.sinks.WriteStop.TheVariants as writing
use Rattle.lks_print.specs.Scripts.{plan_text}
use Rattle.lks_print.specs.Steps.{line_of}
use Rattle.lks_world.specs.Sites.{id_for}
use Rattle.lockss.proofs.Begun.{nothing_added}
use Rattle.lockss.proofs.ReadBack.{can_read, held_read, journals_are, power_read, serves_read}
use Rattle.lockss.proofs.ToldAgain.{told_again}
use Rattle.lockss.specs.Filed.{filed_from, journals_text}
use Rattle.lockss.specs.ReadingBack.{AreOn, CanRead, IsPreface, ReadsBack, TellsJournals}
use Rattle.lockss.specs.declared.journals.Preface.{Preface}
use Rattle.lockss.specs.declared.playing.Progress.{Progress}
use Rattle.lockss.specs.declared.playing.Progress.TheVariants.{Open, Over}
use Rattle.lks_law.proofs.Holding.{is_safe}
use Rattle.lks_law.specs.Alarms.{alarms}
use Rattle.lks_law.specs.Histories.{IsHistory}
use Rattle.lks_law.specs.Questions.{questions}
use Rattle.lks_script.specs.declared.steps.Script.{Script}
use Rattle.lks_script.specs.declared.steps.Step.{Step}
use Rattle.lks_world.proofs.ServingLaws.{serves_none, serves_then}
use Rattle.lks_world.proofs.PowerLaws.{power_none, power_quiet, power_then, quiet_same}
use Rattle.lks_world.specs.Counts.{ServesHonest, honest_ids}
use Rattle.lks_world.specs.Disks.{honest_disks}
use Rattle.lks_world.specs.Powers.{HavePower, power_of}
use Rattle.lks_world.specs.Follows.{Follows, FollowsUpTo}
use Rattle.lks_world.proofs.BegunUpTo.{none_up_to}
use Rattle.lks_world.specs.Held.{AreUnfused, HaveBatches, HaveBatchesOrNext}
use Rattle.lks_world.specs.declared.faults.WorldFault.TheVariants.{Memory}
use Rattle.lks_world.specs.Watched.{asked_next}
use Rattle.std.proofs.lemmas.List.{append-nil}
use Rattle.lks_world.specs.Spending.{AreSpent, AreSpentUpTo}
use Rattle.lks_world.specs.Worlds.{Begins, Seen}
use Rattle.lks_base.specs.declared.events.Event.{Event}
use Rattle.lks_base.specs.declared.events.PeerStep.{PeerStep}
use Rattle.lks_words.specs.declared.commands.Play.{Play}
use Rattle.lks_words.specs.declared.commands.Play.TheVariants.{Replay, Drill, Journals}
use Rattle.lks_law.specs.Questions.{Verdicts}
use Rattle.lks_outside.specs.declared.sinks.WriteStop.{WriteStop}
use Rattle.lks_report.specs.Alarms.{has_any}
use Rattle.lks_world.specs.declared.faults.WorldFault.{WorldFault}
use Rattle.lockss.specs.Handed.{AreGiven, Devices, IsSilent, Senses}
use Rattle.lockss.specs.Playing.{ComesIn, CountsPower, GoesOn, IfOpen, IsPlayed, IsRefused, IsStopped, TellsFirst}
use Rattle.lockss.specs.Deeds.{Deed, deed_of}
use Rattle.lockss.specs.Promise.{Halts, Kept, NeverBegins, Plays, PlaysTo, ReadsAgain, Tells, Writes}
use Rattle.lockss.specs.declared.ends.Played.{Played}
use Rattle.lockss.specs.declared.ends.Played.TheVariants.{Stopped, Told, Unmade, Untold}

no_questions : (plan : Plan) → [] ≡ questions plan []
unfolding questions
no_questions plan = refl

no_alarms : (plan : Plan) → [] ≡ alarms plan []
unfolding alarms
no_alarms plan = refl

-- no command goes on after its steps
stays_there : (command : Play) (verdict : Verdicts) (plan : Plan) (history : List Event)
    → (deed_of command).goes_on verdict plan history history
stays_there Replay verdict plan history = refl
stays_there (Drill seed) verdict plan history = refl
stays_there Journals verdict plan history = refl

-- bells that have rung for nothing and want more are those that are left before the first alarm
pub silent_left : {B : Type 0} (rung : B → List Alarm) (limit : B → ℕ) (bells : List B)
    → All (IsSilent rung limit) bells → seen rung limit bells ≡ left_of [] (map limit bells)
silent_left rung limit [] silent = refl
silent_left rung limit (b ∷ bs) silent =
    let here = All-head (IsSilent rung limit) b bs silent in
    let first : Heard = record { rung = []; limit = limit b } in
    let rest = left_of [] (map limit bs) in
    (λ i. record { rung = here.0 i; limit = limit b }
    ∷ silent_left rung limit bs (All-tail (IsSilent rung limit) b bs silent) i)
    ∙ sym (ap (λ t. cond t (first ∷ rest) rest) (lt-ltb 0 (limit b) here.1))

module _ {D K J B : Type 0} (e : Senses D K J B) (c : Deed) (s : Script) (before mid final : Devices D K J B)
    (fault : Option WorldFault) (same_judge : final.judge ≡ mid.judge) (same_bells : final.bells ≡ mid.bells) where
  abbrev kept_with_disks : (history : List Event) → ServesHonest e.face s.plan.peers before.disks final.disks fault
      → HavePower e.face s.plan [] history fault (honest_ids s.plan.peers) (honest_disks s.plan.peers before.disks)
      (honest_disks s.plan.peers final.disks)
      → Kept e c s before mid None None history → Kept e c s before final fault None history
  kept_with_disks history served power kept = record {
    good = kept.good;
    happened = kept.happened;
    safe = kept.safe;
    served = served;
    power = power;
    first = kept.first;
    last = kept.last;
    given = kept.given;
    back = same_judge ∙ kept.back;
    same = kept.same;
    heard = kept.heard;
    rung = ap (seen e.ears.rung e.ears.limit) same_bells ∙ kept.rung;
  }

  -- what was played, once more was done to the disks
  plays_with_disks : (run : Plays e c s before mid None)
      → ServesHonest e.face s.plan.peers before.disks final.disks fault
      → HavePower e.face s.plan [] run.history fault (honest_ids s.plan.peers)
      (honest_disks s.plan.peers before.disks) (honest_disks s.plan.peers final.disks)
      → HaveBatches e.face s.plan run.history final.disks → Plays e c s before final fault
  plays_with_disks run served power held = record {
    done = run.done;
    history = run.history;
    kept = kept_with_disks run.history served power run.kept;
    follows = run.follows;
    goes_on = run.goes_on;
    held = held;
    made = run.made;
    there = run.there;
    calm = run.calm;
    spent = run.spent;
  }

  -- they were read back
  pub plays_again : ReadsBack e.face (map id_for s.plan.peers) mid.disks final.disks fault
      → Plays e c s before mid None → Plays e c s before final fault
  plays_again read run =
      plays_with_disks run
      (serves_then e.face s.plan.peers before.disks mid.disks final.disks fault run.kept.served
      (serves_read e.face s.plan.peers mid.disks final.disks fault read))
      (power_read e.face s.plan run.history (honest_disks s.plan.peers before.disks) mid.disks final.disks fault
      read.are run.kept.power)
      (held_read e.face s.plan run.history mid.disks final.disks read.are run.held)

-- want of memory blames no disk
serves_wanting : {D : Type 0} (f : Face D) (peers : List PeerPlan) (xs ys : List D)
    → ServesHonest f peers xs ys None → ServesHonest f peers xs ys (Some Memory)
serves_wanting f peers xs ys served =
    serves_then f peers xs ys ys (Some Memory) served (serves_none f peers ys (Some Memory) (λ id is. absurd cc))

module _ {D K J B : Type 0} (e : Senses D K J B) (c : Deed) (s : Script) (before mid : Devices D K J B) where
  pub plays_wanting : Plays e c s before mid None → Plays e c s before mid (Some Memory)
  plays_wanting run =
      plays_with_disks e c s before mid mid (Some Memory) refl refl run
      (serves_wanting e.face s.plan.peers before.disks mid.disks run.kept.served)
      (power_then e.face s.plan (honest_ids s.plan.peers) [] run.history run.history
      (honest_disks s.plan.peers before.disks) (honest_disks s.plan.peers mid.disks)
      (honest_disks s.plan.peers mid.disks) (Some Memory) run.kept.power
      (power_quiet e.face s.plan (honest_ids s.plan.peers) run.history run.history
      (honest_disks s.plan.peers mid.disks) (honest_disks s.plan.peers mid.disks) (Some Memory)
      (quiet_same s.plan run.history) refl refl))
      run.held

-- where journals are told, there is something to tell
some_told : (command : Play) → (deed_of command).reads_back ≡ true → (plan : Plan) (history : List Event)
    → 0 < length ((deed_of command).told plan history)
unfolding journals_text set_text plan_text line_of
some_told Replay reads plan history = absurd cc
some_told (Drill seed) reads plan history = absurd cc
some_told Journals reads plan history = omega arith

-- what was told first, of a world in which the steps were done
pub comes_first : {D K J B : Type 0} (e : Senses D K J B) (command : Play) (steps : List Step)
    (first now : Seen D J B) (before after : K) (progress : Progress)
    → TellsFirst e command first.plan now.history before after progress
    → ((answer : Result Bool WriteStop)
    → Tells e ((deed_of command).told first.plan now.history) (has_any (alarms first.plan now.history)) before
    after answer
    → IsPlayed e command steps first now before after answer)
    → ComesIn e command steps first now before after progress
comes_first {K = K} e command steps first now before after progress is played = by_progress progress is
  where
    untold : (deed_of command).reads_back ≡ true → after ≡ before
        → IsPlayed e command steps first now before after (Err writing.Memory)
    untold reads same =
        played (Err writing.Memory) (
          λ failed. absurd cc,
          λ taken is. nothing_added taken ((deed_of command).told first.plan now.history) (e.taken after)
              (some_told command reads first.plan now.history) (ap e.taken same ∙ is),
        )

    by_progress : (progress : Progress) → TellsFirst e command first.plan now.history before after progress
        → ComesIn e command steps first now before after progress
    by_progress (Over (Told told)) is = (is.0, played told is.1)
    by_progress (Over (Untold fault)) is = (is.0, is.1, is.2, untold is.0 is.2)
    by_progress (Over (Stopped fault)) is = absurd is
    by_progress (Over (Unmade fault)) is = absurd is
    by_progress (Open preface) is = (is.0, is.1, is.2, untold is.0 is.2)

-- the lines of the plan, and behind them those of the journals, are what is told
tells_all : {D K J B : Type 0} (e : Senses D K J B) (command : Play) → (deed_of command).reads_back ≡ true
    → (plan : Plan) (history : List Event) (p : Preface) (journals : List Filed) → IsPreface plan history p
    → journals ≡ filed_from plan history 0 (filter is_honest plan.peers)
    → (sink after : K) (told : Result Bool WriteStop)
    → Writes e.taken e.failed (p.text.items ++ flat_map journal_text journals) p.alarmed sink after told
    → Tells e ((deed_of command).told plan history) (has_any (alarms plan history)) sink after told
unfolding journals_text set_text
tells_all e Replay reads plan history p journals preface are sink after told writes = absurd cc
tells_all e (Drill seed) reads plan history p journals preface are sink after told writes = absurd cc
tells_all e Journals reads plan history p journals preface are sink after told writes =
    subst
    (λ (b : Bool). Writes e.taken e.failed
    (plan_text plan ++ flat_map journal_text (filed_from plan history 0 (filter is_honest plan.peers))) b sink
    after told) preface.alarmed
    (subst
    (λ (js : List Filed). Writes e.taken e.failed (plan_text plan ++ flat_map journal_text js) p.alarmed sink
    after told) are
    (subst (λ (t : List ℕ). Writes e.taken e.failed (t ++ flat_map journal_text journals) p.alarmed sink after told)
    preface.text writes))

-- what reads the disks back tells journals
reads_again : (command : Play) → (deed_of command).reads_back ≡ true → (plan : Plan) (history : List Event)
    → ReadsAgain plan history (journals_text plan history)
    → (deed_of command).reads_back ≡ true → ReadsAgain plan history ((deed_of command).told plan history)
reads_again Replay reads plan history again also = absurd cc
reads_again (Drill seed) reads plan history again also = absurd cc
reads_again Journals reads plan history again also = again

-- the world began with the script's plan and no events, and did its steps
module _ {D K J B : Type 0} (e : Senses D K J B) (command : Play) (s : Script) (before after : Devices D K J B)
    (first now : Seen D J B) (steps : List Step) (asked : J)
    (good : plan_fault s.plan ≡ None) (given : AreGiven e before) (asked_is : before.judge ≡ Some asked)
    (pool faults : List ℕ) (begins : Begins e.ears s.plan pool faults asked before.bells first)
    (same : steps ≡ s.steps)
    (kept : now.plan ≡ first.plan) (disks_back : after.disks ≡ now.disks)
    (judge_back : after.judge ≡ Some now.judge) (bells_back : after.bells ≡ now.bells)
    (made : ServesHonest e.face s.plan.peers before.disks first.disks None)
    (calm : map (power_of e.face) first.disks ≡ map (power_of e.face) before.disks)
    (occurred : IsHistory now.plan now.history)
    (holds : now.stopped ≡ None → HaveBatches e.face now.plan now.history now.disks) where
  asked_first : e.ears.heard first.judge ≡ questions first.plan first.history
  asked_first =
      let both : Some asked ≡ Some given.unasked.0 = sym asked_is ∙ given.unasked.1 in
      let one : asked ≡ given.unasked.0 = cc in
      ap e.ears.heard (begins.judge ∙ one) ∙ given.unasked.2 ∙ no_questions first.plan
      ∙ ap (questions first.plan) (sym begins.history)

  rung_first : seen e.ears.rung e.ears.limit first.bells
      ≡ left_of (alarms first.plan first.history) (map e.ears.limit before.bells)
  rung_first =
      ap (seen e.ears.rung e.ears.limit) begins.bells ∙ silent_left e.ears.rung e.ears.limit before.bells given.silent
      ∙ ap (λ (raised : List Alarm). left_of raised (map e.ears.limit before.bells))
      (no_alarms first.plan ∙ ap (alarms first.plan) (sym begins.history))

  happened : IsHistory s.plan now.history
  happened = subst (λ p. IsHistory p now.history) (kept ∙ begins.plan) occurred

  -- first the world was made, and then the steps were done
  served_then : (fault : Option WorldFault) → ServesHonest e.face first.plan.peers first.disks now.disks fault
      → ServesHonest e.face s.plan.peers before.disks after.disks fault
  served_then fault played =
      subst (λ ds. ServesHonest e.face s.plan.peers before.disks ds fault) (sym disks_back)
      (serves_then e.face s.plan.peers before.disks first.disks now.disks fault made
      (subst (λ (p : Plan). ServesHonest e.face p.peers first.disks now.disks fault) begins.plan played))

  -- no power failed while it was made
  power_of_all : (fault : Option WorldFault) → CountsPower e.face first now fault
      → HavePower e.face s.plan [] now.history fault (honest_ids s.plan.peers)
      (honest_disks s.plan.peers before.disks) (honest_disks s.plan.peers after.disks)
  power_of_all fault counts =
      let played =
      subst
      (λ h. HavePower e.face s.plan h now.history fault (honest_ids s.plan.peers)
      (honest_disks s.plan.peers first.disks) (honest_disks s.plan.peers now.disks)) begins.history
      (subst
      (λ (p : Plan). HavePower e.face p first.history now.history fault (honest_ids p.peers)
      (honest_disks p.peers first.disks) (honest_disks p.peers now.disks)) begins.plan counts) in
      subst
      (λ ds. HavePower e.face s.plan [] now.history fault (honest_ids s.plan.peers)
      (honest_disks s.plan.peers before.disks) (honest_disks s.plan.peers ds)) (sym disks_back)
      (power_then e.face s.plan (honest_ids s.plan.peers) [] [] now.history (honest_disks s.plan.peers before.disks)
      (honest_disks s.plan.peers first.disks) (honest_disks s.plan.peers now.disks) fault
      (power_none e.face s.plan before.disks first.disks calm) played)

  -- what is kept at the end, or at a fault
  abbrev kept_with : (fault : Option WorldFault) (next : Option PeerStep)
      → e.ears.verdict now.judge ≡ e.ears.verdict first.judge
      → e.ears.heard now.judge ≡ questions first.plan now.history ++ asked_next (world first.plan now.history) next
      → seen e.ears.rung e.ears.limit now.bells
      ≡ left_of (alarms first.plan now.history) (map e.ears.limit before.bells)
      → ServesHonest e.face first.plan.peers first.disks now.disks fault → CountsPower e.face first now fault
      → Kept e (deed_of command) s before after fault next now.history
  kept_with fault next same heard rung serves counts = record {
    good = good;
    happened = happened;
    safe = is_safe s.plan now.history good happened;
    served = served_then fault serves;
    power = power_of_all fault counts;
    first = first.judge;
    last = now.judge;
    given = asked_is ∙ ap Some (sym begins.judge);
    back = judge_back;
    same = same;
    heard =
        subst (λ p. e.ears.heard now.judge ≡ questions p now.history ++ asked_next (world p now.history) next)
        begins.plan heard;
    rung =
        ap (seen e.ears.rung e.ears.limit) bells_back
        ∙ subst
        (λ p. seen e.ears.rung e.ears.limit now.bells
        ≡ left_of (alarms p now.history) (map e.ears.limit before.bells)) begins.plan rung;
  }

  played_whole : (told : Result Bool WriteStop) → IsPlayed e command steps first now before.sink after.sink told
      → Plays e (deed_of command) s before after None
  played_whole told played = record {
    done = now.history;
    history = now.history;
    kept =
        kept_with None None played.watches.verdict
        (played.watches.heard asked_first ∙ sym (append-nil (questions first.plan now.history)))
        (played.watches.bells (map e.ears.limit before.bells) rung_first) played.serves played.power;
    follows =
        subst (λ v. Follows v s.plan [] s.steps now.history) (sym played.watches.verdict)
        (subst (λ ss. Follows (e.ears.verdict first.judge) s.plan [] ss now.history) same
        (subst (λ h. Follows (e.ears.verdict first.judge) s.plan h steps now.history) begins.history
        (subst (λ p. Follows (e.ears.verdict first.judge) p first.history steps now.history) begins.plan
        played.follows)));
    goes_on = stays_there command (e.ears.verdict now.judge) s.plan now.history;
    held =
        subst (λ p. HaveBatches e.face p now.history after.disks) (kept ∙ begins.plan)
        (subst (HaveBatches e.face now.plan now.history) (sym disks_back) (holds played.running));
    made = first.disks;
    there = after.disks;
    calm = calm;
    spent =
        subst (λ ds. AreSpent e.face (e.ears.verdict now.judge) s.plan [] first.disks s.steps now.history ds)
        (sym disks_back)
        (subst (λ v. AreSpent e.face v s.plan [] first.disks s.steps now.history now.disks) (sym played.watches.verdict)
        (subst (λ ss. AreSpent e.face (e.ears.verdict first.judge) s.plan [] first.disks ss now.history now.disks) same
        (subst (λ h. AreSpent e.face (e.ears.verdict first.judge) s.plan h first.disks steps now.history now.disks)
        begins.history
        (subst
        (λ p. AreSpent e.face (e.ears.verdict first.judge) p first.history first.disks steps now.history
        now.disks) begins.plan played.spent))));
  }

  pub halted : (fault : WorldFault) → IsStopped e steps first now before.sink after.sink fault
      → Halts e (deed_of command) s before after fault
  halted fault stopped =
      let off = stopped.off in
      let next = off.next in
      record {
        next = next;
        history = now.history;
        kept =
            kept_with (Some fault) next off.stops.verdict (off.stops.heard asked_first)
            (off.stops.bells (map e.ears.limit before.bells) rung_first) stopped.serves stopped.power;
        follows =
            subst (λ v. FollowsUpTo v s.plan [] s.steps now.history next) (sym off.stops.verdict)
            (subst (λ ss. FollowsUpTo (e.ears.verdict first.judge) s.plan [] ss now.history next) same
            (subst (λ h. FollowsUpTo (e.ears.verdict first.judge) s.plan h steps now.history next) begins.history
            (subst (λ p. FollowsUpTo (e.ears.verdict first.judge) p first.history steps now.history next)
            begins.plan off.follows)));
        left =
            subst (λ p. HaveBatchesOrNext e.face p now.history next after.disks) begins.plan
            (subst (HaveBatchesOrNext e.face first.plan now.history next) (sym disks_back) off.left);
        made = first.disks;
        calm = calm;
        spent =
            subst
            (λ ds. AreSpentUpTo e.face (e.ears.verdict now.judge) s.plan [] first.disks s.steps fault
            now.history ds) (sym disks_back)
            (subst (λ v. AreSpentUpTo e.face v s.plan [] first.disks s.steps fault now.history now.disks)
            (sym off.stops.verdict)
            (subst
            (λ ss. AreSpentUpTo e.face (e.ears.verdict first.judge) s.plan [] first.disks ss fault now.history
            now.disks) same
            (subst
            (λ h. AreSpentUpTo e.face (e.ears.verdict first.judge) s.plan h first.disks steps fault now.history
            now.disks) begins.history
            (subst
            (λ p. AreSpentUpTo e.face (e.ears.verdict first.judge) p first.history first.disks steps fault
            now.history now.disks) begins.plan stopped.spent))));
        silent = stopped.silent;
      }

  told_as : (told : Result Bool WriteStop) → IsPlayed e command steps first now before.sink after.sink told
      → Tells e ((deed_of command).told s.plan now.history) (has_any (alarms s.plan now.history)) before.sink
      after.sink told
  told_as told is =
      subst
      (λ (p : Plan). Tells e ((deed_of command).told p now.history) (has_any (alarms p now.history)) before.sink
      after.sink told) begins.plan is.told

  preface_as : (p : Preface) → IsPreface first.plan now.history p → IsPreface s.plan now.history p
  preface_as p is = subst (λ (q : Plan). IsPreface q now.history p) begins.plan is

  -- how it ends, where its journals aren't to be told
  over_as : (played : Played) → ComesIn e command steps first now before.sink after.sink (Over played)
      → PlaysTo e (deed_of command) s before after played
  unfolding played_whole halted
  over_as (Told told) is = (
    played_whole told is.1,
    λ none. refl,
    λ reads. let both : true ≡ false = sym reads ∙ is.0 in
        absurd cc,
    told_as told is.1,
  )
  over_as (Untold fault) is = (
    is.0,
    subst (λ (w : WorldFault). Plays e (deed_of command) s before after (Some w)) (sym is.1)
        (plays_wanting e (deed_of command) s before after (played_whole (Err writing.Memory) is.3)),
    is.2,
  )
  over_as (Stopped fault) is = halted fault is
  over_as (Unmade fault) is = absurd is

  -- and where they are
  module _ (last : Devices D K J B) (same_judge : last.judge ≡ after.judge) (same_bells : last.bells ≡ after.bells)
      (said : (deed_of command).reads_back ≡ true → IsSaidPlan s.plan) where
    open_as : (p : Preface) → ComesIn e command steps first now before.sink after.sink (Open p) → (played : Played)
        → TellsJournals e.face e.taken e.failed p after.disks last.disks after.sink last.sink played
        → PlaysTo e (deed_of command) s before last played
    unfolding played_whole plays_again plays_with_disks
    open_as p is (Told told) tells =
        let preface = preface_as p is.1 in
        let run = played_whole (Err writing.Memory) is.3 in
        let read = subst (λ (owners : List (Option ℕ)). ReadsBack e.face owners after.disks last.disks None)
        preface.owners tells.0 in
        let on = subst (λ (owners : List (Option ℕ)). AreOn e.face owners after.disks tells.1.0) preface.owners
        tells.1.1 in
        let again = told_again s.plan now.history e.face after.disks tells.1.0 run.held on tells.1.2 (said is.0) in (
          plays_again e (deed_of command) s before after last None same_judge same_bells read run,
          λ none. let both : true ≡ false = sym is.0 ∙ none in absurd cc,
          reads_again command is.0 s.plan now.history again,
          tells_all e command is.0 s.plan now.history p tells.1.0 preface
              (journals_are e.face s.plan now.history after.disks tells.1.0 run.held on) before.sink last.sink told
              (subst
              (λ (k : K). Writes e.taken e.failed (p.text.items ++ flat_map journal_text tells.1.0) p.alarmed k
              last.sink told) is.2 tells.1.3),
        )
    open_as p is (Untold fault) tells =
        let preface = preface_as p is.1 in
        let run = played_whole (Err writing.Memory) is.3 in
        let read = subst (λ (owners : List (Option ℕ)). ReadsBack e.face owners after.disks last.disks (Some fault))
        preface.owners tells.0 in (
          is.0,
          plays_again e (deed_of command) s before after last (Some fault) same_judge same_bells read run,
          tells.1
              ∙ is.2,
        )
    open_as p is (Stopped fault) tells = absurd tells
    open_as p is (Unmade fault) tells = absurd tells

    pub played_as : (progress : Progress) → ComesIn e command steps first now before.sink after.sink progress
        → (played : Played)
        → GoesOn e.face e.taken e.failed progress after.disks last.disks after.sink last.sink played
        → PlaysTo e (deed_of command) s before last played
    played_as (Over whole) is played goes =
        subst (λ (d : Devices D K J B). PlaysTo e (deed_of command) s before d played)
        (λ i.
        record {
          disks = sym goes.1 i;
          sink = sym goes.2 i;
          judge = sym same_judge i;
          bells = sym same_bells i;
        })
        (subst (PlaysTo e (deed_of command) s before after) (sym goes.0) (over_as whole is))
    played_as (Open p) is played goes = open_as p is played goes

  -- the disks can be read back, where they are to be
  pub can_read_as : (progress : Progress) → ComesIn e command steps first now before.sink after.sink progress
      → AreUnfused e.face after.disks → IfOpen progress (λ p. CanRead e.face p.owners.items after.disks)
  unfolding played_whole
  can_read_as (Over played) is unfused = tt
  can_read_as (Open p) is unfused =
      let preface = preface_as p is.1 in
      let run = played_whole (Err writing.Memory) is.3 in
      let few = few_peers s.plan good in
      let enough = given.enough in
      let count = run.kept.served.count in
      let owned = length-map s.plan.peers id_for in
      subst (λ (owners : List (Option ℕ)). CanRead e.face owners after.disks) (sym preface.owners)
      (can_read e.face s.plan now.history after.disks (omega (arith, few, enough, count, owned)) unfused run.held)

-- where nothing was made, the disks are fresh
pub none_made : {D K J B : Type 0} (e : Senses D K J B) (command : Play) (s : Script) (given : Devices D K J B)
    → plan_fault s.plan ≡ None → AreGiven e given → NeverBegins e (deed_of command) s given given Memory
none_made e command s given good has = record {
  good = good;
  served = serves_none e.face s.plan.peers given.disks (Some Memory) (λ id is. absurd cc);
  begun = none_up_to e.face s.plan given.disks has.fresh;
  power = refl;
  same = refl;
}

-- where the plan's peers didn't all begin, all else is back
pub never_begins : {D K J B : Type 0} (e : Senses D K J B) (c : Deed) (s : Script) (before after : Devices D K J B)
    (fault : WorldFault)
    → plan_fault s.plan ≡ None → IsRefused e.face s.plan before.disks after.disks fault
    → after.sink ≡ before.sink → after.judge ≡ before.judge → after.bells ≡ before.bells
    → NeverBegins e c s before after fault
never_begins e c s before after fault good refused sink judge bells = record {
  good = good;
  served = refused.served;
  begun = refused.begun;
  power = refused.power;
  same = λ i. record { disks = after.disks; sink = sink i; judge = judge i; bells = bells i };
}
