-- What follows a script is a history.
use Rattle.std.proofs.Common.{◌≡◌, ◌≤◌, ◌<◌, ◌⊎◌, inl, inr, ◌+◌, ◌-◌, sym, subst, ℕ, zero, suc, Bool, true, false}
use Rattle.std.proofs.Common.{cond, List, [], ◌∷◌, ◌++◌, length, refl, arith}
use Rattle.std.specs.Prelude.{Option, Some, None, IfSome, All, min, nat_lt, option_map}
use Rattle.std.specs.List.{AllByRecursion}
use Rattle.std.specs.Option.{option_map_or}
use Rattle.std.proofs.lemmas.Bool.{and_parts, cases_lt, ltb-true}
use Rattle.std.proofs.lemmas.List.{length-append}
use Rattle.std.proofs.lemmas.List.Elements.{recursion_from_All}
use Rattle.lks_base.specs.Checking.{plan_fault}
use Rattle.lks_base.specs.declared.events.Due.{Due}
use Rattle.lks_base.specs.declared.events.Event.{Event}
use Rattle.lks_base.specs.declared.events.Event.TheVariants as events
use Rattle.lks_base.specs.declared.events.PeerStep.{PeerStep}
use Rattle.lks_base.specs.declared.limits.TheConstants.{MOST_EVENTS}
use Rattle.lks_base.specs.declared.plans.PeerPlan.{PeerPlan}
use Rattle.lks_base.specs.declared.plans.Plan.{Plan}
use Rattle.lks_law.proofs.Happening.{history_more, delivery_may, lose_may}
use Rattle.lks_law.specs.Due.{next_to_settle, next_to_deliver, next_to_lose, next_to_finish}
use Rattle.lks_host.proofs.Cuts.{none_or_some}
use Rattle.lks_law.specs.Histories.{MayStep, MayHappen, IsHistory, added_by}
use Rattle.lks_law.specs.Questions.{Verdicts, delivery_of, event_of}
use Rattle.lks_law.specs.World.{Standing, world, peer_at}
use Rattle.lks_message.specs.Spelling.{spelling}
use Rattle.lks_script.specs.StepRules.{is_step_of, are_steps_of}
use Rattle.lks_script.specs.declared.steps.Step.{Step}
use Rattle.lks_script.specs.declared.steps.Step.TheVariants as step
use Rattle.lks_world.proofs.CutLaws.{cut_may, honest_at, some_length}
use Rattle.lks_world.proofs.DueLaws.{course_may}
use Rattle.lks_world.proofs.OwnSteps.{step_may, ticks_within, forgery_may, crash_may, cut_legal}
use Rattle.lks_world.specs.Cuts.{taker_of, step_cut, IsCutOff, Cuts, CutsOff}
use Rattle.lks_saying.proofs.Ends.{said_may}
use Rattle.lks_saying.proofs.Sayable.{IsSayable, says_bytes}
use Rattle.lks_saying.specs.Bytes.{AreBytes, GivesBytes, GiveBytes}
use Rattle.lks_saying.specs.Sayings.{Saying, MayBeSaid, said_by}
use Rattle.lks_world.specs.Follows.{next_event, done_within, done, next_lost, delivered_again, with_saying, Performs}
use Rattle.lks_world.specs.Follows.{Follows}
use Rattle.lks_world.specs.Kept.{with_event}
use Rattle.lks_world.specs.declared.settling.Course.TheVariants.{Settling, Delivering, Finishing}

-- ---- one event more, or a few

module _ (plan : Plan) where
  kept_history : (history : List Event) (e : Event) → IsHistory plan history → MayHappen plan (world plan history) e
      → IsHistory plan (with_event history e)
  kept_history history e is may = by_room (nat_lt (length history) MOST_EVENTS) refl
    where
      by_room : (b : Bool) → nat_lt (length history) MOST_EVENTS ≡ b
          → IsHistory plan (cond b (history ++ e ∷ []) history)
      by_room true room = history_more plan history e is (ltb-true (length history) MOST_EVENTS room) may
      by_room false full = is

  -- what a rule names may happen
  abbrev NamesWhatMay : (Plan → List Event → Option Event) → Type 0
  NamesWhatMay next =
      (history : List Event) (e : Event) → next plan history ≡ Some e → MayHappen plan (world plan history) e

  within_history : (next : Plan → List Event → Option Event) → NamesWhatMay next → (n : ℕ) (history : List Event)
      → length history + n ≤ MOST_EVENTS → IsHistory plan history → IsHistory plan (done_within next n plan history)
  within_history next may zero history room is = is
  within_history next may (suc n) history room is = by_next (next plan history) refl (within_history next may n)
    where
      by_next : (o : Option Event) → next plan history ≡ o
          → ((h : List Event) → length h + n ≤ MOST_EVENTS → IsHistory plan h
          → IsHistory plan (done_within next n plan h))
          → IsHistory plan (option_map_or (λ e. done_within next n plan (history ++ e ∷ [])) o history)
      by_next None none later = is
      by_next (Some e) named later =
          let more = length-append history (e ∷ []) in
          let one : length (e ∷ []) ≡ 1 = refl in
          later (history ++ e ∷ []) (omega (arith, room, more, one))
          (history_more plan history e is (omega (arith, room)) (may history e named))

  done_history : (next : Plan → List Event → Option Event) (times : ℕ) (history : List Event) → NamesWhatMay next
      → IsHistory plan history → IsHistory plan (done next times plan history)
  unfolding done
  done_history next times history may is =
      within_history next may (min times (MOST_EVENTS - length history)) history (omega (arith, is.few)) is

  event_may : (verdict : Verdicts) (next : Plan → List Event → Option Due)
      → ((history : List Event) (d : Due) → next plan history ≡ Some d
      → MayHappen plan (world plan history) (event_of verdict plan history d))
      → NamesWhatMay (next_event verdict next)
  event_may verdict next may history e named = by_next (next plan history) refl named
    where
      by_next : (o : Option Due) → next plan history ≡ o → option_map (event_of verdict plan history) o ≡ Some e
          → MayHappen plan (world plan history) e
      by_next None none made = absurd cc
      by_next (Some d) due made =
          let same : event_of verdict plan history d ≡ e = cc in
          subst (MayHappen plan (world plan history)) same (may history d due)

  lost_history : Verdicts → (history : List Event) → IsHistory plan history → IsHistory plan (next_lost plan history)
  unfolding next_lost
  lost_history verdict history is = by_next (next_to_lose plan history) refl
    where
      by_next : (o : Option ℕ) → next_to_lose plan history ≡ o
          → IsHistory plan (option_map_or (λ i. with_event history (events.Lose i)) o history)
      by_next None none = is
      by_next (Some i) waits = kept_history history (events.Lose i) is (lose_may verdict plan history i waits)

  again_history : (verdict : Verdicts) (i : ℕ) (history : List Event) → IsHistory plan history
      → IsHistory plan (delivered_again verdict i plan history)
  unfolding delivered_again
  again_history verdict i history is = by_sent (nat_lt i (length (world plan history).bag)) refl
    where
      by_sent : (b : Bool) → nat_lt i (length (world plan history).bag) ≡ b
          → IsHistory plan (cond b (with_event history (delivery_of verdict plan history i)) history)
      by_sent true sent =
          kept_history history (delivery_of verdict plan history i) is
          (delivery_may verdict plan history i (ltb-true i (length (world plan history).bag) sent))
      by_sent false never = is

  spoken_history : (history : List Event) (said : Option Saying) → IfSome said (MayBeSaid plan)
      → IfSome said (λ x. IsSayable x.message) → IsHistory plan history → IsHistory plan (with_saying history said)
  spoken_history history None may sayable is = is
  spoken_history history (Some x) may sayable is =
      kept_history history (events.Forge x.from x.to (spelling x.message)) is
      (record { corrupt = may.0; known = may.1; few = sayable.few; are = sayable.are })

  -- a step that is cut off, or is done before the power fails

  done_then_crashed : (history : List Event) (p : PeerStep) (id : ℕ) (s : Standing)
      → MayStep plan (world plan history) p → peer_at id (world plan history).peers ≡ Some s
      → IsHistory plan history → IsHistory plan (with_event (with_event history (events.Step p)) (events.Crash id))
  done_then_crashed history p id s may there is =
      kept_history (with_event history (events.Step p)) (events.Crash id) (kept_history history (events.Step p) is may)
      (honest_at plan history id s there)

  cut_off_history : (history after : List Event) (calls : ℕ) (p : PeerStep) → MayStep plan (world plan history) p
      → (added_by (world plan history) p ≡ [] → ⊥) → IsCutOff history calls p after → IsHistory plan history
      → IsHistory plan after
  cut_off_history history after calls p may adds cut is =
      subst (IsHistory plan) (sym cut.more)
      (kept_history history (events.Cut p cut.is_kept) is
      (may, some_length (added_by (world plan history) p) adds))

  cuts_history : (history after : List Event) (calls : ℕ) (p : PeerStep) → MayStep plan (world plan history) p
      → Cuts plan history calls p after → IsHistory plan history → IsHistory plan after
  cuts_history history after calls p may cuts is =
      by_peer (peer_at (taker_of (world plan history).bag p) (world plan history).peers) refl
    where
      by_calls : (s : Standing) → peer_at (taker_of (world plan history).bag p) (world plan history).peers ≡ Some s
          → (added_by (world plan history) p ≡ []) ⊎ (added_by (world plan history) p ≡ [] → ⊥)
          → (calls < 4) ⊎ (4 ≤ calls) → IsHistory plan after
      by_calls s there (inl none) calls_are =
          subst (IsHistory plan) (sym (cuts.whole s there (inl none)))
          (done_then_crashed history p (taker_of (world plan history).bag p) s may there is)
      by_calls s there (inr some) (inl few) =
          cut_off_history history after calls p may some
          (cuts.short (record { peer = s; honest = there; adds = some; few = few })) is
      by_calls s there (inr some) (inr four) =
          subst (IsHistory plan) (sym (cuts.whole s there (inr four)))
          (done_then_crashed history p (taker_of (world plan history).bag p) s may there is)

      by_peer : (o : Option Standing) → peer_at (taker_of (world plan history).bag p) (world plan history).peers ≡ o
          → IsHistory plan after
      by_peer None alone = subst (IsHistory plan) (sym (cuts.alone alone)) (kept_history history (events.Step p) is may)
      by_peer (Some s) there = by_calls s there (none_or_some (added_by (world plan history) p)) (cases_lt calls 4)

  cut_history : (history after : List Event) (calls : ℕ) (o : Option PeerStep) → IsHistory plan history
      → ((p : PeerStep) → o ≡ Some p → MayStep plan (world plan history) p) → CutsOff plan history calls o after
      → IsHistory plan after
  cut_history history after calls None is may made = subst (IsHistory plan) (sym made) is
  cut_history history after calls (Some p) is may made = cuts_history history after calls p (may p refl) made is

-- ---- a step, and all steps

module _ (verdict : Verdicts) (plan : Plan) (good : plan_fault plan ≡ None)
    (proofs : All (λ (p : PeerPlan). AreBytes p.proof) plan.peers) where
  said_history : (history after : List Event) (s : Step) → IsHistory plan history → is_step_of plan s ≡ true
      → GivesBytes s → after ≡ with_saying history (said_by plan s) → IsHistory plan after
  said_history history after s is legal are made =
      subst (IsHistory plan) (sym made)
      (spoken_history plan history (said_by plan s) (said_may plan s (said_by plan s) refl legal)
      (says_bytes plan good proofs s legal are) is)

  performed_history : (history after : List Event) (s : Step) → IsHistory plan history → is_step_of plan s ≡ true
      → GivesBytes s → Performs verdict plan history s after → IsHistory plan after
  performed_history history after (step.Peer p) is legal are made =
      subst (IsHistory plan) (sym made)
      (kept_history plan history (events.Step p) is
      (step_may plan (world plan history) (step.Peer p) p refl legal))
  performed_history history after (step.Tick by) is legal are made =
      subst (IsHistory plan) (sym made)
      (kept_history plan history (events.Tick by) is (ticks_within plan (step.Tick by) by refl legal))
  performed_history history after (step.Next times) is legal are made =
      subst (IsHistory plan) (sym made)
      (done_history plan (next_event verdict next_to_deliver) times history
      (event_may plan verdict next_to_deliver (λ h d next. course_may plan h verdict Delivering d next)) is)
  performed_history history after step.Lose is legal are made =
      subst (IsHistory plan) (sym made) (lost_history plan verdict history is)
  performed_history history after (step.Again envelope) is legal are made =
      subst (IsHistory plan) (sym made) (again_history plan verdict envelope history is)
  performed_history history after step.Settle is legal are made =
      subst (IsHistory plan) (sym made)
      (done_history plan (next_event verdict next_to_settle) MOST_EVENTS history
      (event_may plan verdict next_to_settle (λ h d next. course_may plan h verdict Settling d next)) is)
  performed_history history after step.Finish is legal are made =
      subst (IsHistory plan) (sym made)
      (done_history plan (next_event verdict next_to_finish) MOST_EVENTS history
      (event_may plan verdict next_to_finish (λ h d next. course_may plan h verdict Finishing d next)) is)
  performed_history history after (step.Forge from to bytes) is legal are made =
      let may = forgery_may plan (step.Forge from to bytes) from to bytes refl legal in
      subst (IsHistory plan) (sym made)
      (kept_history plan history (events.Forge from to bytes) is
      (record { corrupt = may.0; known = may.1; few = may.2; are = are }))
  performed_history history after (step.SayPoll from to number au) is legal are made =
      said_history history after (step.SayPoll from to number au) is legal are made
  performed_history history after (step.SayProof from to number) is legal are made =
      said_history history after (step.SayProof from to number) is legal are made
  performed_history history after (step.SayRequest from to number block) is legal are made =
      said_history history after (step.SayRequest from to number block) is legal are made
  performed_history history after (step.SayReceipt from to number) is legal are made =
      said_history history after (step.SayReceipt from to number) is legal are made
  performed_history history after (step.SayChallenge from to number agrees) is legal are made =
      said_history history after (step.SayChallenge from to number agrees) is legal are made
  performed_history history after (step.SayNominate from to number nominees) is legal are made =
      said_history history after (step.SayNominate from to number nominees) is legal are made
  performed_history history after (step.SayVote from to number au blocks) is legal are made =
      said_history history after (step.SayVote from to number au blocks) is legal are made
  performed_history history after (step.SayRepair from to number block bytes) is legal are made =
      said_history history after (step.SayRepair from to number block bytes) is legal are made
  performed_history history after (step.Crash peer) is legal are made =
      subst (IsHistory plan) (sym made)
      (kept_history plan history (events.Crash peer) is (crash_may plan (step.Crash peer) peer refl legal))
  performed_history history after (step.Cut calls choice s) is legal are made =
      cut_history plan history after calls (step_cut verdict plan history s) is
      (cut_may verdict plan history s (cut_legal plan (step.Cut calls choice s) calls choice s refl legal)) made

  steps_history : (history after : List Event) (steps : List Step) → IsHistory plan history
      → are_steps_of plan steps ≡ true → AllByRecursion GivesBytes steps → Follows verdict plan history steps after
      → IsHistory plan after
  steps_history history after [] is legal are followed = subst (IsHistory plan) (sym followed) is
  steps_history history after (s ∷ ss) is legal are followed =
      let parts = and_parts (is_step_of plan s) (are_steps_of plan ss) legal in
      steps_history followed.0 after ss (performed_history history followed.0 s is parts.0 are.0 followed.1) parts.1
      are.1 followed.2

-- what follows a script of bytes is a history, where a history goes before
pub followed_history : (verdict : Verdicts) (plan : Plan) (history after : List Event) (steps : List Step)
    → plan_fault plan ≡ None → are_steps_of plan steps ≡ true → GiveBytes plan steps
    → IsHistory plan history → Follows verdict plan history steps after → IsHistory plan after
followed_history verdict plan history after steps good legal are is followed =
    steps_history verdict plan good are.proofs history after steps is legal
    (recursion_from_All GivesBytes steps are.given) followed
