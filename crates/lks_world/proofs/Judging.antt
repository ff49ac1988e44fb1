-- What a script makes of a history is judged as the judge says.
use Rattle.std.proofs.Common.{◌≡◌, ◌≤◌, ◌<◌, ◌⊎◌, inl, inr, ◌-◌, ap, sym, subst, ℕ, zero, suc, Bool, true, false}
use Rattle.std.proofs.Common.{cond, List, [], ◌∷◌, ◌++◌, length, refl, append_assoc}
use Rattle.std.specs.Prelude.{Option, Some, None, is_some, min, nat_lt, option_map}
use Rattle.std.specs.Option.{option_map_or}
use Rattle.std.proofs.lemmas.Bool.{cases_lt}
use Rattle.std.proofs.lemmas.List.{append-nil}
use Rattle.lks_base.specs.declared.events.Due.{Due}
use Rattle.lks_base.specs.declared.events.Due.TheVariants.{Delivery, Own}
use Rattle.lks_base.specs.declared.events.Event.{Event}
use Rattle.lks_base.specs.declared.events.Event.TheVariants as events
use Rattle.lks_base.specs.declared.events.PeerStep.{PeerStep}
use Rattle.lks_base.specs.declared.events.PeerStep.TheVariants.{Deliver}
use Rattle.lks_base.specs.declared.limits.TheConstants.{MOST_EVENTS}
use Rattle.lks_base.specs.declared.names.Judged.{Judged}
use Rattle.lks_base.specs.declared.names.Judged.TheVariants.{NotAsked, Accepted, Refused}
use Rattle.lks_base.specs.declared.plans.Plan.{Plan}
use Rattle.lks_outside.specs.declared.questions.Question.{Question}
use Rattle.lks_host.proofs.Cuts.{none_or_some}
use Rattle.lks_law.specs.Due.{next_to_lose}
use Rattle.lks_law.specs.Histories.{was_judged, MayStep, MayHappen, added_by}
use Rattle.lks_law.specs.Questions.{Verdicts, judgement_on, question_at, question_on, asked_by, questions_from}
use Rattle.lks_law.specs.Questions.{questions, delivery_of, event_of, IsJudgedStep, IsJudged, AreJudgedFrom}
use Rattle.lks_law.specs.Questions.{AreJudged, OwnAsksNothing}
use Rattle.lks_law.specs.World.{World, Standing, start, happens, happen_all, world, peer_at}
use Rattle.lks_saying.specs.Sayings.{Saying, said_by}
use Rattle.lks_message.specs.Spelling.{spelling}
use Rattle.lks_script.specs.StepRules.{is_step_of, is_cut_step}
use Rattle.lks_script.specs.declared.steps.CutStep.{CutStep}
use Rattle.lks_script.specs.declared.steps.Step.{Step}
use Rattle.lks_script.specs.declared.steps.Step.TheVariants as step
use Rattle.lks_world.proofs.CountLaws.{some_is}
use Rattle.lks_world.proofs.CutLaws.{cut_may}
use Rattle.lks_world.proofs.OwnSteps.{step_may, cut_legal}
use Rattle.lks_world.proofs.DueLaws.{course_may, course_asks}
use Rattle.lks_world.proofs.Watched.{step_asks, cut_asks}
use Rattle.lks_world.specs.Cuts.{taker_of, due_cut, step_cut, step_due, IsCutOff, Cuts, CutsOff}
use Rattle.lks_world.specs.Follows.{next_event, done_within, done, next_lost, delivered_again, with_saying, Performs}
use Rattle.lks_world.specs.Kept.{with_event}
use Rattle.lks_world.specs.States.{next_of}
use Rattle.lks_world.specs.declared.settling.Course.{Course}
use Rattle.lks_world.specs.declared.settling.Course.TheVariants.{Settling, Delivering, Finishing}

-- ---- one event more

judged_last : (verdict : Verdicts) (before : List Question) (w : World) (history : List Event) (e : Event)
    → AreJudgedFrom verdict before w history
    → IsJudged verdict (before ++ questions_from w history) (happen_all w history) e
    → AreJudgedFrom verdict before w (history ++ e ∷ [])
judged_last verdict before w [] e all is =
    (subst (λ (qs : List Question). IsJudged verdict qs w e) (append-nil before) is, tt)
judged_last verdict before w (d ∷ ds) e all is = (
  all.0,
  judged_last verdict (before ++ asked_by w d) (happens w d) ds e all.1
      (subst (λ (qs : List Question). IsJudged verdict qs (happen_all (happens w d) ds) e)
      (sym (append_assoc before (asked_by w d) (questions_from (happens w d) ds))) is),
)

pub judged_more : (verdict : Verdicts) (plan : Plan) (history : List Event) (e : Event)
    → AreJudged verdict plan history → IsJudged verdict (questions plan history) (world plan history) e
    → AreJudged verdict plan (history ++ e ∷ [])
unfolding AreJudged questions world
judged_more verdict plan history e all is = judged_last verdict [] (start plan) history e all is

pub none_judged : (verdict : Verdicts) (plan : Plan) (history : List Event) → history ≡ []
    → AreJudged verdict plan history
unfolding AreJudged
none_judged verdict plan history none = subst (λ h. AreJudgedFrom verdict [] (start plan) h) (sym none) tt

-- what asks nothing is not judged
module _ (verdict : Verdicts) (before : List Question) where
  not_asked : (q : Option Question) (j : Judged) → was_judged j ≡ is_some q → q ≡ None
      → j ≡ judgement_on verdict before q
  not_asked None NotAsked was none = refl
  not_asked None Accepted was none = absurd cc
  not_asked None Refused was none = absurd cc
  not_asked (Some q) j was none = absurd cc

  pub unasked_judged : (plan : Plan) (w : World) (s : PeerStep) → MayStep plan w s → question_on w s ≡ None
      → IsJudgedStep verdict before w s
  unasked_judged plan w (Deliver envelope says) may none = not_asked (question_at w envelope) says may.1 none
  unasked_judged plan w s may none = tt

module _ (verdict : Verdicts) (plan : Plan) where
  -- the event goes on from the history as the judge says
  abbrev pub Says : List Event → Event → Type 0
  Says history e = IsJudged verdict (questions plan history) (world plan history) e

  kept_judged : (history : List Event) (e : Event) → AreJudged verdict plan history → Says history e
      → AreJudged verdict plan (with_event history e)
  kept_judged history e all is = by_room (nat_lt (length history) MOST_EVENTS)
    where
      by_room : (b : Bool) → AreJudged verdict plan (cond b (history ++ e ∷ []) history)
      by_room true = judged_more verdict plan history e all is
      by_room false = all

  -- what a rule names is judged so
  abbrev NamesWhatIsJudged : (Plan → List Event → Option Event) → Type 0
  NamesWhatIsJudged next = (history : List Event) (e : Event) → next plan history ≡ Some e → Says history e

  within_judged : (next : Plan → List Event → Option Event) → NamesWhatIsJudged next
      → (n : ℕ) (history : List Event) → AreJudged verdict plan history
      → AreJudged verdict plan (done_within next n plan history)
  within_judged next names zero history all = all
  within_judged next names (suc n) history all = by_next (next plan history) refl (within_judged next names n)
    where
      by_next : (o : Option Event) → next plan history ≡ o
          → ((h : List Event) → AreJudged verdict plan h → AreJudged verdict plan (done_within next n plan h))
          → AreJudged verdict plan (option_map_or (λ e. done_within next n plan (history ++ e ∷ [])) o history)
      by_next None none later = all
      by_next (Some e) named later =
          later (history ++ e ∷ []) (judged_more verdict plan history e all (names history e named))

  done_judged : (next : Plan → List Event → Option Event) (times : ℕ) (history : List Event)
      → NamesWhatIsJudged next → AreJudged verdict plan history
      → AreJudged verdict plan (done next times plan history)
  unfolding done
  done_judged next times history names all =
      within_judged next names (min times (MOST_EVENTS - length history)) history all

  pub due_judged : (history : List Event) (d : Due)
      → MayHappen plan (world plan history) (event_of verdict plan history d)
      → OwnAsksNothing (world plan history) d → Says history (event_of verdict plan history d)
  due_judged history (Delivery i) may asks = refl
  due_judged history (Own s) may asks =
      unasked_judged verdict (questions plan history) plan (world plan history) s may asks

  course_judged : (course : Course) → NamesWhatIsJudged (next_event verdict (next_of course))
  course_judged course history e named = by_next (next_of course plan history) refl named
    where
      by_next : (o : Option Due) → next_of course plan history ≡ o
          → option_map (event_of verdict plan history) o ≡ Some e → Says history e
      by_next None none made = absurd cc
      by_next (Some d) due made =
          let same : event_of verdict plan history d ≡ e = cc in
          subst (Says history) same
          (due_judged history d (course_may plan history verdict course d due)
          (course_asks plan history course d due))

  lost_judged : (history : List Event) → AreJudged verdict plan history
      → AreJudged verdict plan (next_lost plan history)
  unfolding next_lost
  lost_judged history all = by_next (next_to_lose plan history)
    where
      by_next : (o : Option ℕ)
          → AreJudged verdict plan (option_map_or (λ i. with_event history (events.Lose i)) o history)
      by_next None = all
      by_next (Some i) = kept_judged history (events.Lose i) all tt

  again_judged : (i : ℕ) (history : List Event) → AreJudged verdict plan history
      → AreJudged verdict plan (delivered_again verdict i plan history)
  unfolding delivered_again
  again_judged i history all = by_sent (nat_lt i (length (world plan history).bag))
    where
      by_sent : (b : Bool)
          → AreJudged verdict plan (cond b (with_event history (delivery_of verdict plan history i)) history)
      by_sent true = kept_judged history (delivery_of verdict plan history i) all refl
      by_sent false = all

  spoken_judged : (history after : List Event) (said : Option Saying) → AreJudged verdict plan history
      → after ≡ with_saying history said → AreJudged verdict plan after
  spoken_judged history after None all made = subst (AreJudged verdict plan) (sym made) all
  spoken_judged history after (Some x) all made =
      subst (AreJudged verdict plan) (sym made)
      (kept_judged history (events.Forge x.from x.to (spelling x.message)) all tt)

  -- a step that is cut off, or is done before the power fails

  cuts_judged : (history after : List Event) (calls : ℕ) (p : PeerStep)
      → IsJudgedStep verdict (questions plan history) (world plan history) p → Cuts plan history calls p after
      → AreJudged verdict plan history → AreJudged verdict plan after
  cuts_judged history after calls p says cuts all =
      by_peer (peer_at (taker_of (world plan history).bag p) (world plan history).peers) refl
    where
      whole : (id : ℕ) → AreJudged verdict plan (with_event (with_event history (events.Step p)) (events.Crash id))
      whole id =
          kept_judged (with_event history (events.Step p)) (events.Crash id)
          (kept_judged history (events.Step p) all says) tt

      short : IsCutOff history calls p after → AreJudged verdict plan after
      short off =
          subst (AreJudged verdict plan) (sym off.more) (kept_judged history (events.Cut p off.is_kept) all says)

      by_calls : (s : Standing) → peer_at (taker_of (world plan history).bag p) (world plan history).peers ≡ Some s
          → (added_by (world plan history) p ≡ []) ⊎ (added_by (world plan history) p ≡ [] → ⊥)
          → (calls < 4) ⊎ (4 ≤ calls) → AreJudged verdict plan after
      by_calls s there (inl none) calls_are =
          subst (AreJudged verdict plan) (sym (cuts.whole s there (inl none)))
          (whole (taker_of (world plan history).bag p))
      by_calls s there (inr some) (inl few) =
          short (cuts.short (record { peer = s; honest = there; adds = some; few = few }))
      by_calls s there (inr some) (inr four) =
          subst (AreJudged verdict plan) (sym (cuts.whole s there (inr four)))
          (whole (taker_of (world plan history).bag p))

      by_peer : (o : Option Standing) → peer_at (taker_of (world plan history).bag p) (world plan history).peers ≡ o
          → AreJudged verdict plan after
      by_peer None alone =
          subst (AreJudged verdict plan) (sym (cuts.alone alone)) (kept_judged history (events.Step p) all says)
      by_peer (Some s) there = by_calls s there (none_or_some (added_by (world plan history) p)) (cases_lt calls 4)

  cut_judged : (history after : List Event) (calls : ℕ) (o : Option PeerStep) → AreJudged verdict plan history
      → ((p : PeerStep) → o ≡ Some p → IsJudgedStep verdict (questions plan history) (world plan history) p)
      → CutsOff plan history calls o after → AreJudged verdict plan after
  cut_judged history after calls None all says made = subst (AreJudged verdict plan) (sym made) all
  cut_judged history after calls (Some p) all says made = cuts_judged history after calls p (says p refl) made all

  due_says : (history : List Event) (given : CutStep) → is_cut_step plan given ≡ true → (d : Due)
      → due_cut plan history given ≡ Some d
      → IsJudgedStep verdict (questions plan history) (world plan history) (step_due verdict plan history d)
  unfolding step_cut
  due_says history given legal (Delivery i) there = refl
  due_says history given legal (Own s) there =
      unasked_judged verdict (questions plan history) plan (world plan history) s
      (cut_may verdict plan history given legal s (ap (option_map (step_due verdict plan history)) there))
      (cut_asks plan (world plan history) history given legal (Own s) there)

  cut_says : (history : List Event) (given : CutStep) → is_cut_step plan given ≡ true → (p : PeerStep)
      → step_cut verdict plan history given ≡ Some p
      → IsJudgedStep verdict (questions plan history) (world plan history) p
  unfolding step_cut
  cut_says history given legal p is = by_due (due_cut plan history given) refl is
    where
      by_due : (o : Option Due) → due_cut plan history given ≡ o
          → option_map (step_due verdict plan history) o ≡ Some p
          → IsJudgedStep verdict (questions plan history) (world plan history) p
      by_due None none is = absurd cc
      by_due (Some d) there is =
          subst (IsJudgedStep verdict (questions plan history) (world plan history)) (some_is is)
          (due_says history given legal d there)

  -- ---- a step of a script

  said_judged : (history after : List Event) (s : Step) → AreJudged verdict plan history
      → after ≡ with_saying history (said_by plan s) → AreJudged verdict plan after
  said_judged history after s all made = spoken_judged history after (said_by plan s) all made

  went_on : (course : Course) (times : ℕ) (history after : List Event) → AreJudged verdict plan history
      → after ≡ done (next_event verdict (next_of course)) times plan history → AreJudged verdict plan after
  went_on course times history after all made =
      subst (AreJudged verdict plan) (sym made)
      (done_judged (next_event verdict (next_of course)) times history (course_judged course) all)

  pub performed_judged : (history after : List Event) (s : Step) → is_step_of plan s ≡ true
      → AreJudged verdict plan history → Performs verdict plan history s after → AreJudged verdict plan after
  performed_judged history after (step.Peer p) legal all made =
      let may = step_may plan (world plan history) (step.Peer p) p refl legal in
      let asks = step_asks plan (world plan history) (step.Peer p) p refl legal in
      subst (AreJudged verdict plan) (sym made)
      (kept_judged history (events.Step p) all
      (unasked_judged verdict (questions plan history) plan (world plan history) p may asks))
  performed_judged history after (step.Tick by) legal all made =
      subst (AreJudged verdict plan) (sym made) (kept_judged history (events.Tick by) all tt)
  performed_judged history after (step.Next times) legal all made = went_on Delivering times history after all made
  performed_judged history after step.Lose legal all made =
      subst (AreJudged verdict plan) (sym made) (lost_judged history all)
  performed_judged history after (step.Again envelope) legal all made =
      subst (AreJudged verdict plan) (sym made) (again_judged envelope history all)
  performed_judged history after step.Settle legal all made = went_on Settling MOST_EVENTS history after all made
  performed_judged history after step.Finish legal all made = went_on Finishing MOST_EVENTS history after all made
  performed_judged history after (step.Forge from to bytes) legal all made =
      subst (AreJudged verdict plan) (sym made) (kept_judged history (events.Forge from to bytes) all tt)
  performed_judged history after (step.SayPoll from to number au) legal all made =
      said_judged history after (step.SayPoll from to number au) all made
  performed_judged history after (step.SayProof from to number) legal all made =
      said_judged history after (step.SayProof from to number) all made
  performed_judged history after (step.SayRequest from to number block) legal all made =
      said_judged history after (step.SayRequest from to number block) all made
  performed_judged history after (step.SayReceipt from to number) legal all made =
      said_judged history after (step.SayReceipt from to number) all made
  performed_judged history after (step.SayChallenge from to number agrees) legal all made =
      said_judged history after (step.SayChallenge from to number agrees) all made
  performed_judged history after (step.SayNominate from to number nominees) legal all made =
      said_judged history after (step.SayNominate from to number nominees) all made
  performed_judged history after (step.SayVote from to number au blocks) legal all made =
      said_judged history after (step.SayVote from to number au blocks) all made
  performed_judged history after (step.SayRepair from to number block bytes) legal all made =
      said_judged history after (step.SayRepair from to number block bytes) all made
  performed_judged history after (step.Crash peer) legal all made =
      subst (AreJudged verdict plan) (sym made) (kept_judged history (events.Crash peer) all tt)
  performed_judged history after (step.Cut calls choice s) legal all made =
      cut_judged history after calls (step_cut verdict plan history s) all
      (cut_says history s (cut_legal plan (step.Cut calls choice s) calls choice s refl legal)) made
