-- What comes next in the world of a state.
use Rattle.std.proofs.Common.{◌≡◌, ◌∙◌, ap, sym, ℕ, true, false, List, [], ◌∷◌, length, refl, arith}
use Rattle.std.specs.Prelude.{Option, Some, None, slice_get, option_map, nat_lt, if◌then◌else◌}
use Rattle.std.specs.Option.{option_map_or}
use Rattle.std.proofs.lemmas.Bool.{ltb-true}
use Rattle.lks_disk.specs.Face.{Face}
use Rattle.lks_base.specs.declared.events.Due.{Due}
use Rattle.lks_base.specs.declared.events.Due.TheVariants.{Delivery, Own}
use Rattle.lks_base.specs.declared.events.Event.{Event}
use Rattle.lks_base.specs.declared.events.Event.TheVariants.{Step, Lose}
use Rattle.lks_base.specs.declared.events.PeerStep.{PeerStep}
use Rattle.lks_base.specs.declared.events.PeerStep.TheVariants.{Deliver}
use Rattle.lks_base.specs.declared.names.Judged.{Judged}
use Rattle.lks_base.specs.declared.plans.Plan.{Plan}
use Rattle.lks_outside.specs.declared.questions.Question.{Question}
use Rattle.lks_law.proofs.Happening.{delivery_may, lose_may}
use Rattle.lks_law.specs.Due.{ready, turns, first_due, first_own, first_waiting, next_to_settle, next_to_deliver}
use Rattle.lks_law.specs.Due.{next_to_lose, next_to_finish}
use Rattle.lks_law.specs.Histories.{WasSent}
use Rattle.lks_law.specs.Questions.{Verdicts, judgement_on, question_at, questions, delivery_of, event_of}
use Rattle.lks_law.specs.World.{World, world}
use Rattle.lks_script.specs.StepRules.{is_step_of}
use Rattle.lks_script.specs.declared.steps.Step.{Step as Line}
use Rattle.lks_script.specs.declared.steps.Step.TheVariants as line
use Rattle.lks_watch.specs.declared.watches.Watch.{Watch}
use Rattle.lks_world.proofs.OwnSteps.{step_may}
use Rattle.lks_world.proofs.DueLaws.{course_may, course_asks}
use Rattle.lks_world.proofs.Watched.{step_asks}
use Rattle.lks_world.specs.Doable.{IsDoable}
use Rattle.lks_world.specs.Follows.{next_event, next_lost, delivered_again}
use Rattle.lks_world.specs.Kept.{with_event}
use Rattle.lks_world.specs.Hosts.{peers_of}
use Rattle.lks_world.specs.declared.settling.Course.{Course}
use Rattle.lks_world.specs.declared.settling.Course.TheVariants.{Settling, Delivering, Finishing}
use Rattle.lks_world.specs.declared.states.State.{State}
use Rattle.lks_world.specs.Sites.{hosts_of}
use Rattle.lks_world.specs.States.{world_in, events_in, IsStateOf, Becomes, next_of, own_steps}

first_is : (waiting : List ℕ) (steps : List PeerStep) (i : ℕ) → slice_get waiting 0 ≡ Some i
    → Some (Delivery i) ≡ first_due waiting steps
first_is [] steps i e = absurd cc
first_is (j ∷ js) steps i e = let same : j ≡ i = cc in ap (λ k. Some (Delivery k)) (sym same)

own_is : (waiting : List ℕ) (steps : List PeerStep) → slice_get waiting 0 ≡ None
    → first_own steps ≡ first_due waiting steps
own_is [] steps e = refl
own_is (j ∷ js) steps e = absurd cc

waiting_is : (waiting : List ℕ) (i : ℕ) → slice_get waiting 0 ≡ Some i → Some i ≡ first_waiting waiting
waiting_is [] i e = absurd cc
waiting_is (j ∷ js) i e = let same : j ≡ i = cc in ap Some (sym same)

none_waits : (waiting : List ℕ) → slice_get waiting 0 ≡ None → None ≡ first_waiting waiting
none_waits [] e = refl
none_waits (j ∷ js) e = absurd cc

module _ {D : Type 0} (f : Face D) (plan : Plan) (s : State D) (is : IsStateOf f plan s) where
  course_is : (course : Course)
      → first_due s.pending.items (own_steps course (peers_of f (hosts_of s.sites.items)))
      ≡ next_of course plan (events_in s)
  unfolding next_to_settle next_to_deliver next_to_finish ready turns
  course_is Settling = λ i. first_due (is.pending i) (own_steps Settling (is.world i).peers)
  course_is Delivering = λ i. first_due (is.pending i) []
  course_is Finishing = λ i. first_due (is.pending i) (own_steps Finishing (is.world i).peers)

  pub delivers_first : (course : Course) (i : ℕ) → slice_get s.pending.items 0 ≡ Some i
      → Some (Delivery i) ≡ next_of course plan (events_in s)
  delivers_first course i first =
      first_is s.pending.items (own_steps course (peers_of f (hosts_of s.sites.items))) i first ∙ course_is course

  pub own_first : (course : Course) → slice_get s.pending.items 0 ≡ None
      → first_own (own_steps course (peers_of f (hosts_of s.sites.items))) ≡ next_of course plan (events_in s)
  own_first course none =
      own_is s.pending.items (own_steps course (peers_of f (hosts_of s.sites.items))) none ∙ course_is course

  pub next_is : (verdict : Verdicts) (course : Course) (d : Due) → Some d ≡ next_of course plan (events_in s)
      → Some (event_of verdict plan (events_in s) d) ≡ next_event verdict (next_of course) plan (events_in s)
  next_is verdict course d next = ap (option_map (event_of verdict plan (events_in s))) next

  pub none_is : (verdict : Verdicts) (course : Course) → None ≡ next_of course plan (events_in s)
      → None ≡ next_event verdict (next_of course) plan (events_in s)
  none_is verdict course none = ap (option_map (event_of verdict plan (events_in s))) none

  -- a delivery is judged by the question that it puts
  pub is_delivery : (verdict : Verdicts) (before : List Question) (i : ℕ) (q : Option Question) (j : Judged)
      → before ≡ questions plan (events_in s) → q ≡ question_at (world_in f s) i → j ≡ judgement_on verdict before q
      → Step (Deliver i j) ≡ delivery_of verdict plan (events_in s) i
  is_delivery verdict before i q j heard asked says =
      ap (λ x. Step (Deliver i x))
      (says ∙ (λ k. judgement_on verdict (heard k) ((asked ∙ ap (λ w. question_at w i) is.world) k)))

  module _ {J B : Type 0} (hears : J → List Question) (x : Watch J B)
      (heard : hears x.judge ≡ questions plan (events_in s)) where
    pub next_doable : (course : Course) (d : Due) → Some d ≡ next_of course plan (events_in s)
        → IsDoable f hears plan s x d
    next_doable course d next =
        record {
          state = is;
          heard = heard;
          may = λ verdict. course_may plan (events_in s) verdict course d (sym next);
          asks = course_asks plan (events_in s) course d (sym next);
        }

    pub sent_doable : (i : ℕ) → nat_lt i (length s.bag.items) ≡ true → IsDoable f hears plan s x (Delivery i)
    sent_doable i sent =
        let size = ap (λ (w : World). length w.bag) is.world in
        let before = ltb-true i (length s.bag.items) sent in
        record {
          state = is;
          heard = heard;
          may = λ verdict. delivery_may verdict plan (events_in s) i (omega (arith, before, size));
          asks = tt;
        }

    pub own_doable : (given : Line) (p : PeerStep) → given ≡ line.Peer p → is_step_of plan given ≡ true
        → IsDoable f hears plan s x (Own p)
    own_doable given p named legal =
        let w = world plan (events_in s) in
        record {
          state = is;
          heard = heard;
          may = λ verdict. step_may plan w given p named legal;
          asks = step_asks plan w given p named legal;
        }

  -- what is lost, and what is delivered again

  pub first_sent : (i : ℕ) → slice_get s.pending.items 0 ≡ Some i → WasSent (world_in f s) i
  unfolding next_to_lose
  first_sent i first =
      let size = ap (λ (w : World). length w.bag) is.world in
      let sent = lose_may verdict_any plan (events_in s) i
      (sym (waiting_is s.pending.items i first ∙ ap first_waiting is.pending)) in
      omega (arith, sent, size)
    where
      verdict_any : Verdicts
      verdict_any before q = true

  pub is_lost : (t : State D) (i : ℕ) → slice_get s.pending.items 0 ≡ Some i
      → Becomes f plan (with_event (events_in s) (Lose i)) t → Becomes f plan (next_lost plan (events_in s)) t
  unfolding next_lost next_to_lose
  is_lost t i first b =
      let next = waiting_is s.pending.items i first ∙ ap first_waiting is.pending in
      record {
        state = b.state;
        events = b.events ∙ ap (λ o. option_map_or (λ k. with_event (events_in s) (Lose k)) o (events_in s)) next;
      }

  pub nothing_lost : slice_get s.pending.items 0 ≡ None → Becomes f plan (next_lost plan (events_in s)) s
  unfolding next_lost next_to_lose
  nothing_lost none =
      let next = none_waits s.pending.items none ∙ ap first_waiting is.pending in
      record {
        state = is;
        events = ap (λ o. option_map_or (λ k. with_event (events_in s) (Lose k)) o (events_in s)) next;
      }

  abbrev again_in : Verdicts → ℕ → World → List Event
  again_in verdict i w =
      if nat_lt i (length w.bag) then with_event (events_in s) (delivery_of verdict plan (events_in s) i)
      else events_in s

  again_is : (verdict : Verdicts) (i : ℕ)
      → again_in verdict i (world_in f s) ≡ delivered_again verdict i plan (events_in s)
  unfolding delivered_again
  again_is verdict i = ap (again_in verdict i) is.world

  pub kept_again : (verdict : Verdicts) (i : ℕ) → nat_lt i (length s.bag.items) ≡ true
      → with_event (events_in s) (delivery_of verdict plan (events_in s) i)
      ≡ delivered_again verdict i plan (events_in s)
  kept_again verdict i stands =
      let here : with_event (events_in s) (delivery_of verdict plan (events_in s) i)
      ≡ again_in verdict i (world_in f s) =
      ap (λ c. if c then with_event (events_in s) (delivery_of verdict plan (events_in s) i) else events_in s)
      (sym stands) in
      here ∙ again_is verdict i

  pub never_sent : (verdict : Verdicts) (i : ℕ) → nat_lt i (length s.bag.items) ≡ false
      → Becomes f plan (delivered_again verdict i plan (events_in s)) s
  never_sent verdict i beyond =
      let here : events_in s ≡ again_in verdict i (world_in f s) =
      ap (λ c. if c then with_event (events_in s) (delivery_of verdict plan (events_in s) i) else events_in s)
      (sym beyond) in
      record { state = is; events = here ∙ again_is verdict i }
