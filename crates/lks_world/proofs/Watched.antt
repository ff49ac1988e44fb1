-- A judge and bells watch the world of a state.
use Rattle.std.proofs.Common.{◌≡◌, ◌<◌, ◌∙◌, ap, sym, subst, ℕ, Bool, true, false, cond, List, [], ◌∷◌, ◌++◌, length}
use Rattle.std.proofs.Common.{refl, arith}
use Rattle.std.specs.Prelude.{Option, Some, None, Result, Ok, Err, OnOk, map, nat_lt, option_map, slice_get}
use Rattle.std.specs.List.{filter_map}
use Rattle.std.specs.Option.{option_map_or, option_to_list}
use Rattle.std.proofs.lemmas.List.{map-append}
use Rattle.lks_outside.specs.declared.alarms.Alarm.{Alarm}
use Rattle.lks_base.specs.declared.entries.Entry.{Entry}
use Rattle.lks_base.specs.declared.entries.Note.{Note}
use Rattle.lks_base.specs.declared.events.Due.{Due}
use Rattle.lks_base.specs.declared.events.Due.TheVariants.{Delivery, Own}
use Rattle.lks_base.specs.declared.events.Envelope.{Envelope}
use Rattle.lks_base.specs.declared.events.Event.{Event}
use Rattle.lks_base.specs.declared.events.Event.TheVariants as events
use Rattle.lks_base.specs.declared.events.PeerStep.{PeerStep}
use Rattle.lks_base.specs.declared.events.PeerStep.TheVariants as peers
use Rattle.lks_base.specs.declared.limits.TheConstants.{MOST_EVENTS}
use Rattle.lks_base.specs.declared.plans.Plan.{Plan}
use Rattle.lks_disk.specs.Face.{Face}
use Rattle.lks_outside.specs.declared.questions.Question.{Question}
use Rattle.lks_law.specs.Alarms.{alarms_by, alarm_noted}
use Rattle.lks_law.specs.Due.{pending, next_to_lose}
use Rattle.lks_law.specs.Entries.{entry_for}
use Rattle.lks_law.specs.Questions.{asked_by, question_on, questions}
use Rattle.lks_law.specs.World.{World, Standing, world, deed_of, actor_of}
use Rattle.lks_message.specs.Spelling.{spelling}
use Rattle.lks_saying.specs.Sayings.{Saying}
use Rattle.lks_script.specs.StepRules.{is_own_step, is_cut_step, is_step_of}
use Rattle.lks_script.specs.declared.steps.CutStep.{CutStep}
use Rattle.lks_script.specs.declared.steps.CutStep.TheVariants as cut
use Rattle.lks_script.specs.declared.steps.Step.{Step}
use Rattle.lks_script.specs.declared.steps.Step.TheVariants as step
use Rattle.lks_watch.proofs.Going.{few_questions, watches_same, watches_event, asks_nothing, rings_nothing}
use Rattle.lks_watch.proofs.Noted.{noted}
use Rattle.lks_watch.specs.Watching.{Watching, Ears, Asks, Rings, Watches, WatchesBy, AsksOn, seen_by}
use Rattle.lks_watch.specs.declared.watches.Watch.{Watch}
use Rattle.lks_world.specs.Cuts.{due_cut}
use Rattle.lks_world.specs.Endings.{PeersEnd, event_for, notes_for}
use Rattle.lks_world.specs.Follows.{next_lost, with_saying}
use Rattle.lks_world.specs.Hosts.{peers_of}
use Rattle.lks_world.specs.Kept.{with_event}
use Rattle.lks_world.specs.Sites.{hosts_of}
use Rattle.lks_world.specs.States.{events_in, world_in, IsStateOf}
use Rattle.lks_law.specs.Questions.{OwnAsksNothing}
use Rattle.lks_world.specs.declared.cutting.Ending.{Ending}
use Rattle.lks_world.specs.declared.cutting.Ending.TheVariants.{Whole, Kept, Lost}
use Rattle.lks_world.specs.declared.states.State.{State}

-- What a script lets peers do of their own asks nothing.

pub own_asks : (plan : Plan) (w : World) (s : PeerStep) → is_own_step plan s ≡ true → question_on w s ≡ None
unfolding is_own_step
own_asks plan w (peers.OpenPoll peer au) legal = refl
own_asks plan w (peers.Widen peer number) legal = refl
own_asks plan w (peers.Shut peer number) legal = refl
own_asks plan w (peers.Tally peer number) legal = refl
own_asks plan w (peers.Nudge peer number) legal = refl
own_asks plan w (peers.GiveUp peer number) legal = refl
own_asks plan w (peers.Work peer poll) legal = refl
own_asks plan w (peers.Expire peer poll) legal = refl
own_asks plan w (peers.Check peer) legal = refl
own_asks plan w (peers.Tune peer quorum minority repairs) legal = refl
own_asks plan w s legal = absurd cc

pub step_asks : (plan : Plan) (w : World) (given : Step) (s : PeerStep) → given ≡ step.Peer s
    → is_step_of plan given ≡ true → question_on w s ≡ None
unfolding is_step_of
step_asks plan w given s is legal = own_asks plan w s (ap (is_step_of plan) (sym is) ∙ legal)

pub cut_asks : (plan : Plan) (w : World) (history : List Event) (given : CutStep) → is_cut_step plan given ≡ true
    → (d : Due) → due_cut plan history given ≡ Some d → OwnAsksNothing w d
unfolding is_cut_step due_cut
cut_asks plan w history cut.Next legal d is = by_first (slice_get (pending plan history) 0) is
  where
    by_first : (o : Option ℕ) → option_map Delivery o ≡ Some d → OwnAsksNothing w d
    by_first None is = absurd cc
    by_first (Some i) is = let same : Delivery i ≡ d = cc in subst (OwnAsksNothing w) same tt
cut_asks plan w history (cut.Again i) legal d is = by_sent (nat_lt i (length (world plan history).bag)) is
  where
    by_sent : (b : Bool) → cond b (Some (Delivery i)) None ≡ Some d → OwnAsksNothing w d
    by_sent true is = let same : Delivery i ≡ d = cc in subst (OwnAsksNothing w) same tt
    by_sent false is = absurd cc
cut_asks plan w history (cut.Peer s) legal d is =
    let same : Own s ≡ d = cc in subst (OwnAsksNothing w) same (own_asks plan w s legal)

pub ok_both : {T F : Type 0} (P Q : Type 0) (r : Result T F) → OnOk r P → OnOk r Q → OnOk r (P × Q)
ok_both P Q (Ok x) p q = (p, q)
ok_both P Q (Err e) p q = tt

pub asked_nothing : {J B : Type 0} (e : Ears J B) (w : World) (s : PeerStep) (x : Watch J B)
    → question_on w s ≡ None → AsksOn e w s x x
asked_nothing e w s x none =
    subst (λ q. Asks (option_to_list q) (seen_by e x) (seen_by e x)) (sym none) (asks_nothing (seen_by e x))

-- Events at which nothing is asked, and that raise no alarm.

module _ (plan : Plan) (history : List Event) (x : Watching) where
  pub quiet_kept : (e : Event) → ((w : World) → (asked_by w e ≡ []) × (alarms_by w e ≡ []))
      → Watches plan history (with_event history e) x x
  quiet_kept e quiet = by_room (nat_lt (length history) MOST_EVENTS)
    where
      by_room : (b : Bool) → Watches plan history (cond b (history ++ e ∷ []) history) x x
      by_room true =
          let none = quiet (world plan history) in
          watches_event plan history e x x x
          (subst (λ (qs : List Question). Asks qs x x) (sym none.0) (asks_nothing x))
          (subst (λ (raised : List Alarm). Rings raised x x) (sym none.1) (rings_nothing x))
      by_room false = watches_same plan history x

  pub crash_quiet : (peer : ℕ) → Watches plan history (with_event history (events.Crash peer)) x x
  crash_quiet peer = quiet_kept (events.Crash peer) (λ w. (refl, refl))

  pub spoken_quiet : (o : Option Saying) → Watches plan history (with_saying history o) x x
  spoken_quiet None = watches_same plan history x
  spoken_quiet (Some said) = quiet_kept (events.Forge said.from said.to (spelling said.message)) (λ w. (refl, refl))

  pub lost_quiet : Watches plan history (next_lost plan history) x x
  unfolding next_lost
  lost_quiet = by_first (next_to_lose plan history)
    where
      by_first : (o : Option ℕ)
          → Watches plan history (option_map_or (λ i. with_event history (events.Lose i)) o history) x x
      by_first None = watches_same plan history x
      by_first (Some i) = quiet_kept (events.Lose i) (λ w. (refl, refl))

-- Events at which a peer takes a step.

-- in no events nothing is asked
pub asked_first : (plan : Plan) {history : List Event} → history ≡ [] → [] ≡ questions plan history
unfolding questions
asked_first plan none = ap (questions plan) (sym none)

-- while there is room for an event, the judge hears one question more
pub can_ask : {J : Type 0} (heard : J → List Question) (j : J) (plan : Plan) (history : List Event)
    → heard j ≡ questions plan history → length history < MOST_EVENTS → length (heard j) < MOST_EVENTS
can_ask heard j plan history is room = let same = ap length is in omega (arith, same, few_questions plan history, room)

module _ {D J B : Type 0} (f : Face D) (e : Ears J B) (plan : Plan) where
  pub watched_still : (s t : State D) (x : Watch J B) → events_in t ≡ events_in s
      → WatchesBy e plan (events_in s) (events_in t) x x
  watched_still s t x same =
      subst (λ h. WatchesBy e plan (events_in s) h x x) (sym same) (watches_same plan (events_in s) (seen_by e x))

  pub watched_event : (s t : State D) (v : Event) (x y z : Watch J B) → IsStateOf f plan s
      → events_in t ≡ events_in s ++ v ∷ [] → Asks (asked_by (world_in f s) v) (seen_by e x) (seen_by e y)
      → Rings (alarms_by (world_in f s) v) (seen_by e y) (seen_by e z)
      → WatchesBy e plan (events_in s) (events_in t) x z
  watched_event s t v x y z is more asks rings =
      subst (λ h. WatchesBy e plan (events_in s) h x z) (sym more)
      (watches_event plan (events_in s) v (seen_by e x) (seen_by e y) (seen_by e z)
      (subst (λ w. Asks (asked_by w v) (seen_by e x) (seen_by e y)) is.world asks)
      (subst (λ w. Rings (alarms_by w v) (seen_by e y) (seen_by e z)) is.world rings))

  pub events_noted : (s t : State D) (v : Event) (carried : Option Envelope) (notes : List Note) (sends : ℕ)
      → t.history.items ≡ s.history.items ++ entry_for v carried notes sends ∷ []
      → events_in t ≡ events_in s ++ v ∷ []
  events_noted s t v carried notes sends history =
      ap (map (λ (x : Entry). x.event)) history
      ∙ map-append (λ (x : Entry). x.event) s.history.items (entry_for v carried notes sends ∷ [])

  -- whatever a step came to while the power failed
  pub watched_ending : (s t : State D) (p : PeerStep) (calls : ℕ) (after : List Standing) (end : Ending)
      (x y z : Watch J B)
      → IsStateOf f plan s
      → PeersEnd s.tick (deed_of s.bag.items p) calls (peers_of f (hosts_of s.sites.items)) after end
      → events_in t ≡ events_in s ++ event_for p end ∷ [] → AsksOn e (world_in f s) p x y
      → Rings (filter_map (alarm_noted (actor_of (deed_of s.bag.items p)) s.tick) (notes_for end)) (seen_by e y)
      (seen_by e z)
      → WatchesBy e plan (events_in s) (events_in t) x z
  watched_ending s t p calls after (Whole done) x y z is ends more asks rings =
      let actor = actor_of (deed_of s.bag.items p) in
      watched_event s t (events.Step p) x y z is more asks
      (subst (λ (raised : List Alarm). Rings raised (seen_by e y) (seen_by e z))
      (ap (filter_map (alarm_noted actor s.tick)) ends.1 ∙ noted (world_in f s) (deed_of s.bag.items p)) rings)
  watched_ending s t p calls after (Kept notes) x y z is ends more asks rings =
      let actor = actor_of (deed_of s.bag.items p) in
      watched_event s t (events.Cut p true) x y z is more asks
      (subst (λ (raised : List Alarm). Rings raised (seen_by e y) (seen_by e z))
      (ap (filter_map (alarm_noted actor s.tick)) ends.0 ∙ noted (world_in f s) (deed_of s.bag.items p)) rings)
  watched_ending s t p calls after Lost x y z is ends more asks rings =
      watched_event s t (events.Cut p false) x y z is more asks rings
