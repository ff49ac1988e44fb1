-- What a judge and bells heard at a fault.
use Rattle.std.proofs.Common.{◌≡◌, ◌⊎◌, ◌∙◌, inl, inr, ap, sym, subst, List, [], ◌∷◌, ◌++◌, append_assoc}
use Rattle.std.specs.Prelude.{Option, Some, None, Result, Ok, Err, OnErr}
use Rattle.std.specs.Option.{option_to_list}
use Rattle.std.proofs.lemmas.List.{append-nil}
use Rattle.lks_base.specs.declared.events.Event.{Event}
use Rattle.lks_base.specs.declared.events.PeerStep.{PeerStep}
use Rattle.lks_base.specs.declared.plans.Plan.{Plan}
use Rattle.lks_disk.specs.Face.{Face}
use Rattle.lks_law.specs.Questions.{question_on, questions}
use Rattle.lks_watch.proofs.Going.{watches_same}
use Rattle.lks_watch.specs.Watching.{AsksOn, Ears, Watches, WatchesBy, Watching, seen_by}
use Rattle.lks_watch.specs.declared.watches.Watch.{Watch}
use Rattle.lks_world.proofs.Fallen.{left_still}
use Rattle.lks_world.specs.Follows.{IsUpTo, first_step}
use Rattle.lks_world.specs.States.{AreLeft, events_in, world_in, IsStateOf}
use Rattle.lks_world.specs.Stopping.{HasStopped}
use Rattle.lks_world.specs.Watched.{Stops, StopsBy}
use Rattle.lks_law.specs.Histories.{MayStep}
use Rattle.lks_law.specs.World.{world}
use Rattle.lks_world.specs.declared.states.State.{State}

pub err_then : {T F : Type 0} {P : Type 0} (r : Result T F) → P → OnErr r P
err_then (Ok x) p = tt
err_then (Err e) p = p

pub err_three : {T F : Type 0} {P Q R S : Type 0} (r : Result T F) → (P → Q → R → S) → OnErr r P → OnErr r Q
    → OnErr r R → OnErr r S
err_three (Ok x) f p q s = tt
err_three (Err e) f p q s = f p q s

pub err_map : {T F : Type 0} {P Q : Type 0} (r : Result T F) → (P → Q) → OnErr r P → OnErr r Q
err_map (Ok x) f p = tt
err_map (Err e) f p = f p

module _ (plan : Plan) where
  -- nothing more was asked
  pub stops_there : (before after : List Event) (w x : Watching) → Watches plan before after w x
      → Stops plan before after None w x
  stops_there before after w x is =
      record {
        heard = λ heard. is.heard heard ∙ sym (append-nil (questions plan after));
        verdict = is.verdict;
        bells = is.bells;
      }

  pub stops_then : (before mid after : List Event) (next : Option PeerStep) (w x y : Watching)
      → Watches plan before mid w x → Stops plan mid after next x y → Stops plan before after next w y
  stops_then before mid after next w x y first then = record {
    heard = λ is. then.heard (first.heard is);
    verdict = then.verdict ∙ first.verdict;
    bells = λ limits is. then.bells limits (first.bells limits is);
  }

  -- a history that stays, whose bells stay silent
  pub stops_still : (before after : List Event) (w : Watching) → after ≡ before → Stops plan before after None w w
  unfolding stops_there
  stops_still before after w same =
      subst (λ h. Stops plan before h None w w) (sym same)
      (stops_there before before w w (watches_same plan before w))

still_begun : (rest more : List Event) (next : Option PeerStep) → next ≡ first_step rest
    → (next ≡ None) ⊎ (next ≡ first_step (rest ++ more))
still_begun [] more next is = inl is
still_begun (e ∷ es) more next is = inr is

up_to_more : (P Q : List Event → Type 0) (history : List Event) (next : Option PeerStep)
    → ((whole : List Event) → P whole → (more : List Event) × Q (whole ++ more)) → IsUpTo P history next
    → IsUpTo Q history next
up_to_more P Q history next on up =
    let more = on up.whole up.is in
    record {
      whole = up.whole ++ more.0;
      is = more.1;
      rest = up.rest ++ more.0;
      front = ap (λ es. es ++ more.0) up.front ∙ append_assoc history up.rest more.0;
      begun = elim up.begun [ inl none ↦ inl none | inr is ↦ still_begun up.rest more.0 next is ];
    }

module _ {D J B : Type 0} (f : Face D) (e : Ears J B) (plan : Plan) where
  -- a step was begun that is no event
  pub stops_in : (s : State D) (after : List Event) (p : PeerStep) (x y z : Watch J B) → IsStateOf f plan s
      → after ≡ events_in s → AsksOn e (world_in f s) p x y → z ≡ y
      → StopsBy e plan (events_in s) after (Some p) x z
  stops_in s after p x y z is same asks stays =
      subst (λ h. StopsBy e plan (events_in s) h (Some p) x z) (sym same)
      (subst (StopsBy e plan (events_in s) (events_in s) (Some p) x) (sym stays)
      (record {
        heard = λ heard. asks.heard ∙ (λ i. heard i ++ option_to_list (question_on (is.world i) p));
        verdict = asks.verdict;
        bells = λ limits rung. asks.bells ∙ rung;
      }))

  -- nothing was
  pub stops_quiet : (s : State D) (after : List Event) (x z : Watch J B) → after ≡ events_in s → z ≡ x
      → StopsBy e plan (events_in s) after None x z
  stops_quiet s after x z same stays =
      subst (StopsBy e plan (events_in s) after None x) (sym stays)
      (stops_still plan (events_in s) after (seen_by e x) same)

  -- before anything was begun, and no disk was called
  pub stopped_still : (P : List Event → Type 0) (s t : State D) (x z : Watch J B) → IsStateOf f plan s
      → IsUpTo P (events_in s) None → t.sites.items ≡ s.sites.items → events_in t ≡ events_in s → z ≡ x
      → HasStopped f e plan P (events_in s) x t z
  stopped_still P s t x z is up_to sites same stays = record {
    next = None;
    up_to = subst (λ h. IsUpTo P h None) (sym same) up_to;
    may = tt;
    stops = stops_quiet s (events_in t) x z same stays;
    left = left_still f plan s t is same None sites;
  }

  -- in a step that was begun
  pub stopped_in : (P : List Event → Type 0) (before : List Event) (s t : State D) (p : PeerStep) (x z : Watch J B)
      → IsUpTo P (events_in s) (Some p) → MayStep plan (world plan (events_in s)) p → events_in t ≡ events_in s
      → StopsBy e plan before (events_in t) (Some p) x z → AreLeft f plan (Some p) t
      → HasStopped f e plan P before x t z
  stopped_in P before s t p x z up_to may same stops left = record {
    next = Some p;
    up_to = subst (λ h. IsUpTo P h (Some p)) (sym same) up_to;
    may = subst (λ (h : List Event). MayStep plan (world plan h) p) (sym same) may;
    stops = stops;
    left = left;
  }

  -- on the way to a history, and so to one that goes on from it
  pub stopped_on : (P Q : List Event → Type 0) (before : List Event) (t : State D) (x z : Watch J B)
      → ((whole : List Event) → P whole → (more : List Event) × Q (whole ++ more))
      → HasStopped f e plan P before x t z → HasStopped f e plan Q before x t z
  stopped_on P Q before t x z on stopped =
      record {
        next = stopped.next;
        up_to = up_to_more P Q (events_in t) stopped.next on stopped.up_to;
        may = stopped.may;
        stops = stopped.stops;
        left = stopped.left;
      }

  -- after what was done before
  pub stopped_then : (P : List Event → Type 0) (before mid : List Event) (t : State D) (x y z : Watch J B)
      → WatchesBy e plan before mid x y → HasStopped f e plan P mid y t z → HasStopped f e plan P before x t z
  stopped_then P before mid t x y z watched stopped = record {
    next = stopped.next;
    up_to = stopped.up_to;
    may = stopped.may;
    stops =
        stops_then plan before mid (events_in t) stopped.next (seen_by e x) (seen_by e y) (seen_by e z) watched
        stopped.stops;
    left = stopped.left;
  }
