-- What a world keeps when something that is due was given out or done.
use Rattle.std.proofs.Common.{◌≡◌, ◌<◌, ◌+◌, ◌∙◌, ap, sym, subst, refl, arith, ℕ, [], ◌∷◌, ◌++◌, length}
use Rattle.std.specs.Prelude.{Option, Some, None, Ok, Err, Vec, reverse, slice_get, is_some, true, false}
use Rattle.std.specs.declared.alloc.Global.{Global}
use Rattle.std.proofs.lemmas.List.{append-nil, length-map}
use Rattle.lks_base.specs.declared.events.Due.{Due}
use Rattle.lks_base.specs.declared.events.Event.{Event}
use Rattle.lks_base.specs.declared.events.PeerStep.{PeerStep}
use Rattle.lks_disk.specs.Face.{Face}
use Rattle.lks_law.proofs.Dues.{event_is_of, is_due}
use Rattle.lks_law.specs.Due.{dues, IsEventOf}
use Rattle.lks_law.specs.Entries.{entries}
use Rattle.lks_law.specs.Histories.{IsHistory}
use Rattle.lks_law.specs.Questions.{event_of, questions}
use Rattle.lks_watch.specs.Watching.{Ears, WatchesBy}
use Rattle.lks_watch.specs.declared.watches.Watch.{Watch}
use Rattle.lks_work.specs.declared.jobs.JobName.{JobName}
use Rattle.lks_world.proofs.DueLaws.{due_doable}
use Rattle.lks_world.proofs.Fallen.{left_still}
use Rattle.lks_world.proofs.FuseLaws.{same_fuses}
use Rattle.lks_world.proofs.Judging.{due_judged}
use Rattle.lks_world.proofs.Remembering.{event_watched, served_on}
use Rattle.lks_world.proofs.SameSites.{same_counted, same_disks, same_state}
use Rattle.lks_world.proofs.SiteLaws.{disks_left, fuses_joined}
use Rattle.lks_world.specs.Beside.{AreSameSites}
use Rattle.lks_world.specs.Doable.{IsDoable}
use Rattle.lks_world.specs.Giving.{HasTurn, TakesTurn}
use Rattle.lks_world.specs.Sites.{disks_at, id_at, AreSites, Counted}
use Rattle.lks_world.specs.States.{events_in, events_of, AreLeft, Becomes}
use Rattle.lks_world.specs.Watched.{StopsBy}
use Rattle.lks_world.specs.Worlds.{HasHalted, HaveServed, IsKept, halting_fault, seen_in}
use Rattle.lks_world.specs.declared.faults.WorldFault.{WorldFault}
use Rattle.lks_world.specs.declared.faults.WorldFault.TheVariants.{Memory}
use Rattle.lks_world.specs.declared.sites.Site.{Site}
use Rattle.lks_world.specs.Held.{MayBegin}
use Rattle.lks_world.specs.declared.states.State.{State}
use Rattle.lks_world.specs.declared.worlds.World.TheInside.{Inside}

pub none_there : (o : Option WorldFault) → is_some o ≡ false → o ≡ None
none_there None is = refl
none_there (Some fault) is = absurd cc

-- a fault that stopped a world before stays
pub halted_still : (o : Option WorldFault) → is_some o ≡ true → o ≡ halting_fault o
halted_still None is = absurd cc
halted_still (Some fault) is = refl

module _ {D J B : Type 0} (f : Face D) (e : Ears J B) (a : Inside D J B) (kept : IsKept f e a)
    (runs : a.stopped ≡ None) where
  -- what a fault leaves in a step that was begun, or in none
  pub halts_at : (t : State D) (w : Watch J B) (next : Option PeerStep) → MayBegin a.plan (events_in t) next
      → StopsBy e a.plan (events_in a.state) (events_in t) next a.watch w → AreLeft f a.plan next t
      → AreSites a.plan.peers t.sites.items
      → HasHalted f e a.plan a.first_limits.numbers (events_in t) (disks_at t.sites.items ++ reverse a.rest.items)
      w.judge w.desk
  halts_at t w next may stops left sites = record {
    next = next;
    may = may;
    heard = stops.heard (kept.watched runs).heard;
    rung = stops.bells a.first_limits.numbers (kept.watched runs).rung;
    left = disks_left f a.plan next t (reverse a.rest.items) left sites;
  }

  -- what one leaves before anything was begun
  pub halts_here : HasHalted f e a.plan a.first_limits.numbers (events_in a.state)
      (disks_at a.state.sites.items ++ reverse a.rest.items) a.watch.judge a.watch.desk
  halts_here = record {
    next = None;
    may = tt;
    heard = (kept.watched runs).heard ∙ sym (append-nil (questions a.plan (events_in a.state)));
    rung = (kept.watched runs).rung;
    left =
        disks_left f a.plan None a.state (reverse a.rest.items)
        (left_still f a.plan a.state a.state (kept.state runs) refl None refl) kept.sites;
  }

module _ {D J B : Type 0} (f : Face D) (e : Ears J B) (a : Inside D J B) (kept : IsKept f e a)
    (runs : a.stopped ≡ None) where
  pub due_here : (k : ℕ) (d : Due) → slice_get (dues a.plan (events_in a.state)) k ≡ Some d
      → IsDoable f e.heard a.plan a.state a.watch d
  due_here k d at = due_doable f e.heard a.plan a.state a.watch k d (kept.state runs) (kept.watched runs).heard at

  abbrev the_event : Due → Event
  the_event d = event_of (e.verdict a.watch.judge) a.plan (events_in a.state) d

  -- after a turn
  pub kept_turned : (k : ℕ) (d : Due) → slice_get (dues a.plan (events_in a.state)) k ≡ Some d
      → a.turns < a.plan.turns → (t : State D) (w : Watch J B)
      → Becomes f a.plan (events_in a.state ++ the_event d ∷ []) t
      → WatchesBy e a.plan (events_in a.state) (events_in t) a.watch w
      → Counted {T = Unit {0}} f a.state.sites.items t.sites.items (Ok tt)
      → IsKept f e (record a { state = t; watch = w; turns = a.turns + 1 })
  kept_turned k d at left t w becomes watches counted =
      let before = a.state.sites.items in
      let after = t.sites.items in
      let can = due_here k d at in
      record {
        good = kept.good;
        happened = becomes.state.happened;
        used = omega (arith, left);
        entries = becomes.state.entries;
        state = λ running. becomes.state;
        watched = λ running.
            event_watched e a.plan a.first_limits.numbers (events_in a.state) (events_in t) (the_event d) a.watch w
            (kept.watched runs) becomes.events
            (due_judged (e.verdict a.watch.judge) a.plan (events_in a.state) d (can.may (e.verdict a.watch.judge))
            can.asks) watches;
        halted = λ fault is. absurd cc;
        sites = counted.ids ∙ kept.sites;
        unfused =
            same_fuses f (disks_at before ++ reverse a.rest.items) (disks_at after ++ reverse a.rest.items)
            (fuses_joined f (disks_at before) (disks_at after) (reverse a.rest.items) counted.fuses) kept.unfused;
        room = omega (arith, kept.room, ap length counted.ids, length-map before id_at, length-map after id_at);
        served =
            subst
            (λ fault. HaveServed f a.plan.peers a.first_faults.numbers (disks_at after ++ reverse a.rest.items)
            fault) (sym runs)
            (served_on f a.plan.peers a.first_faults.numbers (disks_at before ++ reverse a.rest.items)
            (disks_at after ++ reverse a.rest.items) None
            (subst
            (λ fault. HaveServed f a.plan.peers a.first_faults.numbers
            (disks_at before ++ reverse a.rest.items) fault) runs kept.served)
            (counted.serves a.plan.peers (reverse a.rest.items) kept.sites));
      }

  -- after a fault that left the history
  pub kept_faulted : (t : State D) (w : Watch J B) (fault : WorldFault) → t.history.items ≡ a.state.history.items
      → Counted {T = Unit {0}} f a.state.sites.items t.sites.items (Err fault)
      → HasHalted f e a.plan a.first_limits.numbers (events_in t) (disks_at t.sites.items ++ reverse a.rest.items)
      w.judge w.desk
      → (out : Vec JobName Global) → IsKept f e (record a { state = t; watch = w; stopped = Some fault; out = out })
  kept_faulted t w fault history counted halted out =
      let before = a.state.sites.items in
      let after = t.sites.items in
      let same : events_in t ≡ events_in a.state = ap events_of history in
      record {
        good = kept.good;
        happened = subst (IsHistory a.plan) (sym same) kept.happened;
        used = kept.used;
        entries = history ∙ kept.entries ∙ ap (entries a.plan) (sym same);
        state = λ running. absurd cc;
        watched = λ running. absurd cc;
        halted = λ fault is. halted;
        sites = counted.ids ∙ kept.sites;
        unfused =
            same_fuses f (disks_at before ++ reverse a.rest.items) (disks_at after ++ reverse a.rest.items)
            (fuses_joined f (disks_at before) (disks_at after) (reverse a.rest.items) counted.fuses) kept.unfused;
        room = omega (arith, kept.room, ap length counted.ids, length-map before id_at, length-map after id_at);
        served =
            served_on f a.plan.peers a.first_faults.numbers (disks_at before ++ reverse a.rest.items)
            (disks_at after ++ reverse a.rest.items) (Some fault)
            (subst
            (λ fault. HaveServed f a.plan.peers a.first_faults.numbers
            (disks_at before ++ reverse a.rest.items) fault) runs kept.served)
            (counted.serves a.plan.peers (reverse a.rest.items) kept.sites);
      }

  -- beside jobs that were made: nothing but what was told of places, and which jobs are out

  pub kept_still : (xs : Vec (Site D) Global) (out : Vec JobName Global) → AreSameSites a.state.sites.items xs.items
      → IsKept f e (record a { state = record a.state { sites = xs }; out = out })
  kept_still xs out same =
      let counted = same_counted f a.state.sites.items xs.items (Ok (tt {0})) (λ id is. absurd cc) same in
      let before = a.state.sites.items in
      let after = xs.items in
      record {
        good = kept.good;
        happened = kept.happened;
        used = kept.used;
        entries = kept.entries;
        state = λ running. same_state f a.plan a.state (record a.state { sites = xs }) same refl (kept.state running);
        watched = kept.watched;
        halted = λ fault is. absurd cc;
        sites = counted.ids ∙ kept.sites;
        unfused =
            same_fuses f (disks_at before ++ reverse a.rest.items) (disks_at after ++ reverse a.rest.items)
            (fuses_joined f (disks_at before) (disks_at after) (reverse a.rest.items) counted.fuses) kept.unfused;
        room = omega (arith, kept.room, ap length counted.ids, length-map before id_at, length-map after id_at);
        served =
            subst (λ ds. HaveServed f a.plan.peers a.first_faults.numbers (ds ++ reverse a.rest.items) a.stopped)
            (sym (same_disks before after same)) kept.served;
      }

  pub seen_still : (xs : Vec (Site D) Global) (out : Vec JobName Global) → AreSameSites a.state.sites.items xs.items
      → seen_in (record a { state = record a.state { sites = xs }; out = out })
      ≡ record (seen_in a) { out = out.items }
  seen_still xs out same =
      ap (λ ds. record (seen_in a) { out = out.items; disks = ds ++ reverse a.rest.items })
      (same_disks a.state.sites.items xs.items same)

  pub kept_refused : (xs : Vec (Site D) Global) (out : Vec JobName Global)
      → AreSameSites a.state.sites.items xs.items
      → IsKept f e (record a { state = record a.state { sites = xs }; stopped = Some Memory; out = out })
  kept_refused xs out same =
      kept_faulted (record a.state { sites = xs }) a.watch Memory refl
      (same_counted f a.state.sites.items xs.items (Err Memory) (λ id is. absurd cc) same)
      (halts_here f e (record a { state = record a.state { sites = xs }; out = out }) (kept_still xs out same) runs) out

  -- one event more, for a turn
  pub turn_taken : (k : ℕ) (d : Due) → slice_get (dues a.plan (events_in a.state)) k ≡ Some d → HasTurn (seen_in a)
      → (t : State D) (w : Watch J B) → Becomes f a.plan (events_in a.state ++ the_event d ∷ []) t
      → TakesTurn (IsEventOf d) (seen_in a) (seen_in (record a { state = t; watch = w; turns = a.turns + 1 }))
  turn_taken k d at turn t w becomes = record {
    event = the_event d;
    is = event_is_of a.plan (events_in a.state) (e.verdict a.watch.judge) d;
    more = becomes.events;
    due = is_due a.plan (events_in a.state) (e.verdict a.watch.judge) k d at;
    left = turn;
    used = refl;
  }
