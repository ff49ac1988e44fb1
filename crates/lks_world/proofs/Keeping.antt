-- How a history grows, up to its limit.
use Rattle.std.proofs.Common.{◌≡◌, ◌+◌, ◌-◌, ◌≤◌, ◌<◌, ◌∙◌, ap, sym, subst, ℕ, suc, Bool, true, false, cond, List, []}
use Rattle.std.proofs.Common.{◌∷◌, ◌++◌, length, refl, arith, append_assoc}
use Rattle.std.specs.Prelude.{Option, Some, None, map, filter, option_map, slice_get, min, nat_lt}
use Rattle.std.specs.Option.{option_map_or}
use Rattle.std.proofs.lemmas.Bool.{lt-ltb, le-ltb}
use Rattle.std.proofs.lemmas.List.{append-nil, length-map}
use Rattle.std.proofs.lemmas.Option.{slice_get-map}
use Rattle.lks_disk.specs.Face.{Face}
use Rattle.lks_base.specs.declared.entries.Entry.{Entry}
use Rattle.lks_base.specs.Checking.{plan_fault}
use Rattle.lks_base.specs.declared.events.Event.{Event}
use Rattle.lks_base.specs.declared.events.PeerStep.{PeerStep}
use Rattle.lks_base.specs.declared.limits.TheConstants.{MOST_EVENTS, MOST_TICKS}
use Rattle.lks_base.specs.declared.plans.Plan.{Plan}
use Rattle.lks_host.specs.Hosted.{StandsFor}
use Rattle.lks_host.specs.Journals.{journal_on}
use Rattle.lks_host.specs.declared.hosts.Host.{Host}
use Rattle.lks_law.specs.Batches.{alone, batches_at}
use Rattle.lks_law.specs.Due.{is_pending, pending as waiting}
use Rattle.lks_law.specs.Entries.{entries}
use Rattle.lks_law.proofs.Happening.{no_events}
use Rattle.lks_law.proofs.Writing.{written_in}
use Rattle.lks_law.specs.Histories.{IsHistory}
use Rattle.lks_law.specs.World.{Standing, World, world, deed_of, effect_of, start, standing_of, is_honest}
use Rattle.lks_world.proofs.HostLaws.{journal_there}
use Rattle.lks_world.proofs.Sends.{few_envelopes, few_sent, most_sent}
use Rattle.lks_world.specs.Begun.{HaveBegun}
use Rattle.lks_world.specs.Hosts.{peer_in, peers_of, AreReady, IsHostAt}
use Rattle.lks_world.specs.Follows.{done_within, done}
use Rattle.lks_world.specs.Kept.{with_event}
use Rattle.lks_world.specs.declared.states.State.{State}
use Rattle.lks_world.specs.Sites.{hosts_of}
use Rattle.lks_world.specs.States.{events_of, events_in, sends_in, world_in, IsStateOf, Becomes, Extends}

pub kept_room : (history : List Event) (e : Event) → length history < MOST_EVENTS
    → with_event history e ≡ history ++ e ∷ []
kept_room history e room = rw (lt-ltb (length history) MOST_EVENTS room) refl

pub kept_full : (history : List Event) (e : Event) → MOST_EVENTS ≤ length history → with_event history e ≡ history
kept_full history e full = rw (le-ltb (length history) MOST_EVENTS full) refl

begun_world : (plan : Plan) (peers : List Standing) → peers ≡ map (standing_of plan) (filter is_honest plan.peers)
    → record { peers = peers; bag = []; tick = 0 } ≡ world plan []
unfolding world start
begun_world plan peers e = ap (λ (ps : List Standing). record { peers = ps; bag = []; tick = 0 }) e

begun_entries : (plan : Plan) → [] ≡ entries plan []
unfolding entries
begun_entries plan = refl

begun_pending : (plan : Plan) → [] ≡ waiting plan []
unfolding waiting world start
begun_pending plan = refl

pub extends_then : (plan : Plan) (a b c : List Entry) → Extends plan a b → Extends plan b c → Extends plan a c
extends_then plan a b c first next = record {
  more = first.more ++ next.more;
  events =
      next.events ∙ ap (λ (es : List Event). es ++ next.more) first.events
      ∙ append_assoc (events_of a) first.more next.more;
  happened = next.happened;
  entries = next.entries;
}

module _ {D : Type 0} (f : Face D) where
  pub count_events : (s : State D) → length (events_in s) ≡ length s.history.items
  count_events s = length-map s.history.items (λ (e : Entry). e.event)

  pub room_kept : (plan : Plan) (s t : State D) (e : Event) → 0 < MOST_EVENTS - length s.history.items
      → Becomes f plan (events_in s ++ e ∷ []) t → Becomes f plan (with_event (events_in s) e) t
  room_kept plan s t e room b =
      record {
        state = b.state;
        events = b.events ∙ sym (kept_room (events_in s) e (omega (arith, room, count_events s)));
      }

  pub full_kept : (plan : Plan) (s : State D) (e : Event) → MOST_EVENTS - length s.history.items ≤ 0
      → IsStateOf f plan s → Becomes f plan (with_event (events_in s) e) s
  full_kept plan s e full is =
      record { state = is; events = sym (kept_full (events_in s) e (omega (arith, full, count_events s))) }

  pub room_left : (s : State D) → 0 < MOST_EVENTS - length s.history.items → length (events_in s) < MOST_EVENTS
  room_left s room = omega (arith, room, count_events s)

  -- A history goes on, whatever became of a call.

  pub extends_same : (plan : Plan) (s : State D) (history : List Entry) → IsStateOf f plan s
      → history ≡ s.history.items → Extends plan s.history.items history
  extends_same plan s history is same =
      subst (Extends plan s.history.items) (sym same)
      (record { more = []; events = sym (append-nil (events_in s)); happened = is.happened; entries = is.entries })

  pub extends_kept : (plan : Plan) (s t : State D) (e : Event) → Becomes f plan (with_event (events_in s) e) t
      → Extends plan s.history.items t.history.items
  extends_kept plan s t e b =
      record {
        more = last (nat_lt (length (events_in s)) MOST_EVENTS);
        events = b.events ∙ behind (nat_lt (length (events_in s)) MOST_EVENTS);
        happened = b.state.happened;
        entries = b.state.entries;
      }
    where
      last : Bool → List Event
      last true = e ∷ []
      last false = []

      behind : (b : Bool) → cond b (events_in s ++ e ∷ []) (events_in s) ≡ events_in s ++ last b
      behind true = refl
      behind false = sym (append-nil (events_in s))

  pub extends_by : (plan : Plan) (s t : State D) (more : List Event) → IsStateOf f plan t
      → events_in t ≡ events_in s ++ more → Extends plan s.history.items t.history.items
  extends_by plan s t more is events =
      record { more = more; events = events; happened = is.happened; entries = is.entries }

  -- the state with which a world begins
  pub begun : (plan : Plan) (s : State D) → plan_fault plan ≡ None
      → peers_of f (hosts_of s.sites.items) ≡ map (standing_of plan) (filter is_honest plan.peers)
      → s.bag.items ≡ [] → s.pending.items ≡ [] → s.history.items ≡ [] → s.tick ≡ 0
      → ((place : ℕ) (h : Host D) → slice_get (hosts_of s.sites.items) place ≡ Some h
      → IsHostAt f s.pool.now (batches_at place plan []) 0 h)
      → IsStateOf f plan s
  begun plan s good peers bag pending history tick hosts =
      let events : events_in s ≡ [] = ap (map (λ (e : Entry). e.event)) history in
      record {
        good = good;
        happened = subst (IsHistory plan) (sym events) (no_events plan);
        world =
            (λ i. record { peers = peers_of f (hosts_of s.sites.items); bag = bag i; tick = tick i })
            ∙ begun_world plan (peers_of f (hosts_of s.sites.items)) peers ∙ ap (world plan) (sym events);
        entries = history ∙ begun_entries plan ∙ ap (entries plan) (sym events);
        pending = pending ∙ begun_pending plan ∙ ap (waiting plan) (sym events);
        clock = omega (arith, tick);
        fresh = λ i le. ap (λ h. is_pending h i) events;
        hosts = λ place h at.
            subst (λ (n : ℕ). IsHostAt f s.pool.now (batches_at place plan (events_in s)) n h) (sym (ap length history))
            (subst (λ es. IsHostAt f s.pool.now (batches_at place plan es) 0 h) (sym events) (hosts place h at));
      }

  begun_journal : (plan : Plan) (hosts : List (Host D)) (place : ℕ) (h : Host D)
      → peers_of f hosts ≡ map (standing_of plan) (filter is_honest plan.peers) → slice_get hosts place ≡ Some h
      → batches_at place plan [] ≡ map alone (journal_on f h.journal.disk)
  unfolding batches_at start
  begun_journal plan hosts place h peers at = ap (map alone) (journal_there f (start plan) hosts place h peers at)

  -- a world begins with the batches of its deposits
  pub begun_host : (pool : List ℕ) (plan : Plan) (hosts : List (Host D))
      → peers_of f hosts ≡ map (standing_of plan) (filter is_honest plan.peers) → HaveBegun f pool hosts
      → (place : ℕ) (h : Host D) → slice_get hosts place ≡ Some h → IsHostAt f pool (batches_at place plan []) 0 h
  begun_host pool plan hosts peers begun place h at =
      let begins = begun place h at in
      record {
        stands = subst (StandsFor f h) (sym (begun_journal plan hosts place h peers at)) begins.stands;
        pooled = begins.pooled;
        whole = begins.whole;
        room = omega (arith, begins.room);
        unfused = begins.unfused;
      }

  -- the peer of a host stands in the world
  pub peer_there : (plan : Plan) (s : State D) → IsStateOf f plan s → (place : ℕ) (h : Host D)
      → slice_get (hosts_of s.sites.items) place ≡ Some h
      → slice_get (world plan (events_in s)).peers place ≡ Some (peer_in f h)
  peer_there plan s is place h at =
      ap (λ (w : World). slice_get w.peers place) (sym is.world)
      ∙ slice_get-map (peer_in f) (hosts_of s.sites.items) place ∙ ap (option_map (peer_in f)) at

  -- while there is room for an event, each host can take a step, and the clock can move on
  pub can_step : (plan : Plan) (s : State D) → IsStateOf f plan s → 0 < MOST_EVENTS - length s.history.items
      → AreReady f s.pool.now (hosts_of s.sites.items)
  can_step plan s is room place h at =
      let host = is.hosts place h at in
      let most : MOST_EVENTS ≡ 4096 = refl in
      record {
        whole = host.whole;
        room = omega (arith, host.room, room, most);
        unfused = host.unfused;
        pooled = host.pooled;
        batches = batches_at place plan (events_in s);
        stands = host.stands;
        written = written_in plan (events_in s) place (peer_in f h) (peer_there plan s is place h at);
      }

  pub can_tick : (plan : Plan) (s : State D) (by : ℕ) → IsStateOf f plan s
      → 0 < MOST_EVENTS - length s.history.items → by ≤ MOST_TICKS → s.tick + by ≤ 4294967295
  can_tick plan s by is room few =
      let events : MOST_EVENTS ≡ 4096 = refl in
      let ticks : MOST_TICKS ≡ 1000000 = refl in
      omega (arith, is.clock, room, few, events, ticks)

  -- and each message of a step can be numbered in 32 bits, as one more can
  pub envelopes_left : (plan : Plan) (s : State D) (p : PeerStep) → IsStateOf f plan s
      → 0 < MOST_EVENTS - length s.history.items
      → length s.bag.items + sends_in (world_in f s) p ≤ 4294967295
  unfolding sends_in
  envelopes_left plan s p is room =
      let events : MOST_EVENTS ≡ 4096 = refl in
      let bag : length s.bag.items
      ≡ length (world plan (events_in s)).bag = ap (λ (w : World). length w.bag) is.world in
      let sends = subst (λ (w : World). length (effect_of w.tick w.peers (deed_of w.bag p)).sends ≤ most_sent)
      (sym is.world)
      (few_sent plan (events_in s) is.good is.happened (deed_of (world plan (events_in s)).bag p)) in
      omega (arith, bag, few_envelopes plan (events_in s) is.good is.happened, sends, room, count_events s, events)

  pub envelope_left : (plan : Plan) (s : State D) → IsStateOf f plan s → length s.bag.items < 4294967295
  envelope_left plan s is =
      let events : MOST_EVENTS ≡ 4096 = refl in
      let bag : length s.bag.items
      ≡ length (world plan (events_in s)).bag = ap (λ (w : World). length w.bag) is.world in
      omega (arith, bag, few_envelopes plan (events_in s) is.good is.happened, is.happened.few, events)

  -- Going on by a rule: what is left to do from this state is what was to be done from the first.
  pub record Goes (next : Plan → List Event → Option Event) (times : ℕ) (plan : Plan) (first now : State D)
      (left : ℕ) : Type 0 where
    pub state : IsStateOf f plan now
    pub rest : done_within next left plan (events_in now) ≡ done next times plan (events_in first)

  module _ (next : Plan → List Event → Option Event) (times : ℕ) (plan : Plan) where
    pub goes_first : (s : State D) (left : ℕ) → IsStateOf f plan s
        → left ≡ min times (MOST_EVENTS - length s.history.items) → Goes next times plan s s left
    unfolding done
    goes_first s left is e =
        record {
          state = is;
          rest = ap (λ n. done_within next n plan (events_in s))
              (e ∙ ap (λ n. min times (MOST_EVENTS - n)) (sym (count_events s)));
        }

    pub goes_on : (first s t : State D) (left m : ℕ) (e : Event) → Goes next times plan first s left → left ≡ suc m
        → Some e ≡ next plan (events_in s) → Becomes f plan (events_in s ++ e ∷ []) t
        → Goes next times plan first t m
    goes_on first s t left m e so_far more is b =
        record {
          state = b.state;
          rest =
              ap (done_within next m plan) b.events
              ∙ ap (λ o. option_map_or (λ d. done_within next m plan (events_in s ++ d ∷ [])) o (events_in s)) is
              ∙ ap (λ n. done_within next n plan (events_in s)) (sym more)
              ∙ so_far.rest;
        }

    pub goes_none : (first s : State D) (left m : ℕ) → Goes next times plan first s left → left ≡ suc m
        → None ≡ next plan (events_in s) → Becomes f plan (done next times plan (events_in first)) s
    goes_none first s left m so_far more is =
        record {
          state = so_far.state;
          events =
              ap (λ o. option_map_or (λ d. done_within next m plan (events_in s ++ d ∷ [])) o (events_in s)) is
              ∙ ap (λ n. done_within next n plan (events_in s)) (sym more) ∙ so_far.rest;
        }

    pub goes_end : (first s : State D) (left : ℕ) → Goes next times plan first s left → left ≡ 0
        → Becomes f plan (done next times plan (events_in first)) s
    goes_end first s left so_far e =
        record { state = so_far.state; events = ap (λ n. done_within next n plan (events_in s)) (sym e) ∙ so_far.rest }
