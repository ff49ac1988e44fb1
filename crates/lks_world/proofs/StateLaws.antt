-- The state is that of the kept events after each event.
use Rattle.std.proofs.Common.{◌≡◌, ◌+◌, ◌≤◌, ◌<◌, ◌==◌, ◌∙◌, ap, sym, subst, ℕ, Bool, true, false, List, [], ◌∷◌}
use Rattle.std.proofs.Common.{◌++◌, length, drop, refl, arith, length-append}
use Rattle.std.specs.Prelude.{Some, slice_get, not, filter, map}
use Rattle.lks_world.proofs.HostLaws.{stayed, journal_there}
use Rattle.lks_world.specs.Hosts.{HaveGoneOn, IsHostAt}
use Rattle.std.specs.List.{range_with_len}
use Rattle.std.proofs.lemmas.Bool.Decides.{nat_tests}
use Rattle.std.proofs.lemmas.List.{length-map, map-append, append-nil}
use Rattle.lks_disk.specs.Face.{Face}
use Rattle.lks_base.specs.declared.entries.Entry.{Entry}
use Rattle.lks_base.specs.declared.events.Event.{Event}
use Rattle.lks_base.specs.declared.events.Event.TheVariants.{Step, Cut, Tick, Lose, Forge, Crash}
use Rattle.lks_base.specs.declared.events.PeerStep.{PeerStep}
use Rattle.lks_base.specs.declared.events.PeerStep.TheVariants.{Deliver}
use Rattle.lks_base.specs.declared.limits.TheConstants.{MOST_EVENTS, MOST_TICKS}
use Rattle.lks_base.specs.declared.plans.Plan.{Plan}
use Rattle.lks_host.specs.Hosted.{StandsFor}
use Rattle.lks_host.specs.Journals.{journal_on}
use Rattle.lks_host.specs.declared.hosts.Host.{Host}
use Rattle.lks_law.proofs.Batches.{batches_more}
use Rattle.lks_law.proofs.Histories.{world_more, entries_more, entry_event, pending_more, fresh_more, pass_true}
use Rattle.lks_law.specs.Batches.{with_batch, journal_at, batches_at}
use Rattle.lks_law.specs.Due.{takes_out, is_pending, pending}
use Rattle.lks_law.specs.Entries.{entry_of, entries}
use Rattle.lks_law.proofs.Happening.{history_more}
use Rattle.lks_law.specs.Histories.{IsHistory, IsHonest, MayStep, MayForge, MayHappen}
use Rattle.lks_law.specs.World.{World, world, happens, after_step, letters_sent, effect_of, deed_of, sent_by, actor_of}
use Rattle.lks_world.specs.declared.sites.Site.{Site}
use Rattle.lks_world.specs.declared.states.State.{State}
use Rattle.lks_world.specs.Sites.{hosts_of}
use Rattle.lks_world.specs.States.{left_after, world_in, sends_in, events_in, IsStateOf, Becomes}

left_by : (p : PeerStep) (waiting : List ℕ) → left_after p waiting ≡ filter (λ i. not (takes_out i (Step p))) waiting
left_by (Deliver envelope judged) waiting = refl
left_by p waiting = sym (pass_true waiting)

not_same : (i e n : ℕ) → e < n → n ≤ i → (i == e) ≡ false
not_same i e n lt le = grind (arith, nat_tests)

untouched_by : (plan : Plan) (w : World) (p : PeerStep) → MayStep plan w p → (i : ℕ) → length w.bag ≤ i
    → takes_out i (Step p) ≡ false
untouched_by plan w (Deliver envelope judged) may i le = not_same i envelope (length w.bag) may.0 le
untouched_by plan w p may i le = refl

grown_by : (w : World) (p : PeerStep) → length (happens w (Step p)).bag ≡ length w.bag + sends_in w p
unfolding happens after_step sends_in
grown_by w p =
    length-append w.bag (letters_sent w.tick w.peers (deed_of w.bag p))
    ∙ ap (λ n. length w.bag + n)
    (length-map (effect_of w.tick w.peers (deed_of w.bag p)).sends (sent_by (actor_of (deed_of w.bag p))))

grown_by_one : (w : World) (from to : ℕ) (bytes : List ℕ)
    → length (happens w (Forge from to bytes)).bag ≡ length w.bag + 1
unfolding happens
grown_by_one w from to bytes = length-append w.bag (record { from = from; to = to; bytes = bytes } ∷ [])

pub same_tick : (w : World) (p : PeerStep) → (happens w (Step p)).tick ≡ w.tick
unfolding happens after_step
same_tick w p = refl

pub no_tick : (w : World) (from to : ℕ) (bytes : List ℕ) → (happens w (Forge from to bytes)).tick ≡ w.tick
unfolding happens
no_tick w from to bytes = refl

pub ticked : (w : World) (by : ℕ) → (happens w (Tick by)).tick ≡ w.tick + by
unfolding happens
ticked w by = refl

same_bag : (w : World) (by : ℕ) → length (happens w (Tick by)).bag ≡ length w.bag
unfolding happens
same_bag w by = refl

pub unchanged : (w : World) (envelope : ℕ) → happens w (Lose envelope) ≡ w
unfolding happens
unchanged w envelope = refl

pub crashed : (w : World) (peer : ℕ) → happens w (Crash peer) ≡ w
unfolding happens
crashed w peer = refl

quiet_bag : (w : World) (p : PeerStep) (is_kept : Bool) → length (happens w (Cut p is_kept)).bag ≡ length w.bag
unfolding happens after_step
quiet_bag w p true = refl
quiet_bag w p false = refl

pub quiet_tick : (w : World) (p : PeerStep) (is_kept : Bool) → (happens w (Cut p is_kept)).tick ≡ w.tick
unfolding happens after_step
quiet_tick w p true = refl
quiet_tick w p false = refl

module _ {D : Type 0} (f : Face D) where
  -- an event that put k envelopes into the bag
  record Happened (s t : State D) (e : Event) (k : ℕ) : Type 0 where
    world : world_in f t ≡ happens (world_in f s) e
    history : t.history.items ≡ s.history.items ++ entry_of (world_in f s) e ∷ []
    pending : t.pending.items
        ≡ filter (λ i. not (takes_out i e)) s.pending.items ++ range_with_len (length s.bag.items) k
    grown : length t.bag.items ≡ length s.bag.items + k
    untouched : (i : ℕ) → length s.bag.items ≤ i → takes_out i e ≡ false
    clock : t.tick ≤ s.tick + MOST_TICKS
    pool : t.pool.now ≡ s.pool.now
    on : HaveGoneOn f (hosts_of s.sites.items) (hosts_of t.sites.items)

  pub more_events : (s t : State D) (e : Event)
      → t.history.items ≡ s.history.items ++ entry_of (world_in f s) e ∷ [] → events_in t ≡ events_in s ++ e ∷ []
  more_events s t e history =
      ap (map (λ (x : Entry). x.event)) history
      ∙ map-append (λ (x : Entry). x.event) s.history.items (entry_of (world_in f s) e ∷ [])
      ∙ ap (λ d. events_in s ++ d ∷ []) (entry_event (world_in f s) e)

  one_more : (s t : State D) (e : Event) → t.history.items ≡ s.history.items ++ entry_of (world_in f s) e ∷ []
      → length t.history.items ≡ length s.history.items + 1
  one_more s t e history = ap length history ∙ length-append s.history.items (entry_of (world_in f s) e ∷ [])

  host_after : (plan : Plan) (s t : State D) (e : Event) {k : ℕ} → IsStateOf f plan s → Happened s t e k
      → events_in t ≡ events_in s ++ e ∷ [] → world_in f t ≡ world plan (events_in s ++ e ∷ [])
      → (place : ℕ) (k : Host D) → slice_get (hosts_of t.sites.items) place ≡ Some k
      → IsHostAt f t.pool.now (batches_at place plan (events_in t)) (length t.history.items) k
  host_after plan s t e is happened events worlds place k at =
      let went = happened.on place k at in
      let before = is.hosts place went.host went.there in
      let older : journal_at place (world plan (events_in s))
      ≡ journal_on f went.host.journal.disk = journal_there f (world plan (events_in s))
      (hosts_of s.sites.items) place went.host (ap (λ (w : World). w.peers) is.world) went.there in
      let newer : journal_at place (happens (world plan (events_in s)) e) ≡ journal_on f k.journal.disk =
      journal_there f (happens (world plan (events_in s)) e) (hosts_of t.sites.items) place k
      (ap (λ (w : World). w.peers) (worlds ∙ world_more plan (events_in s) e)) at in
      let batches : with_batch (batches_at place plan (events_in s))
      (drop (length (journal_on f went.host.journal.disk)) (journal_on f k.journal.disk))
      ≡ batches_at place plan (events_in t) =
      (λ i. with_batch (batches_at place plan (events_in s)) (drop (length (sym older i)) (sym newer i)))
      ∙ sym (batches_more place plan (events_in s) e) ∙ ap (batches_at place plan) (sym events) in
      let one = one_more s t e happened.history in
      record {
        stands = subst (StandsFor f k) batches (went.on.stands (batches_at place plan (events_in s)) before.stands);
        whole = went.on.whole before.whole;
        room = omega (arith, went.on.room, before.room, one);
        unfused = went.on.unfused ∙ before.unfused;
        pooled = went.on.pool ∙ before.pooled ∙ sym happened.pool;
      }

  kept : (plan : Plan) (s t : State D) (e : Event) (k : ℕ) → IsStateOf f plan s → length (events_in s) < MOST_EVENTS
      → MayHappen plan (world_in f s) e → Happened s t e k → IsStateOf f plan t
  kept plan s t e k is room may h =
      let events = more_events s t e h.history in
      let one = one_more s t e h.history in
      let size : length s.bag.items
      ≡ length (world plan (events_in s)).bag = ap (λ (w : World). length w.bag) is.world in
      let worlds : world_in f t
      ≡ world plan (events_in s ++ e ∷ []) = h.world ∙ ap (λ w. happens w e) is.world
      ∙ sym (world_more plan (events_in s) e) in
      let grown : length (world plan (events_in s ++ e ∷ [])).bag ≡ length (world plan (events_in s)).bag + k =
      sym (ap (λ (w : World). length w.bag) worlds) ∙ h.grown ∙ ap (λ n. n + k) size in
      let fresh : (i : ℕ) → length (world plan (events_in s)).bag ≤ i
      → is_pending (events_in s) i ≡ true = λ i le. is.fresh i (omega (arith, size)) in
      let untouched : (i : ℕ) → length (world plan (events_in s)).bag ≤ i
      → takes_out i e ≡ false = λ i le. h.untouched i (omega (arith, size)) in
      let here = subst (λ w. MayHappen plan w e) is.world may in
      record {
        good = is.good;
        happened = subst (IsHistory plan) (sym events) (history_more plan (events_in s) e is.happened room here);
        world = worlds ∙ ap (world plan) (sym events);
        entries =
            h.history ∙ ap (λ es. es ++ entry_of (world_in f s) e ∷ []) is.entries
            ∙ ap (λ w. entries plan (events_in s) ++ entry_of w e ∷ []) is.world
            ∙ sym (entries_more plan (events_in s) e) ∙ ap (entries plan) (sym events);
        pending =
            h.pending
            ∙ ap (λ is. filter (λ i. not (takes_out i e)) is ++ range_with_len (length s.bag.items) k)
            is.pending
            ∙ ap (λ n. filter (λ i. not (takes_out i e)) (pending plan (events_in s)) ++ range_with_len n k) size
            ∙ sym (pending_more plan (events_in s) e k grown fresh untouched) ∙ ap (pending plan) (sym events);
        hosts = λ place k at. host_after plan s t e is h events worlds place k at;
        clock = omega (arith, is.clock, h.clock, one);
        fresh = λ i le.
            ap (λ es. is_pending es i) events
            ∙ fresh_more (events_in s) e (length s.bag.items) (length t.bag.items) (omega (arith, h.grown)) is.fresh
            h.untouched i le;
      }

  became : (plan : Plan) (s t : State D) (e : Event) (k : ℕ) → IsStateOf f plan s
      → length (events_in s) < MOST_EVENTS → MayHappen plan (world_in f s) e → Happened s t e k
      → Becomes f plan (events_in s ++ e ∷ []) t
  became plan s t e k is room may h =
      record { state = kept plan s t e k is room may h; events = more_events s t e h.history }

  pub same_hosts : (s t : State D) → t.sites.items ≡ s.sites.items
      → HaveGoneOn f (hosts_of s.sites.items) (hosts_of t.sites.items)
  same_hosts s t sites =
      subst (λ (ss : List (Site D)). HaveGoneOn f (hosts_of s.sites.items) (hosts_of ss)) (sym sites)
      (stayed f (hosts_of s.sites.items))

  pub became_step : (plan : Plan) (s t : State D) (p : PeerStep) → IsStateOf f plan s
      → length (events_in s) < MOST_EVENTS → MayStep plan (world_in f s) p
      → world_in f t ≡ happens (world_in f s) (Step p)
      → t.history.items ≡ s.history.items ++ entry_of (world_in f s) (Step p) ∷ []
      → t.pending.items
      ≡ left_after p s.pending.items ++ range_with_len (length s.bag.items) (sends_in (world_in f s) p)
      → HaveGoneOn f (hosts_of s.sites.items) (hosts_of t.sites.items) → t.pool.now ≡ s.pool.now
      → Becomes f plan (events_in s ++ Step p ∷ []) t
  became_step plan s t p is room may world history pending on pool =
      became plan s t (Step p) (sends_in (world_in f s) p) is room may (record {
        world = world;
        history = history;
        pending =
            pending
            ∙ ap (λ is. is ++ range_with_len (length s.bag.items) (sends_in (world_in f s) p))
            (left_by p s.pending.items);
        grown = ap (λ (w : World). length w.bag) world ∙ grown_by (world_in f s) p;
        untouched = untouched_by plan (world_in f s) p may;
        clock = let same = ap (λ (w : World). w.tick) world ∙ same_tick (world_in f s) p in omega (arith, same);
        pool = pool;
        on = on;
      })

  pub became_forge : (plan : Plan) (s t : State D) (from to : ℕ) (bytes : List ℕ) → IsStateOf f plan s
      → length (events_in s) < MOST_EVENTS → MayForge plan from to bytes
      → world_in f t ≡ happens (world_in f s) (Forge from to bytes)
      → t.history.items ≡ s.history.items ++ entry_of (world_in f s) (Forge from to bytes) ∷ []
      → t.pending.items ≡ s.pending.items ++ length s.bag.items ∷ [] → t.sites.items ≡ s.sites.items
      → t.pool.now ≡ s.pool.now → Becomes f plan (events_in s ++ Forge from to bytes ∷ []) t
  became_forge plan s t from to bytes is room may world history pending hosts pool =
      became plan s t (Forge from to bytes) 1 is room may (record {
        world = world;
        history = history;
        pending = pending ∙ ap (λ is. is ++ length s.bag.items ∷ []) (sym (pass_true s.pending.items));
        grown = ap (λ (w : World). length w.bag) world ∙ grown_by_one (world_in f s) from to bytes;
        untouched = λ i le. refl;
        clock =
            let same = ap (λ (w : World). w.tick) world ∙ no_tick (world_in f s) from to bytes in
            omega (arith, same);
        pool = pool;
        on = same_hosts s t hosts;
      })

  pub became_tick : (plan : Plan) (s t : State D) (by : ℕ) → IsStateOf f plan s → length (events_in s) < MOST_EVENTS
      → 1 ≤ by → by ≤ MOST_TICKS → world_in f t ≡ happens (world_in f s) (Tick by)
      → t.history.items ≡ s.history.items ++ entry_of (world_in f s) (Tick by) ∷ []
      → t.pending.items ≡ s.pending.items → t.sites.items ≡ s.sites.items → t.pool.now ≡ s.pool.now
      → Becomes f plan (events_in s ++ Tick by ∷ []) t
  became_tick plan s t by is room some few world history pending hosts pool =
      became plan s t (Tick by) 0 is room (some, few) (record {
        world = world;
        history = history;
        pending = pending ∙ sym (pass_true s.pending.items) ∙ sym (append-nil (filter (λ i. true) s.pending.items));
        grown = let same = ap (λ (w : World). length w.bag) world ∙ same_bag (world_in f s) by in omega (arith, same);
        untouched = λ i le. refl;
        clock = let later = ap (λ (w : World). w.tick) world ∙ ticked (world_in f s) by in omega (arith, later, few);
        pool = pool;
        on = same_hosts s t hosts;
      })

  pub became_crash : (plan : Plan) (s t : State D) (peer : ℕ) → IsStateOf f plan s
      → length (events_in s) < MOST_EVENTS → IsHonest plan peer → world_in f t ≡ world_in f s
      → t.history.items ≡ s.history.items ++ entry_of (world_in f s) (Crash peer) ∷ []
      → t.pending.items ≡ s.pending.items → HaveGoneOn f (hosts_of s.sites.items) (hosts_of t.sites.items)
      → t.pool.now ≡ s.pool.now → Becomes f plan (events_in s ++ Crash peer ∷ []) t
  became_crash plan s t peer is room honest same history pending on pool =
      became plan s t (Crash peer) 0 is room honest (record {
        world = same ∙ sym (crashed (world_in f s) peer);
        history = history;
        pending = pending ∙ sym (pass_true s.pending.items) ∙ sym (append-nil (filter (λ i. true) s.pending.items));
        grown = let size = ap (λ (w : World). length w.bag) same in omega (arith, size);
        untouched = λ i le. refl;
        clock = let tick = ap (λ (w : World). w.tick) same in omega (arith, tick);
        pool = pool;
        on = on;
      })

  pub became_cut : (plan : Plan) (s t : State D) (p : PeerStep) (is_kept : Bool) → IsStateOf f plan s
      → length (events_in s) < MOST_EVENTS → MayHappen plan (world_in f s) (Cut p is_kept)
      → world_in f t ≡ happens (world_in f s) (Cut p is_kept)
      → t.history.items ≡ s.history.items ++ entry_of (world_in f s) (Cut p is_kept) ∷ []
      → t.pending.items ≡ left_after p s.pending.items
      → HaveGoneOn f (hosts_of s.sites.items) (hosts_of t.sites.items) → t.pool.now ≡ s.pool.now
      → Becomes f plan (events_in s ++ Cut p is_kept ∷ []) t
  became_cut plan s t p is_kept is room may world history pending on pool =
      became plan s t (Cut p is_kept) 0 is room may (record {
        world = world;
        history = history;
        pending =
            pending ∙ left_by p s.pending.items
            ∙ sym (append-nil (filter (λ i. not (takes_out i (Step p))) s.pending.items));
        grown =
            let size = ap (λ (w : World). length w.bag) world ∙ quiet_bag (world_in f s) p is_kept in
            omega (arith, size);
        untouched = untouched_by plan (world_in f s) p may.0;
        clock =
            let tick = ap (λ (w : World). w.tick) world ∙ quiet_tick (world_in f s) p is_kept in
            omega (arith, tick);
        pool = pool;
        on = on;
      })

  pub became_lose : (plan : Plan) (s t : State D) (envelope : ℕ) → IsStateOf f plan s
      → length (events_in s) < MOST_EVENTS → envelope < length s.bag.items
      → world_in f t ≡ happens (world_in f s) (Lose envelope)
      → t.history.items ≡ s.history.items ++ entry_of (world_in f s) (Lose envelope) ∷ []
      → t.pending.items ≡ filter (λ i. not (i == envelope)) s.pending.items → t.sites.items ≡ s.sites.items
      → t.pool.now ≡ s.pool.now → Becomes f plan (events_in s ++ Lose envelope ∷ []) t
  became_lose plan s t envelope is room stands world history pending hosts pool =
      let same = world ∙ unchanged (world_in f s) envelope in
      became plan s t (Lose envelope) 0 is room stands (record {
        world = world;
        history = history;
        pending = pending ∙ sym (append-nil (filter (λ i. not (i == envelope)) s.pending.items));
        grown = let size = ap (λ (w : World). length w.bag) same in omega (arith, size);
        untouched = λ i le. not_same i envelope (length s.bag.items) stands le;
        clock = let tick = ap (λ (w : World). w.tick) same in omega (arith, tick);
        pool = pool;
        on = same_hosts s t hosts;
      })
