-- Steps during which the power fails, in the state of a world.
use Rattle.std.proofs.Common.{◌≡◌, ◌≤◌, ◌<◌, ◌+◌, ◌-◌, ◌⊎◌, ◌∙◌, inl, inr, ap, sym, subst, ℕ, Bool, true, false, cond}
use Rattle.std.proofs.Common.{eqb, List, [], ◌∷◌, ◌++◌, length, refl, arith}
use Rattle.std.specs.Prelude.{Option, Some, None, Result, Ok, Err, OnOk, IsErrOf, IsSome, MatchOption, is_some}
use Rattle.std.specs.Prelude.{filter, map, not, option_map, slice_get}
use Rattle.std.specs.List.{range_with_len}
use Rattle.std.proofs.lemmas.List.{append-nil}
use Rattle.lks_base.proofs.PlanBounds.{found_peer}
use Rattle.lks_base.specs.Checking.{plan_fault}
use Rattle.lks_base.specs.declared.events.Event.{Event}
use Rattle.lks_base.specs.declared.events.Event.TheVariants as events
use Rattle.lks_base.specs.declared.events.PeerStep.{PeerStep}
use Rattle.lks_base.specs.declared.limits.TheConstants.{MOST_EVENTS}
use Rattle.lks_base.specs.declared.plans.PeerPlan.{PeerPlan}
use Rattle.lks_base.specs.declared.plans.Plan.{Plan}
use Rattle.lks_base.specs.declared.reactions.Outgoing.{Outgoing}
use Rattle.lks_base.specs.declared.records.Record.{Record}
use Rattle.lks_disk.specs.Face.{Face}
use Rattle.lks_host.specs.Hosted.{IsMadeBy}
use Rattle.lks_law.proofs.Journals.{journals_are_own}
use Rattle.lks_law.proofs.Lists.{filter_at}
use Rattle.lks_law.specs.Entries.{carried_envelope, entry_for, entry_of}
use Rattle.lks_law.specs.Facts.{HasJournal}
use Rattle.lks_law.specs.Histories.{IsHonest, MayStep, added_by}
use Rattle.lks_law.specs.Polls.{Station}
use Rattle.lks_law.specs.World.{World, Standing, is_honest, station_of, honest_peer, world, happens, after_step}
use Rattle.lks_law.specs.World.{deed_of, actor_of, sent_by, peer_at, with_records}
use Rattle.lks_world.proofs.CutLaws.{honest_at, some_length}
use Rattle.lks_world.proofs.Keeping.{envelope_left, envelopes_left, kept_room, kept_full, peer_there}
use Rattle.lks_world.proofs.SiteLaws.{counted_same, counted_then}
use Rattle.lks_world.proofs.StateLaws.{became_step, became_cut}
use Rattle.lks_world.specs.Cuts.{taker_of, FallsShort, Cuts, CutsOff}
use Rattle.lks_world.specs.Endings.{AreMade, BurnsUnless, PeersEnd, HasEnded, SitesBurnFor, event_for, is_whole}
use Rattle.lks_world.specs.Endings.{notes_for, sends_for}
use Rattle.lks_world.specs.Hosts.{peer_in, peers_of, with_added, HaveGoneOn, IsAbsent}
use Rattle.lks_world.specs.Kept.{with_event}
use Rattle.lks_world.specs.Sites.{hosts_of, Counted, StandsAt}
use Rattle.lks_world.specs.States.{left_after, world_in, sends_in, events_in, IsStateOf, Becomes}
use Rattle.lks_world.specs.declared.cutting.Ending.{Ending}
use Rattle.lks_world.specs.declared.cutting.Ending.TheVariants.{Whole, Kept, Lost}
use Rattle.lks_world.specs.declared.faults.WorldFault.{WorldFault}
use Rattle.lks_world.specs.declared.faults.WorldFault.TheVariants.{Disk}
use Rattle.lks_world.specs.declared.sites.Site.{Site}
use Rattle.lks_world.specs.declared.states.State.{State}

not_corrupt : (b : Bool) → not b ≡ true → b ≡ false
not_corrupt true honest = absurd cc
not_corrupt false honest = refl

-- records are added where there are none
pub nothing_added : (id : ℕ) (peers : List Standing) → with_records id [] peers ≡ peers
nothing_added id [] = refl
nothing_added id (p ∷ ps) = by_id (eqb p.own.id id) (nothing_added id ps)
  where
    by_id : (b : Bool) → with_records id [] ps ≡ ps
        → cond b (record { own = p.own; journal = p.journal ++ [] } ∷ ps) (p ∷ with_records id [] ps) ≡ p ∷ ps
    by_id true rest = ap (λ (js : List Record). record { own = p.own; journal = js } ∷ ps) (append-nil p.journal)
    by_id false rest = ap (λ (xs : List Standing). p ∷ xs) rest

pub with_nothing : (s : Standing) → with_added s [] ≡ s
with_nothing s = ap (λ (js : List Record). record { own = s.own; journal = js }) (append-nil s.journal)

module _ {D : Type 0} (f : Face D) (plan : Plan) where
  -- the hosts of a world were made by its plan
  pub made_there : plan_fault plan ≡ None → (s : State D) → IsStateOf f plan s → AreMade plan (hosts_of s.sites.items)
  made_there good s is place h at =
      by_plan (slice_get (filter is_honest plan.peers) place) refl
      ((journals_are_own plan (events_in s)).each place (peer_in f h) (peer_there f plan s is place h at))
    where
      by_plan : (o : Option PeerPlan) → slice_get (filter is_honest plan.peers) place ≡ o
          → HasJournal plan (world plan (events_in s)).tick o (peer_in f h) → IsMadeBy plan h.peer.own
      by_plan None none has = absurd has
      by_plan (Some p) listed has =
          let there = filter_at is_honest plan.peers place p listed in
          let found : honest_peer p.id plan
          ≡ Some p = found_peer plan good there.0 p there.1 (not_corrupt p.corrupt there.2) in
          record {
            good = good;
            made =
                subst (λ (own : Station). option_map (station_of plan) (honest_peer own.id plan) ≡ Some own)
                (sym has.0) (ap (option_map (station_of plan)) found);
          }

  module _ (s t : State D) (p : PeerStep) (calls : ℕ) (is : IsStateOf f plan s)
      (room : length (events_in s) < MOST_EVENTS) (may : MayStep plan (world_in f s) p) where
    -- what is noted of an ending is what it came to
    pub has_ended : (e : Ending)
        → PeersEnd s.tick (deed_of s.bag.items p) calls (peers_of f (hosts_of s.sites.items))
        (peers_of f (hosts_of t.sites.items)) e
        → t.tick ≡ s.tick → t.bag.items ≡ s.bag.items ++ map (sent_by (actor_of (deed_of s.bag.items p))) (sends_for e)
        → t.pending.items ≡ left_after p s.pending.items ++ range_with_len (length s.bag.items) (length (sends_for e))
        → t.history.items
        ≡ s.history.items
        ++ entry_for (event_for p e) (carried_envelope s.bag.items p) (notes_for e) (length (sends_for e))
        ∷ []
        → HaveGoneOn f (hosts_of s.sites.items) (hosts_of t.sites.items) → t.pool.now ≡ s.pool.now
        → HasEnded f plan calls s p t (is_whole e)
    unfolding happens after_step entry_of sends_in
    has_ended (Whole done) end tick bag pending history on pool =
        let deed = deed_of s.bag.items p in
        let peers = peers_of f (hosts_of s.sites.items) in (
          became_step f plan s t p is room may
              (λ i.
              record {
                peers = end.2 i;
                bag = (bag ∙ ap (λ sends. s.bag.items ++ map (sent_by (actor_of deed)) sends) end.0) i;
                tick = tick i;
              })
              (history
              ∙ (λ i. s.history.items
              ++ entry_for (events.Step p) (carried_envelope s.bag.items p) (end.1 i) (length (end.0 i))
              ∷ []))
              (pending
              ∙ ap
              (λ sends. left_after p s.pending.items ++ range_with_len (length s.bag.items) (length sends))
              end.0) on pool,
          end.3,
        )
    has_ended (Kept notes) end tick bag pending history on pool = (
      true,
      became_cut f plan s t p true is room (may, some_length (added_by (world_in f s) p) end.2.adds)
          (λ i. record { peers = end.1 i; bag = (bag ∙ append-nil s.bag.items) i; tick = tick i })
          (history
          ∙ (λ i. s.history.items
          ++ entry_for (events.Cut p true) (carried_envelope s.bag.items p) (end.0 i) 0 ∷ []))
          (pending ∙ append-nil (left_after p s.pending.items)) on pool,
      end.2.adds,
      end.2.few,
      λ early. absurd (omega (arith, early, end.3)),
    )
    has_ended Lost end tick bag pending history on pool = (
      false,
      became_cut f plan s t p false is room (may, some_length (added_by (world_in f s) p) end.1.adds)
          (λ i. record { peers = end.0 i; bag = (bag ∙ append-nil s.bag.items) i; tick = tick i })
          history (pending ∙ append-nil (left_after p s.pending.items)) on pool,
      end.1.adds,
      end.1.few,
      λ early. refl,
    )

  -- what goes out of it can be numbered
  pub ending_left : (s : State D) (p : PeerStep) (calls : ℕ) (after : List Standing) (e : Ending)
      → IsStateOf f plan s → 0 < MOST_EVENTS - length s.history.items
      → PeersEnd s.tick (deed_of s.bag.items p) calls (peers_of f (hosts_of s.sites.items)) after e
      → length s.bag.items + length (sends_for e) ≤ 4294967295
  unfolding sends_in
  ending_left s p calls after (Whole done) is room end =
      subst (λ (sends : List Outgoing). length s.bag.items + length sends ≤ 4294967295) (sym end.0)
      (envelopes_left f plan s p is room)
  ending_left s p calls after (Kept notes) is room end = let low = envelope_left f plan s is in omega (arith, low)
  ending_left s p calls after Lost is room end = let low = envelope_left f plan s is in omega (arith, low)

  -- What a step came to is what becomes of it by the rules.

  module _ (s : State D) (p : PeerStep) (calls : ℕ) (is : IsStateOf f plan s) where
    abbrev taken : World → Option Standing
    taken w = peer_at (taker_of w.bag p) w.peers

    same_taker : taken (world_in f s) ≡ taken (world plan (events_in s))
    same_taker = ap taken is.world

    same_added : added_by (world_in f s) p ≡ added_by (world plan (events_in s)) p
    same_added = ap (λ (w : World). added_by w p) is.world

    some_there : IsSome (taken (world_in f s)) → taken (world plan (events_in s)) ≡ None → ⊥
    some_there there none = by_peer (taken (world_in f s)) there (same_taker ∙ none)
      where
        by_peer : (o : Option Standing) → IsSome o → o ≡ None → ⊥
        by_peer None there none = absurd cc
        by_peer (Some x) there none = absurd cc

    -- nobody honest takes it, so no power falls short
    pub no_short : taken (world_in f s) ≡ None → FallsShort plan (events_in s) calls p → ⊥
    no_short none short = let both : None ≡ Some short.peer = sym none ∙ same_taker ∙ short.honest in absurd cc

    -- it was done, so the power didn't fall short
    pub not_short : (m : State D) → HasEnded f plan calls s p m true → FallsShort plan (events_in s) calls p → ⊥
    not_short m end short = by_cause end.1
      where
        by_cause : (added_by (world_in f s) p ≡ []) ⊎ (4 ≤ calls) → ⊥
        by_cause (inl none) = short.adds (sym same_added ∙ none)
        by_cause (inr four) = omega (arith, short.few, four)

    pub taker_honest : IsSome (taken (world_in f s)) → IsHonest plan (taker_of s.bag.items p)
    taker_honest there =
        subst (λ (w : World). IsHonest plan (taker_of w.bag p)) (sym is.world)
        (by_peer (taken (world plan (events_in s))) (subst IsSome same_taker there)
        (λ x found. honest_at plan (events_in s) (taker_of (world plan (events_in s)).bag p) x found))
      where
        by_peer : (o : Option Standing) → IsSome o
            → ((x : Standing) → o ≡ Some x → IsHonest plan (taker_of (world plan (events_in s)).bag p))
            → IsHonest plan (taker_of (world plan (events_in s)).bag p)
        by_peer None there honest = absurd cc
        by_peer (Some x) there honest = honest x refl

    pub cuts_alone : (t : State D) → taken (world_in f s) ≡ None
        → Becomes f plan (with_event (events_in s) (events.Step p)) t → Cuts plan (events_in s) calls p (events_in t)
    cuts_alone t none b = record {
      alone = λ is. b.events;
      short =
          λ (short : FallsShort plan (events_in s) calls p). let both : None
          ≡ Some short.peer = sym none ∙ same_taker ∙ short.honest in absurd cc;
      whole = λ x there spent. let both : None ≡ Some x = sym none ∙ same_taker ∙ there in absurd cc;
    }

    pub cuts_whole : (m : State D) (after : List Event) → length (events_in s) < MOST_EVENTS
        → IsSome (taken (world_in f s)) → HasEnded f plan calls s p m true
        → after ≡ with_event (events_in m) (events.Crash (taker_of s.bag.items p))
        → Cuts plan (events_in s) calls p after
    cuts_whole m after room there end is_crash = record {
      alone = λ none. absurd (some_there there none);
      short = λ (short : FallsShort plan (events_in s) calls p). absurd (never short end.1);
      whole =
          λ x honest spent. is_crash
          ∙ (λ i. with_event ((end.0.events ∙ sym (kept_room (events_in s) (events.Step p) room)) i)
          (events.Crash (taker_of (is.world i).bag p)));
    }
      where
        never : FallsShort plan (events_in s) calls p → (added_by (world_in f s) p ≡ []) ⊎ (4 ≤ calls) → ⊥
        never short (inl none) = short.adds (sym same_added ∙ none)
        never short (inr four) = omega (arith, short.few, four)

    pub cuts_short : (t : State D) → length (events_in s) < MOST_EVENTS → IsSome (taken (world_in f s))
        → HasEnded f plan calls s p t false → Cuts plan (events_in s) calls p (events_in t)
    cuts_short t room there end = record {
      alone = λ none. absurd (some_there there none);
      short =
          λ short.
          record {
            is_kept = end.0;
            early = end.4;
            more = end.1.events ∙ sym (kept_room (events_in s) (events.Cut p end.0) room);
          };
      whole = λ x honest spent. absurd (never spent);
    }
      where
        never : (added_by (world plan (events_in s)) p ≡ []) ⊎ (4 ≤ calls) → ⊥
        never (inl none) = end.2 (same_added ∙ none)
        never (inr four) = omega (arith, end.3, four)

-- where the history is full, nothing happens
pub off_full : (plan : Plan) (history : List Event) (calls : ℕ) (o : Option PeerStep) → MOST_EVENTS ≤ length history
    → CutsOff plan history calls o history
off_full plan history calls None full = refl
off_full plan history calls (Some p) full = record {
  alone = λ none. sym (kept_full history (events.Step p) full);
  short =
      λ short.
      record { is_kept = false; early = λ early. refl; more = sym (kept_full history (events.Cut p false) full) };
  whole = λ x honest spent.
      let crash = events.Crash (taker_of (world plan history).bag p) in
      sym (ap (λ es. with_event es crash) (kept_full history (events.Step p) full) ∙ kept_full history crash full);
}

-- Calls of the world's disks, and then a step that makes none.

pub same_crash : (w v : World) (peer : ℕ) → entry_of w (events.Crash peer) ≡ entry_of v (events.Crash peer)
unfolding entry_of
same_crash w v peer = refl

pub counted_still : {D S T : Type 0} (f : Face D) (xs ys zs : List (Site D)) (before : Result S WorldFault)
    (result : Result T WorldFault)
    → Counted f xs ys before → zs ≡ ys → ((id : ℕ) → IsErrOf result (Disk id) → ⊥) → Counted f xs zs result
counted_still {D = D} f xs ys zs before result counted same none =
    subst (λ (ss : List (Site D)). Counted f xs ss result) (sym same)
    (counted_then f xs ys ys before result counted (counted_same f ys result none))

-- a fault is a fault, whatever the answer would have been
pub counted_as : {D S T : Type 0} (f : Face D) (xs ys : List (Site D)) (fault : WorldFault)
    → Counted {T = S} f xs ys (Err fault) → Counted {T = T} f xs ys (Err fault)
counted_as f xs ys fault counted = record { ids = counted.ids; fuses = counted.fuses; serves = counted.serves }

pub burns_unless : {D : Type 0} (f : Face D) (calls choice id : ℕ) (xs ys : List (Site D)) (e : Ending)
    → SitesBurnFor f calls choice id xs ys e → BurnsUnless f calls choice id xs ys (is_whole e)
burns_unless f calls choice id xs ys (Whole done) burns = tt
burns_unless f calls choice id xs ys (Kept notes) burns = burns
burns_unless f calls choice id xs ys Lost burns = burns

-- whether a peer's place was found says whether the peer is there

pub nobody_there : {D : Type 0} (f : Face D) (id : ℕ) (sites : List (Site D)) (r : Option ℕ) → is_some r ≡ false
    → MatchOption r (IsAbsent id (peers_of f (hosts_of sites))) (StandsAt f id sites)
    → peer_at id (peers_of f (hosts_of sites)) ≡ None
nobody_there f id sites None none found = found.none
nobody_there f id sites (Some place) none found = absurd cc

pub somebody_there : {D : Type 0} (f : Face D) (id : ℕ) (sites : List (Site D)) (r : Option ℕ) → is_some r ≡ true
    → MatchOption r (IsAbsent id (peers_of f (hosts_of sites))) (StandsAt f id sites)
    → IsSome (peer_at id (peers_of f (hosts_of sites)))
somebody_there f id sites None none found = absurd cc
somebody_there f id sites (Some place) some found = subst IsSome (sym found.found) refl

pub on_ok : {T E P : Type 0} (r : Result T E) → P → OnOk r P
on_ok (Ok x) p = p
on_ok (Err e) p = tt
