-- Fuses that burned and powers that were cut, over events one after another.
use Rattle.std.proofs.Common.{◌≡◌, ◌≤◌, ◌<◌, ◌⊎◌, ◌∙◌, inl, inr, ⊎_elim, ap, sym, ℕ, Bool, true, false, cond, List}
use Rattle.std.proofs.Common.{[], ◌∷◌, ◌++◌, length, refl, arith, append_assoc}
use Rattle.std.specs.Prelude.{Option, Some, None, map, nat_lt}
use Rattle.std.specs.Option.{option_map_or}
use Rattle.std.proofs.lemmas.List.{append-nil, length-append}
use Rattle.lks_base.specs.declared.events.Event.{Event}
use Rattle.lks_base.specs.declared.events.Event.TheVariants as events
use Rattle.lks_base.specs.declared.events.PeerStep.{PeerStep}
use Rattle.lks_base.specs.declared.limits.TheConstants.{MOST_EVENTS}
use Rattle.lks_base.specs.declared.plans.PeerPlan.{PeerPlan}
use Rattle.lks_base.specs.declared.plans.Plan.{Plan}
use Rattle.lks_disk.specs.Face.{Face}
use Rattle.lks_law.specs.Due.{next_to_lose}
use Rattle.lks_law.specs.World.{World, world, start, happens, happen_all}
use Rattle.lks_message.specs.Spelling.{spelling}
use Rattle.lks_saying.specs.Sayings.{Saying}
use Rattle.lks_world.specs.Counts.{honest_ids}
use Rattle.lks_world.specs.Disks.{honest_disks}
use Rattle.lks_world.specs.Follows.{next_lost, with_saying}
use Rattle.lks_world.specs.Kept.{with_event}
use Rattle.lks_world.specs.Powers.{burns_by, cuts_by, burns_from, cuts_from, burns_in, cuts_in, HavePower}
use Rattle.lks_world.specs.Powers.{HavePowerOf, IsQuiet, Power, power_of, raised_at, raised_each}
use Rattle.lks_world.specs.declared.faults.WorldFault.{WorldFault}

-- Counts that rise.

raised_more : (xs ys ids counts : List ℕ)
    → raised_each (xs ++ ys) ids counts ≡ raised_each ys ids (raised_each xs ids counts)
raised_more [] ys ids counts = refl
raised_more (x ∷ xs) ys ids counts = raised_more xs ys ids (raised_at x ids counts)

raised_then : (xs bs ys cs ids l m n : List ℕ) → bs ≡ [] → m ≡ raised_each (xs ++ bs) ids l
    → n ≡ raised_each (ys ++ cs) ids m → n ≡ raised_each ((xs ++ ys) ++ cs) ids l
raised_then xs bs ys cs ids l m n none first next =
    next
    ∙ ap (raised_each (ys ++ cs) ids)
    (first ∙ ap (λ (b : List ℕ). raised_each (xs ++ b) ids l) none
    ∙ ap (λ (x : List ℕ). raised_each x ids l) (append-nil xs))
    ∙ sym (raised_more xs (ys ++ cs) ids l)
    ∙ ap (λ (x : List ℕ). raised_each x ids l) (sym (append_assoc xs ys cs))

raised_still : (ys cs ids m n : List ℕ) → ys ≡ [] → cs ≡ [] → n ≡ raised_each (ys ++ cs) ids m → n ≡ m
raised_still ys cs ids m n none nor is = is ∙ (λ i. raised_each (none i ++ nor i) ids m)

-- One event more.

burns_last : (w : World) (history : List Event) (e : Event)
    → burns_from w (history ++ e ∷ []) ≡ burns_from w history ++ burns_by (happen_all w history) e
burns_last w [] e = append-nil (burns_by w e)
burns_last w (d ∷ ds) e =
    ap (λ (ids : List ℕ). burns_by w d ++ ids) (burns_last (happens w d) ds e)
    ∙ sym (append_assoc (burns_by w d) (burns_from (happens w d) ds) (burns_by (happen_all (happens w d) ds) e))

cuts_last : (w : World) (history : List Event) (e : Event)
    → cuts_from w (history ++ e ∷ []) ≡ cuts_from w history ++ cuts_by (happen_all w history) e
cuts_last w [] e = append-nil (cuts_by w e)
cuts_last w (d ∷ ds) e =
    ap (λ (ids : List ℕ). cuts_by w d ++ ids) (cuts_last (happens w d) ds e)
    ∙ sym (append_assoc (cuts_by w d) (cuts_from (happens w d) ds) (cuts_by (happen_all (happens w d) ds) e))

module _ (plan : Plan) (history : List Event) where
  burns_more : (e : Event)
      → burns_in plan (history ++ e ∷ []) ≡ burns_in plan history ++ burns_by (world plan history) e
  unfolding burns_in world
  burns_more e = burns_last (start plan) history e

  cuts_more : (e : Event) → cuts_in plan (history ++ e ∷ []) ≡ cuts_in plan history ++ cuts_by (world plan history) e
  unfolding cuts_in world
  cuts_more e = cuts_last (start plan) history e

  longer : (e : Event) → length history ≤ length (history ++ e ∷ [])
  longer e = omega (arith, length-append history (e ∷ []))

  pub quiet_same : IsQuiet plan history history
  quiet_same = record { burns = refl; cuts = refl; later = omega arith }

  -- an event at which no power fails
  pub quiet_event : (e : Event) → ((w : World) → (burns_by w e ≡ []) × (cuts_by w e ≡ []))
      → IsQuiet plan history (history ++ e ∷ [])
  quiet_event e quiet =
      let none = quiet (world plan history) in
      record {
        burns =
            burns_more e ∙ ap (λ (ids : List ℕ). burns_in plan history ++ ids) none.0
            ∙ append-nil (burns_in plan history);
        cuts =
            cuts_more e ∙ ap (λ (ids : List ℕ). cuts_in plan history ++ ids) none.1
            ∙ append-nil (cuts_in plan history);
        later = longer e;
      }

  pub quiet_kept : (e : Event) → ((w : World) → (burns_by w e ≡ []) × (cuts_by w e ≡ []))
      → IsQuiet plan history (with_event history e)
  quiet_kept e quiet = by_room (nat_lt (length history) MOST_EVENTS)
    where
      by_room : (b : Bool) → IsQuiet plan history (cond b (history ++ e ∷ []) history)
      by_room true = quiet_event e quiet
      by_room false = quiet_same

  pub quiet_step : (s : PeerStep) → IsQuiet plan history (history ++ events.Step s ∷ [])
  quiet_step s = quiet_event (events.Step s) (λ w. (refl, refl))

  pub quiet_spoken : (o : Option Saying) → IsQuiet plan history (with_saying history o)
  quiet_spoken None = quiet_same
  quiet_spoken (Some said) = quiet_kept (events.Forge said.from said.to (spelling said.message)) (λ w. (refl, refl))

  pub quiet_lost : IsQuiet plan history (next_lost plan history)
  unfolding next_lost
  quiet_lost = by_first (next_to_lose plan history)
    where
      by_first : (o : Option ℕ)
          → IsQuiet plan history (option_map_or (λ i. with_event history (events.Lose i)) o history)
      by_first None = quiet_same
      by_first (Some i) = quiet_kept (events.Lose i) (λ w. (refl, refl))

module _ {D : Type 0} (f : Face D) (plan : Plan) (ids : List ℕ) where
  -- no power failed
  pub power_quiet : (before after : List Event) (disks now : List D) (fault : Option WorldFault)
      → IsQuiet plan before after → map f.burns now ≡ map f.burns disks → map f.cuts now ≡ map f.cuts disks
      → HavePower f plan before after fault ids disks now
  power_quiet before after disks now fault quiet burns cuts = record {
    burned = [];
    cut = [];
    burned_besides = [];
    cut_besides = [];
    fuses = quiet.burns ∙ sym (append-nil (burns_in plan before));
    powers = quiet.cuts ∙ sym (append-nil (cuts_in plan before));
    burns = burns;
    cuts = cuts;
    one = omega arith;
    fewer = inl refl;
    whole = λ none. (refl, inl refl);
    later = quiet.later;
    full = λ full. (refl, refl, refl);
  }

  -- it failed in an event
  pub power_event : (history : List Event) (e : Event) (disks now : List D) (fault : Option WorldFault)
      → length history < MOST_EVENTS
      → map f.burns now ≡ raised_each (burns_by (world plan history) e) ids (map f.burns disks)
      → map f.cuts now ≡ raised_each (cuts_by (world plan history) e) ids (map f.cuts disks)
      → HavePower f plan history (history ++ e ∷ []) fault ids disks now
  power_event history e disks now fault room burns cuts = record {
    burned = burns_by (world plan history) e;
    cut = cuts_by (world plan history) e;
    burned_besides = [];
    cut_besides = [];
    fuses = burns_more plan history e;
    powers = cuts_more plan history e;
    burns =
        burns
        ∙ ap (λ (x : List ℕ). raised_each x ids (map f.burns disks))
        (sym (append-nil (burns_by (world plan history) e)));
    cuts =
        cuts
        ∙ ap (λ (x : List ℕ). raised_each x ids (map f.cuts disks))
        (sym (append-nil (cuts_by (world plan history) e)));
    one = omega arith;
    fewer = inl refl;
    whole = λ none. (refl, inl refl);
    later = longer plan history e;
    full = λ full. absurd (omega (arith, full, room));
  }

  -- it failed in none
  pub power_besides : (before after : List Event) (disks now : List D) (fault : Option WorldFault) (id : ℕ)
      (burned : List ℕ)
      → IsQuiet plan before after → length before < MOST_EVENTS → (burned ≡ []) ⊎ (burned ≡ id ∷ [])
      → map f.burns now ≡ raised_each burned ids (map f.burns disks)
      → map f.cuts now ≡ raised_each (id ∷ []) ids (map f.cuts disks)
      → (fault ≡ None → (burned ≡ []) × (MOST_EVENTS ≤ length after))
      → HavePower f plan before after fault ids disks now
  power_besides before after disks now fault id burned quiet room fewer burns cuts whole = record {
    burned = [];
    cut = [];
    burned_besides = burned;
    cut_besides = id ∷ [];
    fuses = quiet.burns ∙ sym (append-nil (burns_in plan before));
    powers = quiet.cuts ∙ sym (append-nil (cuts_in plan before));
    burns = burns;
    cuts = cuts;
    one = omega arith;
    fewer = fewer;
    whole = λ none. let w = whole none in (w.0, inr w.1);
    later = quiet.later;
    full = λ full. absurd (omega (arith, full, room));
  }

  -- events after events: no power was cut besides in the first ones, or these filled the history, so that nothing
  -- followed
  module _ (a b c : List Event) (xs ys zs : List D) (fault : Option WorldFault)
      (first : HavePower f plan a b None ids xs ys) (next : HavePower f plan b c fault ids ys zs) where
    none_besides : first.cut_besides ≡ [] → HavePower f plan a c fault ids xs zs
    none_besides none = record {
      burned = first.burned ++ next.burned;
      cut = first.cut ++ next.cut;
      burned_besides = next.burned_besides;
      cut_besides = next.cut_besides;
      fuses =
          next.fuses ∙ ap (λ (l : List ℕ). l ++ next.burned) first.fuses
          ∙ append_assoc (burns_in plan a) first.burned next.burned;
      powers =
          next.powers ∙ ap (λ (l : List ℕ). l ++ next.cut) first.powers
          ∙ append_assoc (cuts_in plan a) first.cut next.cut;
      burns =
          raised_then first.burned first.burned_besides next.burned next.burned_besides ids (map f.burns xs)
          (map f.burns ys) (map f.burns zs) (first.whole refl).0 first.burns next.burns;
      cuts =
          raised_then first.cut first.cut_besides next.cut next.cut_besides ids (map f.cuts xs) (map f.cuts ys)
          (map f.cuts zs) none first.cuts next.cuts;
      one = next.one;
      fewer = next.fewer;
      whole = next.whole;
      later = omega (arith, first.later, next.later);
      full = λ full.
          let now = first.full full in
          let then = next.full (omega (arith, full, first.later)) in (
            (λ i. now.0 i ++ then.0 i),
            (λ i. now.1 i ++ then.1 i),
            then.2,
          );
    }

    at_the_end : MOST_EVENTS ≤ length b → HavePower f plan a c fault ids xs zs
    at_the_end end =
        let none = next.full end in
        let nor : next.burned_besides ≡ [] = ⊎_elim (λ is. is) (λ is. is ∙ none.2) next.fewer in
        record {
          burned = first.burned;
          cut = first.cut;
          burned_besides = first.burned_besides;
          cut_besides = first.cut_besides;
          fuses = next.fuses ∙ (λ i. first.fuses i ++ none.0 i) ∙ append-nil (burns_in plan a ++ first.burned);
          powers = next.powers ∙ (λ i. first.powers i ++ none.1 i) ∙ append-nil (cuts_in plan a ++ first.cut);
          burns =
              raised_still next.burned next.burned_besides ids (map f.burns ys) (map f.burns zs) none.0 nor
              next.burns
              ∙ first.burns;
          cuts =
              raised_still next.cut next.cut_besides ids (map f.cuts ys) (map f.cuts zs) none.1 none.2 next.cuts
              ∙ first.cuts;
          one = first.one;
          fewer = first.fewer;
          whole = λ is. ((first.whole refl).0, inr (omega (arith, end, next.later)));
          later = omega (arith, first.later, next.later);
          full = first.full;
        }

    pub power_then : HavePower f plan a c fault ids xs zs
    power_then = ⊎_elim none_besides at_the_end (first.whole refl).1

  -- The same with whose power was cut besides.

  module _ (who : List ℕ) where
    pub quiet_of : (before after : List Event) (disks now : List D) (fault : Option WorldFault)
        → IsQuiet plan before after → map f.burns now ≡ map f.burns disks → map f.cuts now ≡ map f.cuts disks
        → HavePowerOf f plan who before after fault ids disks now
    unfolding power_quiet
    quiet_of before after disks now fault quiet burns cuts =
        record { power = power_quiet before after disks now fault quiet burns cuts; whose = inl refl }

    pub event_of_power : (history : List Event) (e : Event) (disks now : List D) (fault : Option WorldFault)
        → length history < MOST_EVENTS
        → map f.burns now ≡ raised_each (burns_by (world plan history) e) ids (map f.burns disks)
        → map f.cuts now ≡ raised_each (cuts_by (world plan history) e) ids (map f.cuts disks)
        → HavePowerOf f plan who history (history ++ e ∷ []) fault ids disks now
    unfolding power_event
    event_of_power history e disks now fault room burns cuts =
        record { power = power_event history e disks now fault room burns cuts; whose = inl refl }

    pub then_of : (a b c : List Event) (xs ys zs : List D) (fault : Option WorldFault)
        → HavePowerOf f plan who a b None ids xs ys → HavePowerOf f plan who b c fault ids ys zs
        → HavePowerOf f plan who a c fault ids xs zs
    unfolding none_besides at_the_end
    then_of a b c xs ys zs fault first next =
        ⊎_elim
        (λ none.
        record { power = none_besides a b c xs ys zs fault first.power next.power none; whose = next.whose })
        (λ end. record { power = at_the_end a b c xs ys zs fault first.power next.power end; whose = first.whose })
        (first.power.whole refl).1

  pub besides_of : (before after : List Event) (disks now : List D) (fault : Option WorldFault) (id : ℕ)
      (burned : List ℕ)
      → IsQuiet plan before after → length before < MOST_EVENTS → (burned ≡ []) ⊎ (burned ≡ id ∷ [])
      → map f.burns now ≡ raised_each burned ids (map f.burns disks)
      → map f.cuts now ≡ raised_each (id ∷ []) ids (map f.cuts disks)
      → (fault ≡ None → (burned ≡ []) × (MOST_EVENTS ≤ length after))
      → HavePowerOf f plan (id ∷ []) before after fault ids disks now
  unfolding power_besides
  besides_of before after disks now fault id burned quiet room fewer burns cuts whole =
      record {
        power = power_besides before after disks now fault id burned quiet room fewer burns cuts whole;
        whose = inr refl;
      }

-- What is told of the power of all disks is told of those of honest peers.

honest_mapped : {D E : Type 0} (g : D → E) (peers : List PeerPlan) (disks : List D)
    → map g (honest_disks peers disks) ≡ honest_disks peers (map g disks)
honest_mapped g [] disks = refl
honest_mapped g (p ∷ ps) [] = refl
honest_mapped {D = D} {E = E} g (p ∷ ps) (d ∷ ds) = by_peer p.corrupt (honest_mapped g ps ds)
  where
    by_peer : (b : Bool) → map g (honest_disks ps ds) ≡ honest_disks ps (map g ds)
        → map g (cond b (honest_disks ps ds) (d ∷ honest_disks ps ds))
        ≡ cond b (honest_disks ps (map g ds)) (g d ∷ honest_disks ps (map g ds))
    by_peer true rest = rest
    by_peer false rest = ap (λ es. g d ∷ es) rest

told_by_power : {D T : Type 0} (f : Face D) (g : D → T) (h : Power → T) → ((d : D) → g d ≡ h (power_of f d))
    → (disks : List D) → map g disks ≡ map h (map (power_of f) disks)
told_by_power f g h same [] = refl
told_by_power f g h same (d ∷ ds) = λ i. same d i ∷ told_by_power f g h same ds i

honest_told : {D T : Type 0} (f : Face D) (peers : List PeerPlan) (g : D → T) (h : Power → T)
    → ((d : D) → g d ≡ h (power_of f d)) → (disks now : List D) → map (power_of f) now ≡ map (power_of f) disks
    → map g (honest_disks peers now) ≡ map g (honest_disks peers disks)
honest_told {D = D} f peers g h told disks now same =
    as_told now ∙ ap (λ ps. map h (honest_disks peers ps)) same ∙ sym (as_told disks)
  where
    as_told : (ds : List D) → map g (honest_disks peers ds) ≡ map h (honest_disks peers (map (power_of f) ds))
    as_told ds = told_by_power f g h told (honest_disks peers ds) ∙ ap (map h) (honest_mapped (power_of f) peers ds)

-- no power failed where all disks tell what they told
pub power_none : {D : Type 0} (f : Face D) (plan : Plan) (disks now : List D)
    → map (power_of f) now ≡ map (power_of f) disks
    → HavePower f plan [] [] None (honest_ids plan.peers) (honest_disks plan.peers disks) (honest_disks plan.peers now)
power_none f plan disks now same =
    power_quiet f plan (honest_ids plan.peers) [] [] (honest_disks plan.peers disks) (honest_disks plan.peers now)
    None (quiet_same plan [])
    (honest_told f plan.peers f.burns (λ p. p.burns) (λ d. refl) disks now same)
    (honest_told f plan.peers f.cuts (λ p. p.cuts) (λ d. refl) disks now same)
