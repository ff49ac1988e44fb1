-- What became of the power of one peer, as all sites of a world count it.
use Rattle.std.proofs.Common.{◌≡◌, ◌≤◌, ◌<◌, ◌∙◌, inl, inr, ap, sym, subst, ℕ, zero, suc, Bool, true, false, cond}
use Rattle.std.proofs.Common.{List, [], ◌∷◌, ◌++◌, length, refl}
use Rattle.std.specs.Prelude.{Option, Some, None, Result, Ok, Err, IfOk, IsErrAnd, map, nat_lt, slice_get, slice_set}
use Rattle.std.specs.List.{filter_map}
use Rattle.std.proofs.lemmas.Bool.{cases_Bool, ltb-false, ltb-true}
use Rattle.lks_base.specs.declared.events.Event.{Event}
use Rattle.lks_base.specs.declared.events.Event.TheVariants as events
use Rattle.lks_base.specs.declared.events.PeerStep.{PeerStep}
use Rattle.lks_base.specs.declared.limits.TheConstants.{MOST_EVENTS}
use Rattle.lks_base.specs.declared.plans.PeerPlan.{PeerPlan}
use Rattle.lks_base.specs.declared.plans.Plan.{Plan}
use Rattle.lks_disk.specs.Counts.{raised}
use Rattle.lks_disk.specs.Face.{Face}
use Rattle.lks_host.specs.declared.hosts.Host.{Host}
use Rattle.lks_law.specs.World.{peer_at, world}
use Rattle.lks_world.proofs.PowerLaws.{besides_of, event_of_power, quiet_of, quiet_same, quiet_step, then_of}
use Rattle.lks_world.proofs.SiteLaws.{ActsAt, acts_ranked, honest_back, raised_none}
use Rattle.lks_world.specs.Counts.{fault_in, honest_ids}
use Rattle.lks_world.specs.Cuts.{taker_of}
use Rattle.lks_world.specs.Disks.{honest_disks}
use Rattle.lks_world.specs.Endings.{BurnsFor, MayLosePower, PowerEnds, is_whole}
use Rattle.lks_world.specs.Hosts.{disk_in, disks_of, peers_of, KeepsPower, LosesPower}
use Rattle.lks_world.specs.Kept.{with_event}
use Rattle.lks_world.specs.Powers.{burns_by, cuts_by, HavePowerOf, IsQuiet, raised_at}
use Rattle.lks_world.specs.Sites.{hosts_of, disks_at, disks_on, ids_at, ids_on, id_for, AreSites, Powered, SitesPower}
use Rattle.lks_world.specs.declared.cutting.Ending.{Ending}
use Rattle.lks_world.specs.declared.cutting.Ending.TheVariants.{Whole, Kept, Lost}
use Rattle.lks_world.specs.declared.faults.WorldFault.{WorldFault}
use Rattle.lks_world.specs.declared.sites.Site.{Site}
use Rattle.lks_world.specs.declared.sites.Site.TheVariants as site

-- an answer that is a refusal has a fault
pub is_stopped : {T : Type 0} (Q : WorldFault → Type 0) (r : Result T WorldFault) → IsErrAnd r Q → fault_in r ≡ None → ⊥
is_stopped Q (Ok x) refused none = absurd refused
is_stopped Q (Err fault) refused none = cc

set_same : {D : Type 0} (count : D → ℕ) (hosts : List (Host D)) (i : ℕ) (h k : Host D) → slice_get hosts i ≡ Some h
    → count (disk_in k) ≡ count (disk_in h)
    → map count (disks_of (slice_set hosts i k)) ≡ map count (disks_of hosts)
set_same count [] i h k at same = refl
set_same {D = D} count (x ∷ xs) zero h k at same =
    let first : x ≡ h = cc in
    ap (λ (n : ℕ). n ∷ map count (disks_of xs)) (same ∙ ap (λ (y : Host D). count (disk_in y)) (sym first))
set_same count (x ∷ xs) (suc i) h k at same =
    ap (λ (ns : List ℕ). count (disk_in x) ∷ ns) (set_same count xs i h k at same)

-- One host on its site.

module _ {D : Type 0} (f : Face D) (id : ℕ) (sites : List (Site D)) (place : ℕ) (h : Host D)
    (acts : ActsAt f id sites place h) (k : Host D) where
  abbrev now : List (Site D)
  now = slice_set sites place (site.Host k)

  kept_count : (count : D → ℕ) → count (disk_in k) ≡ count (disk_in h)
      → map count (disks_on now) ≡ map count (disks_on sites)
  kept_count count same =
      ap (λ (hs : List (Host D)). map count (disks_of hs)) (acts.stands.sets k)
      ∙ set_same count (hosts_of sites) acts.stands.rank h k (acts_ranked f id sites place h acts) same

  raised_count : (count : D → ℕ) → count (disk_in k) ≡ raised (count (disk_in h))
      → map count (disks_on now) ≡ raised_at id (ids_on sites) (map count (disks_on sites))
  raised_count count up =
      acts.stands.raises count k (up ∙ ap (λ (x : Host D). raised (count (disk_in x))) (sym acts.is))

  pub power_kept : KeepsPower f (disk_in h) (disk_in k) → Powered f [] [] sites now
  power_kept keeps = record { burns = kept_count f.burns keeps.burns; cuts = kept_count f.cuts keeps.cuts }

  pub power_lost : f.burns (disk_in k) ≡ f.burns (disk_in h) → f.cuts (disk_in k) ≡ raised (f.cuts (disk_in h))
      → Powered f [] (id ∷ []) sites now
  power_lost same up = record { burns = kept_count f.burns same; cuts = raised_count f.cuts up }

  power_burned : f.burns (disk_in k) ≡ raised (f.burns (disk_in h))
      → f.cuts (disk_in k) ≡ raised (f.cuts (disk_in h)) → Powered f (id ∷ []) (id ∷ []) sites now
  power_burned burned up = record { burns = raised_count f.burns burned; cuts = raised_count f.cuts up }

  pub power_ends : (calls choice : ℕ) (r : Result Ending WorldFault) → LosesPower f (disk_in h) (disk_in k) r
      → IfOk r (λ e. BurnsFor f calls choice e (disk_in h) (disk_in k)) → PowerEnds f is_whole id sites now r
  power_ends calls choice (Ok (Whole done)) loses burns = power_lost burns loses.cuts
  power_ends calls choice (Ok (Kept notes)) loses burns = power_burned burns.rose loses.cuts
  power_ends calls choice (Ok Lost) loses burns = power_burned burns.rose loses.cuts
  power_ends calls choice (Err fault) loses burns = elim loses.burns [
    | inl same ↦ inr (true, power_lost same loses.cuts)
    | inr up ↦ inr (false, power_burned up loses.cuts)
  ]

module _ {D : Type 0} (f : Face D) where
  pub power_still : (xs ys : List (Site D)) → ys ≡ xs → Powered f [] [] xs ys
  power_still xs ys same =
      record { burns = ap (λ ss. map f.burns (disks_on ss)) same; cuts = ap (λ ss. map f.cuts (disks_on ss)) same }

  -- the peer isn't there
  pub power_absent : (id : ℕ) (sites : List (Site D)) → peer_at id (peers_of f (hosts_of sites)) ≡ None
      → Powered f [] (id ∷ []) sites sites
  power_absent id sites none =
      record { burns = refl; cuts = sym (raised_none f id sites (map f.cuts (disks_on sites)) none) }

  pub may_lose : {T : Type 0} (Q : WorldFault → Type 0) (is_done : T → Bool) (id : ℕ) (xs ys : List (Site D))
      (r : Result T WorldFault)
      → IsErrAnd r Q → MayLosePower f id xs ys → PowerEnds f is_done id xs ys r
  may_lose Q is_done id xs ys (Ok x) refused may = absurd refused
  may_lose Q is_done id xs ys (Err fault) refused may = may

-- A history goes on.

module _ {D : Type 0} (f : Face D) (plan : Plan) where
  module _ (who : List ℕ) where
    pub sites_quiet : {T : Type 0} (before after : List Event) (xs ys : List (Site D)) (r : Result T WorldFault)
        → IsQuiet plan before after → Powered f [] [] xs ys → SitesPower f plan who before after xs ys r
    sites_quiet before after xs ys r quiet p =
        quiet_of f plan (ids_on xs) who before after (disks_on xs) (disks_on ys) (fault_in r) quiet p.burns p.cuts

    pub sites_still : {T : Type 0} (before after : List Event) (xs ys : List (Site D)) (r : Result T WorldFault)
        → after ≡ before → Powered f [] [] xs ys → SitesPower f plan who before after xs ys r
    sites_still before after xs ys r same p =
        sites_quiet before after xs ys r (subst (IsQuiet plan before) (sym same) (quiet_same plan before)) p

    pub sites_step : {T : Type 0} (before after : List Event) (s : PeerStep) (xs ys : List (Site D))
        (r : Result T WorldFault)
        → after ≡ before ++ events.Step s ∷ [] → Powered f [] [] xs ys → SitesPower f plan who before after xs ys r
    sites_step before after s xs ys r more p =
        sites_quiet before after xs ys r (subst (IsQuiet plan before) (sym more) (quiet_step plan before s)) p

    pub sites_event : {T : Type 0} (before after : List Event) (e : Event) (xs ys : List (Site D))
        (r : Result T WorldFault)
        → after ≡ before ++ e ∷ [] → length before < MOST_EVENTS
        → Powered f (burns_by (world plan before) e) (cuts_by (world plan before) e) xs ys
        → SitesPower f plan who before after xs ys r
    sites_event before after e xs ys r more room p =
        subst (λ h. SitesPower f plan who before h xs ys r) (sym more)
        (event_of_power f plan (ids_on xs) who before e (disks_on xs) (disks_on ys) (fault_in r) room p.burns
        p.cuts)

    -- a fault is a fault
    pub sites_stopped : {T : Type 0} (Q : WorldFault → Type 0) (before after : List Event) (xs ys : List (Site D))
        (fault : Option WorldFault) (r : Result T WorldFault)
        → HavePowerOf f plan who before after fault (ids_on xs) (disks_on xs) (disks_on ys) → IsErrAnd r Q
        → SitesPower f plan who before after xs ys r
    sites_stopped Q before after xs ys fault r is refused =
        let p = is.power in
        record {
          power =
              record {
                burned = p.burned;
                cut = p.cut;
                burned_besides = p.burned_besides;
                cut_besides = p.cut_besides;
                fuses = p.fuses;
                powers = p.powers;
                burns = p.burns;
                cuts = p.cuts;
                one = p.one;
                fewer = p.fewer;
                whole = λ none. absurd (is_stopped Q r refused none);
                later = p.later;
                full = p.full;
              };
          whose = is.whose;
        }

    pub sites_then : {T : Type 0} (a b c : List Event) (xs ys zs : List (Site D)) (r : Result T WorldFault)
        → ids_at ys ≡ ids_at xs → SitesPower {T = Unit {0}} f plan who a b xs ys (Ok tt)
        → SitesPower f plan who b c ys zs r → SitesPower f plan who a c xs zs r
    sites_then a b c xs ys zs r same first next =
        then_of f plan (ids_on xs) who a b c (disks_on xs) (disks_on ys) (disks_on zs) (fault_in r) first
        (subst (λ (ids : List ℕ). HavePowerOf f plan who b c (fault_in r) ids (disks_on ys) (disks_on zs))
        (ap (filter_map (λ o. o)) same) next)

  -- the power was cut in no event
  pub sites_lost : {T : Type 0} (before after : List Event) (id : ℕ) (xs ys : List (Site D))
      (r : Result T WorldFault)
      → IsQuiet plan before after → length before < MOST_EVENTS → Powered f [] (id ∷ []) xs ys
      → (fault_in r ≡ None → MOST_EVENTS ≤ length after)
      → SitesPower f plan (id ∷ []) before after xs ys r
  sites_lost before after id xs ys r quiet room p full =
      besides_of f plan (ids_on xs) before after (disks_on xs) (disks_on ys) (fault_in r) id [] quiet room
      (inl refl) p.burns p.cuts (λ none. (refl, full none))

  -- at a fault
  pub sites_may_lose : {T : Type 0} (Q : WorldFault → Type 0) (before after : List Event) (id : ℕ)
      (xs ys : List (Site D)) (r : Result T WorldFault)
      → after ≡ before → length before < MOST_EVENTS → MayLosePower f id xs ys → IsErrAnd r Q
      → SitesPower f plan (id ∷ []) before after xs ys r
  sites_may_lose Q before after id xs ys r same room (inl none) refused =
      sites_still (id ∷ []) before after xs ys r same none
  sites_may_lose Q before after id xs ys r same room (inr (true, p)) refused =
      sites_lost before after id xs ys r (subst (IsQuiet plan before) (sym same) (quiet_same plan before)) room p
      (λ none. absurd (is_stopped Q r refused none))
  sites_may_lose Q before after id xs ys r same room (inr (false, p)) refused =
      besides_of f plan (ids_on xs) before after (disks_on xs) (disks_on ys) (fault_in r) id (id ∷ [])
      (subst (IsQuiet plan before) (sym same) (quiet_same plan before)) room (inr refl) p.burns p.cuts
      (λ none. absurd (is_stopped Q r refused none))

  -- a step was done, and then the power was cut: a crash, if there was room for it
  pub sites_done : (before mid after : List Event) (s : PeerStep) (id : ℕ) (xs ys : List (Site D))
      → mid ≡ before ++ events.Step s ∷ [] → after ≡ with_event mid (events.Crash id) → length before < MOST_EVENTS
      → Powered f [] (id ∷ []) xs ys
      → SitesPower {T = Unit {0}} f plan (id ∷ []) before after xs ys (Ok tt)
  sites_done before mid after s id xs ys step crash room p = by_room (nat_lt (length mid) MOST_EVENTS) refl crash
    where
      quiet : IsQuiet plan before mid
      quiet = subst (IsQuiet plan before) (sym step) (quiet_step plan before s)

      by_room : (b : Bool) → nat_lt (length mid) MOST_EVENTS ≡ b → after ≡ cond b (mid ++ events.Crash id ∷ []) mid
          → SitesPower {T = Unit {0}} f plan (id ∷ []) before after xs ys (Ok tt)
      by_room true more is =
          sites_then (id ∷ []) {T = Unit {0}} before mid after xs xs ys (Ok tt) refl
          (sites_quiet (id ∷ []) {T = Unit {0}} before mid xs xs (Ok tt) quiet (power_still f xs xs refl))
          (sites_event (id ∷ []) {T = Unit {0}} mid after (events.Crash id) xs ys (Ok tt) is
          (ltb-true (length mid) MOST_EVENTS more) p)
      by_room false full is =
          sites_lost {T = Unit {0}} before after id xs ys (Ok tt) (subst (IsQuiet plan before) (sym is) quiet) room p
          (λ none. subst (λ h. MOST_EVENTS ≤ length h) (sym is) (ltb-false (length mid) MOST_EVENTS full))

  -- a step was cut off
  pub sites_cut : (who : List ℕ) (before after : List Event) (s : PeerStep) (is_kept : Bool) (id : ℕ)
      (xs ys : List (Site D))
      → after ≡ before ++ events.Cut s is_kept ∷ [] → length before < MOST_EVENTS
      → id ≡ taker_of (world plan before).bag s → Powered f (id ∷ []) (id ∷ []) xs ys
      → SitesPower {T = Unit {0}} f plan who before after xs ys (Ok tt)
  sites_cut who before after s is_kept id xs ys more room taker p =
      sites_event who {T = Unit {0}} before after (events.Cut s is_kept) xs ys (Ok tt) more room
      (subst (λ (n : ℕ). Powered f (n ∷ []) (n ∷ []) xs ys) taker p)

-- The hosts' numbers and disks are those of the honest peers.

named : (peers : List PeerPlan) → filter_map (λ o. o) (map id_for peers) ≡ honest_ids peers
named [] = refl
named (p ∷ ps) = elim (cases_Bool p.corrupt) [
  | inl bad ↦ rw bad (named ps)
  | inr good ↦ rw good (ap (λ (ids : List ℕ). p.id ∷ ids) (named ps))
]

pub honest_power : {D : Type 0} (f : Face D) (plan : Plan) (who : List ℕ) (before after : List Event)
    (fault : Option WorldFault) (peers : List PeerPlan) (xs ys : List (Site D)) (rest : List D)
    → AreSites peers xs → ids_at ys ≡ ids_at xs
    → HavePowerOf f plan who before after fault (ids_on xs) (disks_on xs) (disks_on ys)
    → HavePowerOf f plan who before after fault (honest_ids peers) (honest_disks peers (disks_at xs ++ rest))
    (honest_disks peers (disks_at ys ++ rest))
honest_power f plan who before after fault peers xs ys rest are same p =
    subst
    (λ ds. HavePowerOf f plan who before after fault (honest_ids peers)
    (honest_disks peers (disks_at xs ++ rest)) ds) (sym (honest_back peers ys rest (same ∙ are)))
    (subst (λ ds. HavePowerOf f plan who before after fault (honest_ids peers) ds (disks_on ys))
    (sym (honest_back peers xs rest are))
    (subst (λ (ids : List ℕ). HavePowerOf f plan who before after fault ids (disks_on xs) (disks_on ys))
    (ap (filter_map (λ o. o)) are ∙ named peers) p))
