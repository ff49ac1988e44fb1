-- Sites: where a peer has its own, and what calls on the disks of honest peers are to all disks.
use Rattle.std.proofs.Common.{◌≡◌, ◌≤◌, ◌+◌, ◌∙◌, ap, sym, subst, ℕ, zero, suc, Bool, true, false, cond, eqb, inl}
use Rattle.std.proofs.Common.{inr, List, [], ◌∷◌, ◌++◌, length, get_or, refl, arith}
use Rattle.std.specs.Prelude.{Option, Some, None, map, reverse, slice_get, slice_set, MatchOption, option_map, Result}
use Rattle.std.specs.Prelude.{Ok, Err, IsErrOf}
use Rattle.std.specs.List.{position, position_from}
use Rattle.std.proofs.lemmas.Bool.{cases_Bool}
use Rattle.std.proofs.lemmas.Iterator.Adapters.{position_from-zero}
use Rattle.std.proofs.lemmas.List.{length-map, map-append, reverse-append, reverse-reverse}
use Rattle.std.proofs.lemmas.Option.{slice_get-get_or, slice_get-map}
use Rattle.lks_disk.specs.Counts.{Rose, raised}
use Rattle.lks_disk.specs.Face.{Face}
use Rattle.lks_base.specs.declared.entries.Entry.{Entry}
use Rattle.lks_base.specs.declared.plans.PeerPlan.{PeerPlan}
use Rattle.lks_base.specs.declared.plans.Plan.{Plan}
use Rattle.lks_base.specs.declared.records.Record.{Record}
use Rattle.lks_host.specs.declared.hosts.Host.{Host}
use Rattle.lks_law.specs.World.{Standing, peer_at, with_records}
use Rattle.lks_world.proofs.CountLaws.{some_is, untouched, counted_behind, counted_first}
use Rattle.lks_base.specs.declared.events.PeerStep.{PeerStep}
use Rattle.lks_host.specs.Cutting.{Falls}
use Rattle.lks_host.specs.Hosted.{StandsFor}
use Rattle.lks_host.specs.Journals.{journal_on}
use Rattle.lks_law.specs.Batches.{batches_at, with_batch}
use Rattle.lks_world.proofs.Fallen.{one_fell}
use Rattle.lks_world.proofs.HostLaws.{one_went_on}
use Rattle.lks_world.proofs.ServingLaws.{serves_none, serves_then, serves_unblamed}
use Rattle.lks_world.specs.Begun.{IsServed}
use Rattle.lks_world.specs.Counts.{fault_in, honest_ids, HasBurned, ServesHonest}
use Rattle.lks_world.specs.Disks.{honest_disks, corrupt_disks}
use Rattle.lks_world.specs.Held.{HoldsBatches, HaveBatches, HaveBatchesOrNext, with_next}
use Rattle.lks_world.specs.Hosts.{journal_in, peer_in, peers_of, disk_in, disks_of, with_added, GoesOn, HaveFallen}
use Rattle.lks_world.specs.Hosts.{HaveGoneOn, HasActed, IsAbsent}
use Rattle.lks_world.specs.Sites.{hosts_of, disk_at, disks_at, id_at, ids_at, is_site_of, id_for, AreSites, BurnsAt}
use Rattle.lks_world.specs.Sites.{Counted, StandsAt, disks_on, ids_on}
use Rattle.lks_world.specs.Endings.{BurnsOnce}
use Rattle.lks_world.specs.Powers.{raised_at}
use Rattle.lks_world.specs.States.{events_in, AreLeft, IsStateOf}
use Rattle.lks_world.specs.declared.faults.WorldFault.{WorldFault}
use Rattle.lks_world.specs.declared.faults.WorldFault.TheVariants.{Disk}
use Rattle.lks_world.specs.declared.sites.Site.{Site}
use Rattle.lks_world.specs.declared.sites.Site.TheVariants as site
use Rattle.lks_world.specs.declared.states.State.{State}

-- The first peer of a number.

at_front : (id : ℕ) (p : Standing) (rest : List Standing) → eqb p.own.id id ≡ true → peer_at id (p ∷ rest) ≡ Some p
unfolding peer_at
at_front id p rest e = rw e refl

added_front : (id : ℕ) (p : Standing) (rest : List Standing) (added : List Record) → eqb p.own.id id ≡ true
    → with_records id added (p ∷ rest) ≡ with_added p added ∷ rest
added_front id p rest added e = rw e refl

not_front : (id : ℕ) (p : Standing) (rest : List Standing) → eqb p.own.id id ≡ false
    → peer_at id (p ∷ rest) ≡ peer_at id rest
unfolding peer_at
not_front id p rest e = rw e refl

not_added : (id : ℕ) (p : Standing) (rest : List Standing) (added : List Record) → eqb p.own.id id ≡ false
    → with_records id added (p ∷ rest) ≡ p ∷ with_records id added rest
not_added id p rest added e = rw e refl

raised_front : (id i : ℕ) (ids : List ℕ) (n : ℕ) (counts : List ℕ) → eqb i id ≡ true
    → raised_at id (i ∷ ids) (n ∷ counts) ≡ raised n ∷ counts
raised_front id i ids n counts e = rw e refl

not_raised : (id i : ℕ) (ids : List ℕ) (n : ℕ) (counts : List ℕ) → eqb i id ≡ false
    → raised_at id (i ∷ ids) (n ∷ counts) ≡ n ∷ raised_at id ids counts
not_raised id i ids n counts e = rw e refl

none_at : (id : ℕ) → peer_at id [] ≡ None
unfolding peer_at
none_at id = refl

module _ {D : Type 0} (f : Face D) (id : ℕ) where
  stands_first : (s : Site D) (ss : List (Site D)) → is_site_of id s ≡ true → StandsAt f id (s ∷ ss) 0
  stands_first (site.Idle d) ss is = absurd cc
  stands_first (site.Host h) ss is = record {
    host = h;
    rank = 0;
    within = omega arith;
    there = refl;
    ranked = refl;
    found = at_front id (peer_in f h) (peers_of f (hosts_of ss)) is;
    sets = λ k. refl;
    raises =
        λ count k up. ap (λ (n : ℕ). n ∷ map count (disks_on ss)) up
        ∙ sym (raised_front id h.peer.own.id (ids_on ss) (count (disk_in h)) (map count (disks_on ss)) is);
    added =
        λ rs k grown. ap (λ (p : Standing). p ∷ peers_of f (hosts_of ss)) grown
        ∙ sym (added_front id (peer_in f h) (peers_of f (hosts_of ss)) rs is);
    grown = λ rs. ap (journal_in 0) (added_front id (peer_in f h) (peers_of f (hosts_of ss)) rs is);
  }

  stands_behind : (s : Site D) (ss : List (Site D)) (place : ℕ) → is_site_of id s ≡ false → StandsAt f id ss place
      → StandsAt f id (s ∷ ss) (suc place)
  stands_behind (site.Idle d) ss place other st = record {
    host = st.host;
    rank = st.rank;
    within = omega (arith, st.within);
    there = st.there;
    ranked = st.ranked;
    found = st.found;
    sets = st.sets;
    raises = st.raises;
    added = st.added;
    grown = st.grown;
  }
  stands_behind (site.Host h) ss place other st = record {
    host = st.host;
    rank = suc st.rank;
    within = omega (arith, st.within);
    there = st.there;
    ranked = st.ranked;
    found = not_front id (peer_in f h) (peers_of f (hosts_of ss)) other ∙ st.found;
    sets = λ k. ap (λ (hs : List (Host D)). h ∷ hs) (st.sets k);
    raises =
        λ count k up. ap (λ (ns : List ℕ). count (disk_in h) ∷ ns) (st.raises count k up)
        ∙ sym (not_raised id h.peer.own.id (ids_on ss) (count (disk_in h)) (map count (disks_on ss)) other);
    added =
        λ rs k grown. ap (λ (ps : List Standing). peer_in f h ∷ ps) (st.added rs k grown)
        ∙ sym (not_added id (peer_in f h) (peers_of f (hosts_of ss)) rs other);
    grown =
        λ rs. ap (journal_in (suc st.rank)) (not_added id (peer_in f h) (peers_of f (hosts_of ss)) rs other)
        ∙ st.grown rs;
  }

  -- no count of a peer rises who isn't there
  pub raised_none : (sites : List (Site D)) (counts : List ℕ) → peer_at id (peers_of f (hosts_of sites)) ≡ None
      → raised_at id (ids_on sites) counts ≡ counts
  raised_none [] counts none = refl
  raised_none (site.Idle d ∷ ss) counts none = raised_none ss counts none
  raised_none (site.Host h ∷ ss) [] none = refl
  raised_none (site.Host h ∷ ss) (n ∷ counts) none = elim (cases_Bool (eqb h.peer.own.id id)) [
    | inl is ↦ let both : Some (peer_in f h)
        ≡ None = sym (at_front id (peer_in f h) (peers_of f (hosts_of ss)) is) ∙ none in absurd cc
    | inr other ↦
        not_raised id h.peer.own.id (ids_on ss) n counts other
        ∙ ap (λ (ns : List ℕ). n ∷ ns)
        (raised_none ss counts (sym (not_front id (peer_in f h) (peers_of f (hosts_of ss)) other) ∙ none))
  ]

  absent_behind : (s : Site D) (ss : List (Site D)) → is_site_of id s ≡ false
      → IsAbsent id (peers_of f (hosts_of ss)) → IsAbsent id (peers_of f (hosts_of (s ∷ ss)))
  absent_behind (site.Idle d) ss other absent = absent
  absent_behind (site.Host h) ss other absent = record {
    none = not_front id (peer_in f h) (peers_of f (hosts_of ss)) other ∙ absent.none;
    same =
        λ rs. not_added id (peer_in f h) (peers_of f (hosts_of ss)) rs other
        ∙ ap (λ (ps : List Standing). peer_in f h ∷ ps) (absent.same rs);
  }

  record Stands (sites : List (Site D)) (i place : ℕ) : Type 0 where
    k : ℕ
    is : place ≡ i + k
    stands : StandsAt f id sites k

  stands_from : (sites : List (Site D)) (i place : ℕ) → position_from (is_site_of id) i sites ≡ Some place
      → Stands sites i place
  stands_from [] i place e = absurd cc
  stands_from (s ∷ ss) i place e = by_test (is_site_of id s) refl e (stands_from ss (i + 1) place)
    where
      by_test : (b : Bool) → is_site_of id s ≡ b
          → cond b (Some i) (position_from (is_site_of id) (i + 1) ss) ≡ Some place
          → (position_from (is_site_of id) (i + 1) ss ≡ Some place → Stands ss (i + 1) place) → Stands (s ∷ ss) i place
      by_test true is e later =
          let same : i ≡ place = some_is e in
          record { k = 0; is = omega (arith, same); stands = stands_first s ss is }
      by_test false is e later =
          let rest = later e in
          record {
            k = suc rest.k;
            is = omega (arith, rest.is);
            stands = stands_behind s ss rest.k is rest.stands;
          }

  absent_from : (sites : List (Site D)) (i : ℕ) → position_from (is_site_of id) i sites ≡ None
      → IsAbsent id (peers_of f (hosts_of sites))
  absent_from [] i e = record { none = none_at id; same = λ rs. refl }
  absent_from (s ∷ ss) i e = by_test (is_site_of id s) refl e (absent_from ss (i + 1))
    where
      by_test : (b : Bool) → is_site_of id s ≡ b → cond b (Some i) (position_from (is_site_of id) (i + 1) ss) ≡ None
          → (position_from (is_site_of id) (i + 1) ss ≡ None → IsAbsent id (peers_of f (hosts_of ss)))
          → IsAbsent id (peers_of f (hosts_of (s ∷ ss)))
      by_test true is e later = absurd cc
      by_test false is e later = absent_behind s ss is (later e)

  -- the first site of a peer's number is its own
  pub place_is : (sites : List (Site D)) (r : Option ℕ) → r ≡ position (is_site_of id) sites
      → MatchOption r (IsAbsent id (peers_of f (hosts_of sites))) (StandsAt f id sites)
  place_is sites None e = absent_from sites 0 (sym (e ∙ position_from-zero (is_site_of id) sites))
  place_is sites (Some place) e =
      let st = stands_from sites 0 place (sym (e ∙ position_from-zero (is_site_of id) sites)) in
      let same : st.k ≡ place = omega (arith, st.is) in
      subst (StandsAt f id sites) same st.stands

-- the host h of the peer is on its site
pub record ActsAt {D : Type 0} (f : Face D) (id : ℕ) (sites : List (Site D)) (place : ℕ) (h : Host D) : Type 0 where
  pub stands : StandsAt f id sites place
  pub is : stands.host ≡ h

module _ {D : Type 0} (f : Face D) (id : ℕ) (found sites : List (Site D)) (place : ℕ) (s : Site D)
    (same : found ≡ sites) (stands : StandsAt f id found place) (is : s ≡ get_or sites place s) where
  site_read : slice_get sites place ≡ Some s
  site_read = slice_get-get_or sites place s (omega (arith, stands.within, ap length same)) ∙ ap Some (sym is)

  stands_same : StandsAt f id sites place
  stands_same = subst (λ (ss : List (Site D)). StandsAt f id ss place) same stands

  pub acts_at : (h : Host D) → s ≡ site.Host h → ActsAt f id sites place h
  acts_at h as_host =
      let both : Some (site.Host stands_same.host)
      ≡ Some (site.Host h) = sym stands_same.there ∙ site_read ∙ ap Some as_host in
      record { stands = stands_same; is = cc }

  pub never_idle : (d : D) → s ≡ site.Idle d → ⊥
  never_idle d as_idle =
      let both : Some (site.Host stands_same.host)
      ≡ Some (site.Idle d) = sym stands_same.there ∙ site_read ∙ ap Some as_idle in
      cc

module _ {D : Type 0} (f : Face D) (id : ℕ) (sites : List (Site D)) (place : ℕ) (h : Host D)
    (acts : ActsAt f id sites place h) where
  pub acts_there : slice_get sites place ≡ Some (site.Host h)
  acts_there = acts.stands.there ∙ ap (λ (x : Host D). Some (site.Host x)) acts.is

  pub acts_ranked : slice_get (hosts_of sites) acts.stands.rank ≡ Some h
  acts_ranked = acts.stands.ranked ∙ ap Some acts.is

  pub acts_found : peer_at id (peers_of f (hosts_of sites)) ≡ Some (peer_in f h)
  acts_found = acts.stands.found ∙ ap (λ (x : Host D). Some (peer_in f x)) acts.is

  pub acts_added : (added : List Record) (k : Host D) → peer_in f k ≡ with_added (peer_in f h) added
      → peers_of f (hosts_of (slice_set sites place (site.Host k)))
      ≡ with_records id added (peers_of f (hosts_of sites))
  acts_added added k grown =
      acts.stands.added added k (grown ∙ ap (λ (x : Host D). with_added (peer_in f x) added) (sym acts.is))

  pub acts_on : (k : Host D) → GoesOn f h k
      → HaveGoneOn f (hosts_of sites) (hosts_of (slice_set sites place (site.Host k)))
  acts_on k on =
      subst (HaveGoneOn f (hosts_of sites)) (sym (acts.stands.sets k))
      (one_went_on f (hosts_of sites) acts.stands.rank h k acts_ranked on)

  pub acts_fell : (added : List Record) (k : Host D)
      → ((batches : List (List Record)) → StandsFor f h batches
      → Falls f batches (with_batch batches added) k.journal.disk)
      → HaveFallen f (hosts_of sites) (with_records id added (peers_of f (hosts_of sites)))
      (hosts_of (slice_set sites place (site.Host k)))
  acts_fell added k fell =
      let peers = with_records id added (peers_of f (hosts_of sites)) in
      let grown : journal_in acts.stands.rank peers
      ≡ journal_on f h.journal.disk ++ added = acts.stands.grown added
      ∙ ap (λ (x : Host D). journal_on f x.journal.disk ++ added) acts.is in
      subst (HaveFallen f (hosts_of sites) peers) (sym (acts.stands.sets k))
      (one_fell f (hosts_of sites) peers acts.stands.rank h k added acts_ranked grown fell)

-- Whose site it is.

pub record IsHonest (p : PeerPlan) (id : ℕ) : Type 0 where
  pub good : p.corrupt ≡ false
  pub named : p.id ≡ id

pub honest_site : (p : PeerPlan) (id : ℕ) → Some id ≡ id_for p → IsHonest p id
honest_site p id is = by_kind p.corrupt refl is
  where
    by_kind : (b : Bool) → p.corrupt ≡ b → Some id ≡ cond b None (Some p.id) → IsHonest p id
    by_kind true bad is = absurd cc
    by_kind false good is = record { good = good; named = some_is (sym is) }

pub corrupt_site : (p : PeerPlan) → None ≡ id_for p → p.corrupt ≡ true
corrupt_site p is = by_kind p.corrupt refl is
  where
    by_kind : (b : Bool) → p.corrupt ≡ b → None ≡ cond b None (Some p.id) → p.corrupt ≡ true
    by_kind true bad is = bad
    by_kind false good is = absurd cc

-- the disks of honest peers are those of the hosts
pub honest_back : {D : Type 0} (peers : List PeerPlan) (sites : List (Site D)) (rest : List D)
    → AreSites peers sites → honest_disks peers (disks_at sites ++ rest) ≡ disks_of (hosts_of sites)
honest_back [] [] rest are = refl
honest_back [] (s ∷ ss) rest are = absurd cc
honest_back (p ∷ ps) [] rest are = absurd cc
honest_back (p ∷ ps) (site.Host h ∷ ss) rest are =
    let first : Some h.peer.own.id ≡ id_for p = cc in
    let others : ids_at ss ≡ map id_for ps = cc in
    rw (honest_site p h.peer.own.id first).good (ap (λ ds. disk_in h ∷ ds) (honest_back ps ss rest others))
honest_back (p ∷ ps) (site.Idle d ∷ ss) rest are =
    let first : None ≡ id_for p = cc in
    let others : ids_at ss ≡ map id_for ps = cc in
    rw (corrupt_site p first) (honest_back ps ss rest others)

-- the disks that were put behind the others, last first, stand first where all are turned round
pub turned_back : {D : Type 0} (sites : List (Site D)) (rest : List D)
    → reverse (rest ++ reverse (disks_at sites)) ≡ disks_at sites ++ reverse rest
turned_back sites rest =
    reverse-append rest (reverse (disks_at sites))
    ∙ ap (λ ds. ds ++ reverse rest) (reverse-reverse (disks_at sites))

-- a crash leaves of them what it leaves of their hosts' disks
pub disks_left : {D : Type 0} (f : Face D) (plan : Plan) (next : Option PeerStep) (s : State D) (rest : List D)
    → AreLeft f plan next s → AreSites plan.peers s.sites.items
    → HaveBatchesOrNext f plan (events_in s) next (disks_at s.sites.items ++ rest)
disks_left {D = D} f plan next s rest left are place disk at =
    let hosts = hosts_of s.sites.items in
    let there : option_map disk_in (slice_get hosts place) ≡ Some disk =
    sym (slice_get-map disk_in hosts place)
    ∙ ap (λ ds. slice_get ds place) (sym (honest_back plan.peers s.sites.items rest are)) ∙ at in
    by_host (slice_get hosts place) refl there
  where
    by_host : (o : Option (Host D)) → slice_get (hosts_of s.sites.items) place ≡ o
        → option_map disk_in o ≡ Some disk
        → Falls f (batches_at place plan (events_in s)) (batches_at place plan (with_next (events_in s) next)) disk
    by_host None e there = absurd cc
    by_host (Some h) e there =
        let same : disk_in h ≡ disk = some_is there in
        subst (Falls f (batches_at place plan (events_in s)) (batches_at place plan (with_next (events_in s) next)))
        same (left place h e)

-- the disks hold what their hosts stand for
pub disks_hold : {D : Type 0} (f : Face D) (plan : Plan) (s : State D) (rest : List D) → IsStateOf f plan s
    → AreSites plan.peers s.sites.items → HaveBatches f plan (events_in s) (disks_at s.sites.items ++ rest)
disks_hold {D = D} f plan s rest is are place disk at =
    let hosts = hosts_of s.sites.items in
    let there : option_map disk_in (slice_get hosts place) ≡ Some disk =
    sym (slice_get-map disk_in hosts place)
    ∙ ap (λ ds. slice_get ds place) (sym (honest_back plan.peers s.sites.items rest are)) ∙ at in
    by_host (slice_get hosts place) refl there
  where
    by_host : (o : Option (Host D)) → slice_get (hosts_of s.sites.items) place ≡ o
        → option_map disk_in o ≡ Some disk → HoldsBatches f plan (events_in s) place disk
    by_host None e there = absurd cc
    by_host (Some h) e there =
        let host = is.hosts place h e in
        let same : disk_in h ≡ disk = some_is there in
        let count : length (events_in s)
        ≡ length s.history.items = length-map s.history.items (λ (e : Entry). e.event) in
        subst (HoldsBatches f plan (events_in s) place) same (record {
          holds = host.stands.disk.holds;
          durable = host.stands.disk.durable;
          read = host.stands.read;
          room = omega (arith, host.room, host.stands.disk.end, count);
        })

module _ {D : Type 0} (f : Face D) where
  serves_behind : (p : PeerPlan) (ps : List PeerPlan) (x : D) (xs ys : List D) (fault : Option WorldFault)
      → ServesHonest f ps xs ys fault → ServesHonest f (p ∷ ps) (x ∷ xs) (x ∷ ys) fault
  serves_behind p ps x xs ys fault served =
      elim (cases_Bool p.corrupt) [
        | inl bad
            ↦ record {
              count = ap suc served.count;
              corrupt = rw bad (ap (λ ds. x ∷ ds) served.corrupt);
              rest = served.rest;
              honest = rw bad served.honest;
            }
        | inr good ↦ record {
          count = ap suc served.count;
          corrupt = rw good served.corrupt;
          rest = served.rest;
          honest =
              rw good
              (counted_behind f (honest_ids ps) p.id x (honest_disks ps xs) (honest_disks ps ys) fault
              served.honest);
        }
      ]

  -- what was done to one disk
  serves_one : (p : PeerPlan) (ps : List PeerPlan) (d e : D) (xs : List D) (fault : Option WorldFault)
      → IsServed f p d e fault → ServesHonest f (p ∷ ps) (d ∷ xs) (e ∷ xs) fault
  serves_one p ps d e xs fault served =
      elim (cases_Bool p.corrupt) [
        | inl bad ↦
            let idle = served.idle bad in record {
              count = refl;
              corrupt = rw bad (ap (λ y. y ∷ corrupt_disks ps xs) idle.0);
              rest = refl;
              honest =
                  rw bad
                  (untouched f (honest_ids ps) (honest_disks ps xs) fault
                  (λ id is. let none : None ≡ Some (Disk id) = sym idle.1 ∙ is in absurd cc));
            }
        | inr good ↦ record {
          count = refl;
          corrupt = rw good refl;
          rest = refl;
          honest =
              rw good
              (counted_first f (honest_ids ps) p.id d e (honest_disks ps xs) fault served.fuse served.later
              served.cause);
        }
      ]

  -- the same where the sites before it are taken
  pub serves_next : (ps qs : List PeerPlan) (p : PeerPlan) (sites : List (Site D)) (d e : D) (rest : List D)
      (fault : Option WorldFault)
      → AreSites ps sites → IsServed f p d e fault
      → ServesHonest f (ps ++ p ∷ qs) (disks_at sites ++ d ∷ rest) (disks_at sites ++ e ∷ rest) fault
  serves_next [] qs p [] d e rest fault are served = serves_one p qs d e rest fault served
  serves_next [] qs p (s ∷ ss) d e rest fault are served = absurd cc
  serves_next (q ∷ ps) qs p [] d e rest fault are served = absurd cc
  serves_next (q ∷ ps) qs p (s ∷ ss) d e rest fault are served =
      let others : ids_at ss ≡ map id_for ps = cc in
      serves_behind q (ps ++ p ∷ qs) (disk_at s) (disks_at ss ++ d ∷ rest) (disks_at ss ++ e ∷ rest) fault
      (serves_next ps qs p ss d e rest fault others served)

  -- one host made its calls
  module _ (h k : Host D) (fault : Option WorldFault) (fuse : f.fused (disk_in k) ≡ f.fused (disk_in h))
      (later : f.faults (disk_in h) ≤ f.faults (disk_in k))
      (cause : (id : ℕ) → fault ≡ Some (Disk id)
      → (h.peer.own.id ≡ id) × Rose (f.faults (disk_in h)) (f.faults (disk_in k))) where
    served_as : (p : PeerPlan) → IsHonest p h.peer.own.id → IsServed f p (disk_in h) (disk_in k) fault
    served_as p is = record {
      fuse = fuse;
      later = later;
      cause = λ id blamed. let c = cause id blamed in (is.named ∙ c.0, c.1);
      idle = λ bad. let both : true ≡ false = sym bad ∙ is.good in absurd cc;
    }

    serves_at : (peers : List PeerPlan) (sites : List (Site D)) (place : ℕ) (rest : List D) → AreSites peers sites
        → slice_get sites place ≡ Some (site.Host h)
        → ServesHonest f peers (disks_at sites ++ rest) (disks_at (slice_set sites place (site.Host k)) ++ rest) fault
    serves_at peers [] place rest are at = absurd cc
    serves_at [] (s ∷ ss) place rest are at = absurd cc
    serves_at (p ∷ ps) (site.Idle d ∷ ss) zero rest are at = absurd cc
    serves_at (p ∷ ps) (site.Host x ∷ ss) zero rest are at =
        let same : h ≡ x = cc in
        let first : Some x.peer.own.id ≡ id_for p = cc in
        let named : Some h.peer.own.id ≡ id_for p = ap (λ (y : Host D). Some y.peer.own.id) same ∙ first in
        serves_one p ps (disk_in x) (disk_in k) (disks_at ss ++ rest) fault
        (subst (λ (y : Host D). IsServed f p (disk_in y) (disk_in k) fault) same
        (served_as p (honest_site p h.peer.own.id named)))
    serves_at (p ∷ ps) (s ∷ ss) (suc place) rest are at =
        let others : ids_at ss ≡ map id_for ps = cc in
        serves_behind p ps (disk_at s) (disks_at ss ++ rest) (disks_at (slice_set ss place (site.Host k)) ++ rest)
        fault (serves_at ps ss place rest others at)

    set-ids : (sites : List (Site D)) (place : ℕ) → slice_get sites place ≡ Some (site.Host h)
        → k.peer.own.id ≡ h.peer.own.id → ids_at (slice_set sites place (site.Host k)) ≡ ids_at sites
    set-ids [] place at same = refl
    set-ids (s ∷ ss) zero at same =
        let first : site.Host h ≡ s = cc in ap (λ (o : Option ℕ). o ∷ ids_at ss) (ap Some same ∙ ap id_at first)
    set-ids (s ∷ ss) (suc place) at same = ap (λ os. id_at s ∷ os) (set-ids ss place at same)

    set-fuses : (sites : List (Site D)) (place : ℕ) → slice_get sites place ≡ Some (site.Host h)
        → map f.fused (disks_at (slice_set sites place (site.Host k))) ≡ map f.fused (disks_at sites)
    set-fuses [] place at = refl
    set-fuses (s ∷ ss) zero at =
        let first : site.Host h ≡ s = cc in
        ap (λ b. b ∷ map f.fused (disks_at ss)) (fuse ∙ ap (λ (y : Site D). f.fused (disk_at y)) first)
    set-fuses (s ∷ ss) (suc place) at = ap (λ bs. f.fused (disk_at s) ∷ bs) (set-fuses ss place at)

  burned_behind : (calls choice : ℕ) (p : PeerPlan) (ps : List PeerPlan) (x : D) (xs ys : List D) (id : ℕ)
      → HasBurned f (honest_ids ps) calls choice (honest_disks ps xs) (honest_disks ps ys) id
      → HasBurned f (honest_ids (p ∷ ps)) calls choice (honest_disks (p ∷ ps) (x ∷ xs))
      (honest_disks (p ∷ ps) (x ∷ ys)) id
  burned_behind calls choice p ps x xs ys id burned =
      elim (cases_Bool p.corrupt) [
        | inl bad ↦ record {
          place = burned.place;
          disk = burned.disk;
          now = burned.now;
          named = rw bad burned.named;
          there = rw bad burned.there;
          stays = rw bad burned.stays;
          rose = burned.rose;
          allowed = burned.allowed;
          chosen = burned.chosen;
        }
        | inr good ↦ record {
          place = suc burned.place;
          disk = burned.disk;
          now = burned.now;
          named = rw good burned.named;
          there = rw good burned.there;
          stays = rw good burned.stays;
          rose = burned.rose;
          allowed = burned.allowed;
          chosen = burned.chosen;
        }
      ]

  -- a fuse burned on the disk of one host
  module _ (h k : Host D) (calls choice : ℕ) (once : BurnsOnce f calls choice (disk_in h) (disk_in k)) where
    burned_at : (peers : List PeerPlan) (sites : List (Site D)) (place : ℕ) (rest : List D) → AreSites peers sites
        → slice_get sites place ≡ Some (site.Host h)
        → HasBurned f (honest_ids peers) calls choice (honest_disks peers (disks_at sites ++ rest))
        (honest_disks peers (disks_at (slice_set sites place (site.Host k)) ++ rest)) h.peer.own.id
    burned_at peers [] place rest are at = absurd cc
    burned_at [] (s ∷ ss) place rest are at = absurd cc
    burned_at (p ∷ ps) (site.Idle d ∷ ss) zero rest are at = absurd cc
    burned_at (p ∷ ps) (site.Host x ∷ ss) zero rest are at =
        let same : h ≡ x = cc in
        let first : Some x.peer.own.id ≡ id_for p = cc in
        let is = honest_site p h.peer.own.id (ap (λ (y : Host D). Some y.peer.own.id) same ∙ first) in
        record {
          place = 0;
          disk = disk_in h;
          now = disk_in k;
          named = rw is.good (ap Some is.named);
          there = rw is.good (ap (λ (y : Host D). Some (disk_in y)) (sym same));
          stays = rw is.good refl;
          rose = once.rose;
          allowed = once.allowed;
          chosen = once.chosen;
        }
    burned_at (p ∷ ps) (s ∷ ss) (suc place) rest are at =
        let others : ids_at ss ≡ map id_for ps = cc in
        burned_behind calls choice p ps (disk_at s) (disks_at ss ++ rest)
        (disks_at (slice_set ss place (site.Host k)) ++ rest) h.peer.own.id
        (burned_at ps ss place rest others at)

    pub burns_one : (id : ℕ) (sites : List (Site D)) (place : ℕ) → slice_get sites place ≡ Some (site.Host h)
        → h.peer.own.id ≡ id → BurnsAt f calls choice id sites (slice_set sites place (site.Host k))
    burns_one id sites place at same peers rest are =
        subst
        (HasBurned f (honest_ids peers) calls choice (honest_disks peers (disks_at sites ++ rest))
        (honest_disks peers (disks_at (slice_set sites place (site.Host k)) ++ rest))) same
        (burned_at peers sites place rest are at)

  blames : {T : Type 0} (id : ℕ) (result : Result T WorldFault) → fault_in result ≡ Some (Disk id)
      → IsErrOf result (Disk id)
  blames id (Ok x) is = absurd cc
  blames id (Err fault) is = ap Err (some_is is)

  pub counted_one : {T : Type 0} (sites : List (Site D)) (place : ℕ) (h k : Host D) (result : Result T WorldFault)
      → slice_get sites place ≡ Some (site.Host h) → HasActed f h k result
      → Counted f sites (slice_set sites place (site.Host k)) result
  counted_one sites place h k result there acted =
      let blamed : (id : ℕ) → fault_in result ≡ Some (Disk id)
      → (h.peer.own.id ≡ id)
      × Rose (f.faults (disk_in h)) (f.faults (disk_in k)) = λ id is. acted.cause id (blames id result is)
      in record {
        ids =
            set-ids h k (fault_in result) acted.fuse acted.later blamed sites place there
            (ap (λ own. own.id) acted.own);
        fuses = set-fuses h k (fault_in result) acted.fuse acted.later blamed sites place there;
        serves =
            λ peers rest are. serves_at h k (fault_in result) acted.fuse acted.later blamed peers sites place rest
            are there;
      }

  -- no call was made
  pub counted_same : {T : Type 0} (sites : List (Site D)) (result : Result T WorldFault)
      → ((id : ℕ) → IsErrOf result (Disk id) → ⊥) → Counted f sites sites result
  counted_same sites result none = record {
    ids = refl;
    fuses = refl;
    serves =
        λ peers rest are. serves_none f peers (disks_at sites ++ rest) (fault_in result)
        (λ id is. none id (blames id result is));
  }

  pub counted_start : (sites : List (Site D)) → Counted {T = Unit {0}} f sites sites (Ok tt)
  counted_start sites = counted_same {T = Unit {0}} sites (Ok tt) (λ id is. cc)

  -- calls after calls
  pub counted_then : {S T : Type 0} (xs ys zs : List (Site D)) (before : Result S WorldFault)
      (result : Result T WorldFault)
      → Counted f xs ys before → Counted f ys zs result → Counted f xs zs result
  counted_then xs ys zs before result first next = record {
    ids = next.ids ∙ first.ids;
    fuses = next.fuses ∙ first.fuses;
    serves = λ peers rest are.
        serves_then f peers (disks_at xs ++ rest) (disks_at ys ++ rest) (disks_at zs ++ rest) (fault_in result)
        (serves_unblamed f peers (disks_at xs ++ rest) (disks_at ys ++ rest) (fault_in before)
        (first.serves peers rest are))
        (next.serves peers rest (first.ids ∙ are));
  }

  -- the fuses of all disks
  pub fuses_joined : (xs ys rest : List D) → map f.fused ys ≡ map f.fused xs
      → map f.fused (ys ++ rest) ≡ map f.fused (xs ++ rest)
  fuses_joined xs ys rest same =
      map-append f.fused ys rest ∙ ap (λ bs. bs ++ map f.fused rest) same ∙ sym (map-append f.fused xs rest)
