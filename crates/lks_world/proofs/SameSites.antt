-- What is left of a world beside which jobs were made and hashed: all but the places that its hosts told.
use Rattle.std.proofs.Common.{◌≡◌, ◌∙◌, ap, sym, subst, refl, ℕ, zero, suc, get_or, List, [], ◌∷◌, ◌++◌}
use Rattle.std.specs.Prelude.{Option, Some, None, map, option_map, slice_get, slice_set, Result, IsErrOf}
use Rattle.std.proofs.lemmas.List.Elements.{All-cons, All-head, All-nil, All-tail}
use Rattle.std.proofs.lemmas.Option.{slice_get-map}
use Rattle.lks_base.specs.declared.events.Due.{Due}
use Rattle.lks_base.specs.declared.plans.Plan.{Plan}
use Rattle.lks_base.specs.declared.records.Record.{Record}
use Rattle.lks_disk.specs.Face.{Face}
use Rattle.lks_outside.specs.declared.questions.Question.{Question}
use Rattle.lks_host.specs.declared.hosts.Host.{Host}
use Rattle.lks_base.specs.declared.events.Event.{Event}
use Rattle.lks_law.specs.Histories.{MayHappen}
use Rattle.lks_law.specs.Questions.{event_of, questions}
use Rattle.lks_law.specs.World.{Standing, World, world}
use Rattle.lks_watch.specs.declared.watches.Watch.{Watch}
use Rattle.lks_world.proofs.SiteLaws.{counted_same}
use Rattle.lks_world.specs.Beside.{without_places, unplaced_at, ArePooled, AreSameSites, IsPooled}
use Rattle.lks_world.specs.Counts.{fault_in, ServesHonest}
use Rattle.lks_world.specs.Doable.{IsDoable}
use Rattle.lks_world.specs.Hosts.{disks_of, peer_in, peers_of, IsHostAt}
use Rattle.lks_world.specs.Sites.{disks_at, disks_on, hosts_of, ids_at, Counted, Powered}
use Rattle.lks_world.specs.States.{IsStateOf, events_in}
use Rattle.lks_law.specs.Questions.{OwnAsksNothing}
use Rattle.lks_world.specs.declared.faults.WorldFault.{WorldFault}
use Rattle.lks_world.specs.declared.faults.WorldFault.TheVariants.{Disk}
use Rattle.lks_world.specs.declared.sites.Site.{Site}
use Rattle.lks_world.specs.declared.sites.Site.TheVariants as site
use Rattle.lks_world.specs.declared.states.State.{State}

-- what option_map gave was made of something
from_map : {A B : Type 0} (g : A → B) (o : Option A) (y : B) → option_map g o ≡ Some y
    → (x : A) × (o ≡ Some x) × (g x ≡ y)
from_map g None y is = absurd cc
from_map g (Some x) y is = (x, refl, cc)

module _ {D : Type 0} where
  ids_plain : (ss : List (Site D)) → ids_at (map unplaced_at ss) ≡ ids_at ss
  ids_plain [] = refl
  ids_plain (site.Host h ∷ ss) = ap (λ ids. Some h.peer.own.id ∷ ids) (ids_plain ss)
  ids_plain (site.Idle d ∷ ss) = ap (λ ids. None ∷ ids) (ids_plain ss)

  disks_plain : (ss : List (Site D)) → disks_at (map unplaced_at ss) ≡ disks_at ss
  disks_plain [] = refl
  disks_plain (site.Host h ∷ ss) = ap (λ ds. h.journal.disk ∷ ds) (disks_plain ss)
  disks_plain (site.Idle d ∷ ss) = ap (λ ds. d ∷ ds) (disks_plain ss)

  hosts_plain : (ss : List (Site D)) → hosts_of (map unplaced_at ss) ≡ map without_places (hosts_of ss)
  hosts_plain [] = refl
  hosts_plain (site.Host h ∷ ss) = ap (λ hs. without_places h ∷ hs) (hosts_plain ss)
  hosts_plain (site.Idle d ∷ ss) = hosts_plain ss

  disks_still : (hs : List (Host D)) → disks_of (map without_places hs) ≡ disks_of hs
  disks_still [] = refl
  disks_still (h ∷ hs) = ap (λ ds. h.journal.disk ∷ ds) (disks_still hs)

  peers_still : (f : Face D) (hs : List (Host D)) → peers_of f (map without_places hs) ≡ peers_of f hs
  peers_still f [] = refl
  peers_still f (h ∷ hs) = ap (λ (ps : List Standing). peer_in f h ∷ ps) (peers_still f hs)

  -- the hosts of sites that are the same
  hosts_same : (xs ys : List (Site D)) → AreSameSites xs ys
      → map without_places (hosts_of ys) ≡ map without_places (hosts_of xs)
  hosts_same xs ys same = sym (hosts_plain ys) ∙ ap hosts_of same ∙ hosts_plain xs

  pub same_ids : (xs ys : List (Site D)) → AreSameSites xs ys → ids_at ys ≡ ids_at xs
  same_ids xs ys same = sym (ids_plain ys) ∙ ap ids_at same ∙ ids_plain xs

  pub same_disks : (xs ys : List (Site D)) → AreSameSites xs ys → disks_at ys ≡ disks_at xs
  same_disks xs ys same = sym (disks_plain ys) ∙ ap disks_at same ∙ disks_plain xs

  same_on : (xs ys : List (Site D)) → AreSameSites xs ys → disks_on ys ≡ disks_on xs
  same_on xs ys same = sym (disks_still (hosts_of ys)) ∙ ap disks_of (hosts_same xs ys same) ∙ disks_still (hosts_of xs)

  -- a host that was there
  same_host : (xs ys : List (Site D)) → AreSameSites xs ys → (place : ℕ) (k : Host D)
      → slice_get (hosts_of ys) place ≡ Some k
      → (h : Host D) × (slice_get (hosts_of xs) place ≡ Some h) × (without_places h ≡ without_places k)
  same_host xs ys same place k there =
      from_map without_places (slice_get (hosts_of xs) place) (without_places k)
      (sym (slice_get-map without_places (hosts_of xs) place)
      ∙ ap (λ hs. slice_get hs place) (sym (hosts_same xs ys same)) ∙ slice_get-map without_places (hosts_of ys) place
      ∙ ap (option_map without_places) there)

  -- one of the sites
  pub same_set : (xs : List (Site D)) (i : ℕ) (s t : Site D) → s ≡ get_or xs i s → unplaced_at t ≡ unplaced_at s
      → AreSameSites xs (slice_set xs i t)
  same_set [] i s t is same = refl
  same_set (x ∷ xs) zero s t is same = ap (λ u. u ∷ map unplaced_at xs) (same ∙ ap unplaced_at is)
  same_set (x ∷ xs) (suc i) s t is same = ap (λ us. unplaced_at x ∷ us) (same_set xs i s t is same)

  -- whoever is hosted there has its blocks in the pool
  pub pooled_each : (pool : List ℕ) (ss : List (Site D))
      → ((place : ℕ) (h : Host D) → slice_get (hosts_of ss) place ≡ Some h → h.peer.pool ≡ pool) → ArePooled pool ss
  pooled_each pool [] each = All-nil (IsPooled pool)
  pooled_each pool (site.Host h ∷ ss) each =
      All-cons (IsPooled pool) (site.Host h) ss (each 0 h refl)
      (pooled_each pool ss (λ place k there. each (suc place) k there))
  pooled_each pool (site.Idle d ∷ ss) each = All-cons (IsPooled pool) (site.Idle d) ss tt (pooled_each pool ss each)

  pooled_one : (pool : List ℕ) (s t : Site D) → unplaced_at t ≡ unplaced_at s → IsPooled pool s → IsPooled pool t
  pooled_one pool s t same is = back t (subst (IsPooled pool) (sym same) (there s is)) where
    there : (u : Site D) → IsPooled pool u → IsPooled pool (unplaced_at u)
    there (site.Host h) p = p
    there (site.Idle d) p = p

    back : (u : Site D) → IsPooled pool (unplaced_at u) → IsPooled pool u
    back (site.Host h) p = p
    back (site.Idle d) p = p

  pub pooled_still : (pool : List ℕ) (xs ys : List (Site D)) → AreSameSites xs ys → ArePooled pool xs
      → ArePooled pool ys
  pooled_still pool [] [] same are = All-nil (IsPooled pool)
  pooled_still pool [] (y ∷ ys) same are = absurd cc
  pooled_still pool (x ∷ xs) [] same are = absurd cc
  pooled_still pool (x ∷ xs) (y ∷ ys) same are =
      let first : unplaced_at y ≡ unplaced_at x = cc in
      let rest : map unplaced_at ys ≡ map unplaced_at xs = cc in
      All-cons (IsPooled pool) y ys (pooled_one pool x y first (All-head (IsPooled pool) x xs are))
      (pooled_still pool xs ys rest (All-tail (IsPooled pool) x xs are))

module _ {D : Type 0} (f : Face D) where
  same_peers : (xs ys : List (Site D)) → AreSameSites xs ys → peers_of f (hosts_of ys) ≡ peers_of f (hosts_of xs)
  same_peers xs ys same =
      sym (peers_still f (hosts_of ys)) ∙ ap (peers_of f) (hosts_same xs ys same) ∙ peers_still f (hosts_of xs)

  host_plain : (pool : List ℕ) (batches : List (List Record)) (n : ℕ) (h k : Host D)
      → without_places h ≡ without_places k
      → IsHostAt f pool batches n h → IsHostAt f pool batches n k
  host_plain pool batches n h k same is = back (subst (IsHostAt f pool batches n) same there) where
    there : IsHostAt f pool batches n (without_places h)
    there = record {
      stands = record { state = is.stands.state; disk = is.stands.disk; read = is.stands.read; fit = is.stands.fit };
      pooled = is.pooled;
      whole = is.whole;
      room = is.room;
      unfused = is.unfused;
    }

    back : IsHostAt f pool batches n (without_places k) → IsHostAt f pool batches n k
    back was = record {
      stands =
          record { state = was.stands.state; disk = was.stands.disk; read = was.stands.read; fit = was.stands.fit };
      pooled = was.pooled;
      whole = was.whole;
      room = was.room;
      unfused = was.unfused;
    }

  -- it is the state of the same history
  pub same_state : (plan : Plan) (s t : State D) → AreSameSites s.sites.items t.sites.items
      → t ≡ record s { sites = t.sites } → IsStateOf f plan s → IsStateOf f plan t
  same_state plan s t same rest is = subst (IsStateOf f plan) (sym rest) (record {
    good = is.good;
    happened = is.happened;
    world = ap (λ (ps : List Standing). the_world ps) (same_peers s.sites.items t.sites.items same) ∙ is.world;
    entries = is.entries;
    pending = is.pending;
    clock = is.clock;
    fresh = is.fresh;
    hosts = λ place k there.
        let found = same_host s.sites.items t.sites.items same place k there in
        host_plain s.pool.now _ _ found.0 k found.2 (is.hosts place found.0 found.1);
  }) where
    the_world : List Standing → World
    the_world ps = record { peers = ps; bag = s.bag.items; tick = s.tick }

  pub same_pooled : (plan : Plan) (s : State D) → IsStateOf f plan s → ArePooled s.pool.now s.sites.items
  same_pooled plan s is = pooled_each s.pool.now s.sites.items (λ place h there. (is.hosts place h there).pooled)

  -- no disk was called
  pub same_counted : {T : Type 0} (xs ys : List (Site D)) (r : Result T WorldFault)
      → ((id : ℕ) → IsErrOf r (Disk id) → ⊥) → AreSameSites xs ys → Counted f xs ys r
  same_counted xs ys r none same = record {
    ids = same_ids xs ys same;
    fuses = ap (map f.fused) (same_disks xs ys same);
    serves =
        λ peers rest are. subst (λ ds. ServesHonest f peers (disks_at xs ++ rest) (ds ++ rest) (fault_in r))
        (sym (same_disks xs ys same)) ((counted_same f xs r none).serves peers rest are);
  }

  pub same_power : (xs ys : List (Site D)) → AreSameSites xs ys → Powered f [] [] xs ys
  same_power xs ys same =
      record { burns = ap (map f.burns) (same_on xs ys same); cuts = ap (map f.cuts) (same_on xs ys same) }

  -- the same is due and can be done
  pub same_doable : {J B : Type 0} (hears : J → List Question) (plan : Plan) (s t : State D) (x : Watch J B)
      (due : Due)
      → AreSameSites s.sites.items t.sites.items → t ≡ record s { sites = t.sites } → IsDoable f hears plan s x due
      → IsDoable f hears plan t x due
  same_doable hears plan s t x due same rest can =
      let es : events_in t ≡ events_in s = ap events_in rest in
      record {
        state = same_state plan s t same rest can.state;
        heard = can.heard ∙ ap (questions plan) (sym es);
        may =
            λ verdict. subst (λ (h : List Event). MayHappen plan (world plan h) (event_of verdict plan h due))
            (sym es) (can.may verdict);
        asks = subst (λ (h : List Event). OwnAsksNothing (world plan h) due) (sym es) can.asks;
      }
