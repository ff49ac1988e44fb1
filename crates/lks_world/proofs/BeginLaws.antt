-- Sites are made one after another.
use Rattle.std.proofs.Common.{◌≡◌, ◌<◌, ◌+◌, ◌∙◌, ap, sym, subst, ℕ, zero, suc, false, List, [], ◌∷◌, ◌++◌, length}
use Rattle.std.proofs.Common.{get_or, take, drop, refl, add-one, drop-cons, append_assoc}
use Rattle.std.specs.Prelude.{Option, Some, None, option_map, filter, slice_get, map, reverse}
use Rattle.std.proofs.lemmas.List.{length-append, map-append, reverse-append, take-append-drop, take_more}
use Rattle.std.proofs.lemmas.List.Elements.{filter-append, filter_map-append}
use Rattle.std.proofs.lemmas.Option.{slice_get-get_or}
use Rattle.lks_disk.specs.Face.{Face}
use Rattle.lks_base.proofs.PlanBounds.{found_peer}
use Rattle.lks_base.specs.Checking.{plan_fault}
use Rattle.lks_base.specs.declared.plans.PeerPlan.{PeerPlan}
use Rattle.lks_base.specs.declared.plans.Plan.{Plan}
use Rattle.lks_base.specs.declared.records.Record.{Record}
use Rattle.lks_host.proofs.Journals.{journal_is}
use Rattle.lks_host.specs.Hosted.{StandsFor}
use Rattle.lks_host.specs.Journals.{journal_on}
use Rattle.lks_law.proofs.Batches.{each_alone}
use Rattle.lks_law.specs.Batches.{alone}
use Rattle.lks_peer.specs.Knows.{Knowing, knowing_of}
use Rattle.lks_host.specs.declared.faults.HostFault.{HostFault}
use Rattle.lks_host.specs.declared.faults.HostFault.TheVariants as host
use Rattle.lks_host.specs.declared.hosts.Host.{Host}
use Rattle.lks_law.specs.World.{Standing, is_honest, honest_peer, standing_of}
use Rattle.lks_world.proofs.SiteLaws.{serves_next}
use Rattle.lks_world.proofs.ServingLaws.{serves_none, serves_then}
use Rattle.lks_world.specs.Begun.{HasBegun, HaveBegun, HasBegunAs, IsSiteed, IsServed, IsTaken}
use Rattle.lks_world.specs.Counts.{ServesHonest}
use Rattle.lks_world.specs.Held.{IsFresh, AreFresh}
use Rattle.lks_world.specs.Hosts.{peer_in, peers_of}
use Rattle.lks_world.specs.Powers.{power_of}
use Rattle.lks_world.specs.Sites.{host_at, hosts_of, disk_at, disks_at, id_at, ids_at, id_for, AreSites}
use Rattle.lks_world.specs.declared.faults.WorldFault.{WorldFault}
use Rattle.lks_world.specs.declared.sites.Site.{Site}
use Rattle.lks_world.specs.declared.sites.Site.TheVariants as site

-- Disks that are taken from the end of a list stand first where it is turned round.

pub last_first : {D : Type 0} (disks left : List D) (d : D) → disks ≡ left ++ d ∷ [] → reverse disks ≡ d ∷ reverse left
last_first disks left d is = ap reverse is ∙ reverse-append left (d ∷ [])

module _ {D : Type 0} (f : Face D) (disks left : List D) (d : D) (is : disks ≡ left ++ d ∷ [])
    (fresh : AreFresh f (reverse disks)) where
  pub fresh_first : IsFresh f d
  fresh_first = fresh 0 d (ap (λ (ds : List D). slice_get ds 0) (last_first disks left d is))

  pub fresh_rest : AreFresh f (reverse left)
  fresh_rest place disk at =
      fresh (suc place) disk (ap (λ (ds : List D). slice_get ds (suc place)) (last_first disks left d is) ∙ at)

-- What a host begins with is on its disk.

pub record Begins {D : Type 0} (f : Face D) (pool : List ℕ) (plan : Plan) (o : Option PeerPlan)
    (host : Host D) : Type 0 where
  pub peer : option_map (standing_of plan) o ≡ Some (peer_in f host)
  pub stands : StandsFor f host (map alone (journal_on f host.journal.disk))
  pub pooled : host.peer.pool ≡ pool

pub begins : {D : Type 0} (f : Face D) (pool : List ℕ) (plan : Plan) (o : Option PeerPlan) (host : Host D)
    → option_map (λ (p : PeerPlan). knowing_of pool (standing_of plan p)) o ≡ Some host.peer
    → ((p : PeerPlan) → o ≡ Some p → StandsFor f host (map alone (standing_of plan p).journal))
    → Begins f pool plan o host
begins f pool plan None host made stands = absurd cc
begins f pool plan (Some p) host made stands =
    let same : knowing_of pool (standing_of plan p) ≡ host.peer = cc in
    let js = (standing_of plan p).journal in
    let stood = stands p refl in
    let there : journal_on f host.journal.disk ≡ js = journal_is f host (map alone js) stood ∙ each_alone js in
    record {
      peer = λ i. Some (record { own = ap (λ (k : Knowing). k.own) same i; journal = sym there i });
      stands = subst (λ (xs : List Record). StandsFor f host (map alone xs)) (sym there) stood;
      pooled = sym (ap (λ (k : Knowing). k.pool) same);
    }

-- One site more.

same_power : {D : Type 0} (f : Face D) (sites : List (Site D)) (d e : D) (rest : List D)
    → power_of f e ≡ power_of f d
    → map (power_of f) (disks_at sites ++ e ∷ rest) ≡ map (power_of f) (disks_at sites ++ d ∷ rest)
same_power f sites d e rest same =
    map-append (power_of f) (disks_at sites) (e ∷ rest)
    ∙ ap (λ p. map (power_of f) (disks_at sites) ++ p ∷ map (power_of f) rest) same
    ∙ sym (map-append (power_of f) (disks_at sites) (d ∷ rest))

-- a disk was taken from the list, and another one stands in its place: on a site, or back in the list
module _ {D : Type 0} (f : Face D) (p : PeerPlan) (sites : List (Site D)) (disks left : List D) (d e : D)
    (fault : Option WorldFault) (is : disks ≡ left ++ d ∷ []) (served : IsServed f p d e fault) where
  pub site_served : (after : List D) → after ≡ disks_at sites ++ e ∷ reverse left → (ps qs : List PeerPlan)
      → AreSites ps sites
      → ServesHonest f (ps ++ p ∷ qs) (disks_at sites ++ reverse disks) after fault
  site_served after now ps qs are =
      subst (λ ds. ServesHonest f (ps ++ p ∷ qs) (disks_at sites ++ ds) after fault) (sym (last_first disks left d is))
      (subst (λ ds. ServesHonest f (ps ++ p ∷ qs) (disks_at sites ++ d ∷ reverse left) ds fault) (sym now)
      (serves_next f ps qs p sites d e (reverse left) fault are served))

pub site_power : {D : Type 0} (f : Face D) (sites : List (Site D)) (disks left : List D) (d e : D)
    → disks ≡ left ++ d ∷ [] → power_of f e ≡ power_of f d → (after : List D)
    → after ≡ disks_at sites ++ e ∷ reverse left
    → map (power_of f) after ≡ map (power_of f) (disks_at sites ++ reverse disks)
site_power f sites disks left d e is same after now =
    ap (map (power_of f)) now ∙ same_power f sites d e (reverse left) same
    ∙ ap (λ ds. map (power_of f) (disks_at sites ++ ds)) (sym (last_first disks left d is))

pub on_site : {D : Type 0} (sites after : List (Site D)) (s : Site D) (left : List D) → after ≡ sites ++ s ∷ []
    → disks_at after ++ reverse left ≡ disks_at sites ++ disk_at s ∷ reverse left
on_site {D = D} sites after s left more =
    ap (λ (ss : List (Site D)). disks_at ss ++ reverse left) more
    ∙ ap (λ ds. ds ++ reverse left) (map-append disk_at sites (s ∷ []))
    ∙ append_assoc (disks_at sites) (disk_at s ∷ []) (reverse left)

pub in_list : {D : Type 0} (sites : List (Site D)) (left after : List D) (e : D) → after ≡ left ++ e ∷ []
    → disks_at sites ++ reverse after ≡ disks_at sites ++ e ∷ reverse left
in_list sites left after e now = ap (λ ds. disks_at sites ++ ds) (last_first after left e now)

-- Sites for the peers of a plan, one after another.

-- so far these sites were made for the peers that are done, and these disks are left, the next one last
pub record AreMade {D : Type 0} (f : Face D) (pool : List ℕ) (plan : Plan) (first : List D) (sites : List (Site D))
    (disks : List D) (done : List PeerPlan) : Type 0 where
  pub placed : AreSites done sites
  pub peers : peers_of f (hosts_of sites) ≡ map (standing_of plan) (filter is_honest done)
  pub begun : HaveBegun f pool (hosts_of sites)
  pub fresh : AreFresh f (reverse disks)
  pub taken : (xs : List D) × (length xs ≡ length sites) × (reverse first ≡ xs ++ reverse disks)
  pub serves : ServesHonest f plan.peers (reverse first) (disks_at sites ++ reverse disks) None
  pub power : map (power_of f) (disks_at sites ++ reverse disks) ≡ map (power_of f) (reverse first)

module _ {D : Type 0} (f : Face D) (pool : List ℕ) (plan : Plan) where
  pub made_start : (disks : List D) (sites : List (Site D)) → sites ≡ [] → AreFresh f (reverse disks)
      → AreMade f pool plan disks sites disks []
  made_start disks sites none fresh =
      subst (λ (ss : List (Site D)). AreMade f pool plan disks ss disks []) (sym none)
      (record {
        placed = refl;
        peers = refl;
        begun = λ place h at. absurd cc;
        fresh = fresh;
        taken = ([], refl, refl);
        serves = serves_none f plan.peers (reverse disks) None (λ id is. absurd cc);
        power = refl;
      })

  -- what one site more is to the list of them
  record IsNext (p : PeerPlan) (s : Site D) : Type 0 where
    id : id_at s ≡ id_for p
    peer : peers_of f (hosts_of (s ∷ [])) ≡ map (standing_of plan) (filter is_honest (p ∷ []))
    begun : HaveBegun f pool (hosts_of (s ∷ []))

  begun_alone : (h : Host D) → HasBegun f pool h → HaveBegun f pool (h ∷ [])
  begun_alone h has zero k at = let same : h ≡ k = cc in subst (HasBegun f pool) same has
  begun_alone h has (suc place) k at = absurd cc

  comes_next : (p : PeerPlan) (s : Site D) → HasBegunAs f pool plan p s → IsNext p s
  comes_next p (site.Host h) as_host = record {
    id = rw as_host.0 (ap (λ (st : Standing). Some st.own.id) as_host.1);
    peer = rw as_host.0 (ap (λ (st : Standing). st ∷ []) as_host.1);
    begun = begun_alone h as_host.2;
  }
  comes_next p (site.Idle d) bad = record { id = rw bad refl; peer = rw bad refl; begun = λ place h at. absurd cc }

  begun_joined : (hs ks : List (Host D)) → HaveBegun f pool hs → HaveBegun f pool ks → HaveBegun f pool (hs ++ ks)
  begun_joined [] ks first next place k at = next place k at
  begun_joined (h ∷ hs) ks first next zero k at = first 0 k at
  begun_joined (h ∷ hs) ks first next (suc place) k at =
      begun_joined hs ks (λ i x there. first (suc i) x there) next place k at

  pub made_more : (first : List D) (sites sites_after : List (Site D)) (disks disks_after : List D) (p : PeerPlan)
      (done left after : List PeerPlan)
      → AreMade f pool plan first sites disks done
      → IsSiteed f pool plan p sites sites_after → IsTaken disks disks_after → AreFresh f (reverse disks_after)
      → ((ps qs : List PeerPlan) → AreSites ps sites
      → ServesHonest f (ps ++ p ∷ qs) (disks_at sites ++ reverse disks)
      (disks_at sites_after ++ reverse disks_after) None)
      → map (power_of f) (disks_at sites_after ++ reverse disks_after)
      ≡ map (power_of f) (disks_at sites ++ reverse disks)
      → plan.peers ≡ done ++ p ∷ left → after ≡ done ++ p ∷ [] → AreMade f pool plan first sites_after disks_after after
  made_more first sites sites_after disks disks_after p done left after made siteed took fresh serves power all next =
      let s = siteed.made in
      let is = comes_next p s siteed.begun in
      let hosts : hosts_of sites_after
      ≡ hosts_of sites ++ hosts_of (s ∷ []) = ap hosts_of siteed.more
      ∙ filter_map-append host_at sites (s ∷ []) in
      subst (AreMade f pool plan first sites_after disks_after) (sym next)
      (record {
        placed =
            ap ids_at siteed.more ∙ map-append id_at sites (s ∷ []) ∙ (λ i. made.placed i ++ is.id i ∷ [])
            ∙ sym (map-append id_for done (p ∷ []));
        peers =
            ap (peers_of f) hosts ∙ map-append (peer_in f) (hosts_of sites) (hosts_of (s ∷ []))
            ∙ (λ i. made.peers i ++ is.peer i)
            ∙ sym (map-append (standing_of plan) (filter is_honest done) (filter is_honest (p ∷ [])))
            ∙ ap (map (standing_of plan)) (sym (filter-append is_honest done (p ∷ [])));
        begun =
            subst (HaveBegun f pool) (sym hosts)
            (begun_joined (hosts_of sites) (hosts_of (s ∷ [])) made.begun is.begun);
        fresh = fresh;
        taken = (
          made.taken.0 ++ took.disk ∷ [],
          length-append made.taken.0 (took.disk ∷ []) ∙ ap (λ n. n + 1) made.taken.1
              ∙ sym (ap length siteed.more ∙ length-append sites (s ∷ [])),
          made.taken.2 ∙ ap (λ ds. made.taken.0 ++ ds) (last_first disks disks_after took.disk took.front)
              ∙ sym (append_assoc made.taken.0 (took.disk ∷ []) (reverse disks_after)),
        );
        serves =
            serves_then f plan.peers (reverse first) (disks_at sites ++ reverse disks)
            (disks_at sites_after ++ reverse disks_after) None made.serves
            (subst
            (λ ps. ServesHonest f ps (disks_at sites ++ reverse disks)
            (disks_at sites_after ++ reverse disks_after) None) (sym all) (serves done left made.placed));
        power = power ∙ made.power;
      })

-- the peer at a place is the one that its number finds
pub peer_at_place : (plan : Plan) → plan_fault plan ≡ None → (items : List PeerPlan) → items ≡ plan.peers
    → (i : ℕ) (p : PeerPlan) → i < length items → p ≡ get_or items i p → p.corrupt ≡ false
    → honest_peer p.id plan ≡ Some p
peer_at_place plan good items same i p within is honest =
    found_peer plan good i p
    (ap (λ ps. slice_get ps i) (sym same) ∙ slice_get-get_or items i p within ∙ ap Some (sym is)) honest

-- the peers up to the one at a place, and all
pub next_done : (items peers : List PeerPlan) → items ≡ peers → (i : ℕ) (p : PeerPlan) → i < length items
    → p ≡ get_or items i p → take (i + 1) peers ≡ take i peers ++ p ∷ []
next_done items peers same i p within is =
    ap (take (i + 1)) (sym same) ∙ take_more items i p within ∙ ap (λ q. take i items ++ q ∷ []) (sym is)
    ∙ ap (λ ps. take i ps ++ p ∷ []) same

pub all_parts : (items peers : List PeerPlan) → items ≡ peers → (i : ℕ) (p : PeerPlan) → i < length items
    → p ≡ get_or items i p → peers ≡ take i peers ++ p ∷ drop (i + 1) peers
all_parts items peers same i p within is =
    sym (take-append-drop i peers)
    ∙ ap (λ ps. take i peers ++ ps)
    (ap (drop i) (sym same) ∙ drop-cons items i p within ∙ ap (λ q. q ∷ drop (suc i) items) (sym is)
    ∙ ap (λ k. p ∷ drop k items) (sym (add-one i)) ∙ ap (λ ps. p ∷ drop (i + 1) ps) same)

-- what was done so far, and what was done to the disk of the next peer
pub served_then : {D : Type 0} (f : Face D) (peers done left : List PeerPlan) (p : PeerPlan)
    (first middle after : List D) {fault : Option WorldFault}
    → ServesHonest f peers first middle None
    → peers ≡ done ++ p ∷ left → ServesHonest f (done ++ p ∷ left) middle after fault
    → ServesHonest f peers first after fault
served_then f peers done left p first middle after {fault = fault} was all next =
    serves_then f peers first middle after fault was (subst (λ ps. ServesHonest f ps middle after fault) (sym all) next)
