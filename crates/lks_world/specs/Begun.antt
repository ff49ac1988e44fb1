-- Sites as they begin.
use Rattle.std.specs.Prelude.{◌≡◌, ◌≤◌, ◌<◌, ◌+◌, ℕ, true, false, Option, Some, None, Result, Ok, Err, OnOk, List, []}
use Rattle.std.specs.Prelude.{◌∷◌, ◌++◌, length, map, reverse, slice_get, Vec, vec_len, vec_capacity}
use Rattle.std.specs.declared.alloc.Global.{Global}
use Rattle.lks_base.specs.Checking.{plan_fault}
use Rattle.lks_disk.specs.Counts.{Rose}
use Rattle.lks_disk.specs.Face.{Face}
use Rattle.lks_base.specs.declared.plans.PeerPlan.{PeerPlan}
use Rattle.lks_base.specs.declared.plans.Plan.{Plan}
use Rattle.lks_host.specs.Hosted.{HasFront, StandsFor}
use Rattle.lks_host.specs.Journals.{journal_on}
use Rattle.lks_host.specs.declared.hosts.Host.{Host}
use Rattle.lks_law.specs.Batches.{alone}
use Rattle.lks_law.specs.World.{honest_peer, standing_of}
use Rattle.lks_world.specs.Held.{AreFresh}
use Rattle.lks_world.specs.Hosts.{peer_in}
use Rattle.lks_world.specs.Sites.{disk_at, disks_at}
use Rattle.lks_world.specs.declared.faults.WorldFault.{WorldFault}
use Rattle.lks_world.specs.declared.faults.WorldFault.TheVariants.{Disk}
use Rattle.lks_world.specs.declared.sites.Site.{Site}
use Rattle.lks_world.specs.declared.sites.Site.TheVariants as site
use Rattle.lks_world.specs.declared.states.State.{State}
use Rattle.lks_world.specs.declared.worlds.Parts.{Parts}
use Rattle.lks_world.specs.declared.worlds.World.{World}

-- a host whose disk holds its peer's deposits, one batch each, and whose blocks are in this pool
pub record HasBegun {D : Type 0} (f : Face D) (pool : List ℕ) (h : Host D) : Type 0 where
  pub stands : StandsFor f h (map alone (journal_on f h.journal.disk))
  pub pooled : h.peer.pool ≡ pool
  pub whole : h.broken ≡ false
  pub room : h.journal.end ≤ 33558580
  pub unfused : f.fused h.journal.disk ≡ false

abbrev pub HaveBegun : {D : Type 0} → Face D → List ℕ → List (Host D) → Type 0
HaveBegun {D} f pool hosts = (place : ℕ) (h : Host D) → slice_get hosts place ≡ Some h → HasBegun f pool h

-- the site with which a peer begins
abbrev pub HasBegunAs : {D : Type 0} → Face D → List ℕ → Plan → PeerPlan → Site D → Type 0
HasBegunAs f pool plan p (site.Host h) = (p.corrupt ≡ false) × (peer_in f h ≡ standing_of plan p) × HasBegun f pool h
HasBegunAs f pool plan p (site.Idle d) = p.corrupt ≡ true

-- one site more, of this peer
pub record IsSiteed {D : Type 0} (f : Face D) (pool : List ℕ) (plan : Plan) (p : PeerPlan)
    (before after : List (Site D)) : Type 0 where
  pub made : Site D
  pub more : after ≡ before ++ made ∷ []
  pub begun : HasBegunAs f pool plan p made

-- what making the site of a peer did to its disk: nothing, if the peer is corrupt
pub record IsServed {D : Type 0} (f : Face D) (p : PeerPlan) (before after : D) (fault : Option WorldFault) : Type 0
  where
    pub fuse : f.fused after ≡ f.fused before
    pub later : f.faults before ≤ f.faults after
    pub cause : (id : ℕ) → fault ≡ Some (Disk id) → (p.id ≡ id) × Rose (f.faults before) (f.faults after)
    pub idle : p.corrupt ≡ true → (after ≡ before) × (fault ≡ None)

-- the last disk was taken from a list
pub record IsTaken {D : Type 0} (disks disks_after : List D) : Type 0 where
  pub disk : D
  pub front : disks ≡ disks_after ++ disk ∷ []

-- The next peer is honest, but got no site, and of its disk a crash leaves at most a front of what its journal begins
-- with. This disk, as it is now, is the last one again.
pub record StopsAt {D : Type 0} (f : Face D) (plan : Plan) (p : PeerPlan) (sites : List (Site D)) (disks : List D)
    (sites_after : List (Site D)) (disks_after : List D) : Type 0 where
  pub honest : p.corrupt ≡ false
  pub disk : D
  pub now : D
  pub rest : List D
  pub there : disks ≡ rest ++ disk ∷ []
  pub stays : disks_after ≡ rest ++ now ∷ []
  pub same : sites_after ≡ sites
  pub front : HasFront f (map alone (standing_of plan p).journal) now

-- What is left of a call that makes a site: the disk, on the site or given back, and its fault.

abbrev pub disk_siteed : {D : Type 0} → Result (Site D) (D × WorldFault) → D
disk_siteed (Ok s) = disk_at s
disk_siteed (Err e) = e.0

abbrev pub fault_siteed : {D : Type 0} → Result (Site D) (D × WorldFault) → Option WorldFault
fault_siteed (Ok s) = None
fault_siteed (Err e) = Some e.1

-- the disks of a world that was to begin, in the order in which they were handed in
abbrev pub disks_after : {D : Type 0} → Result (State D) WorldFault → List D → List D
disks_after (Ok s) left = disks_at s.sites.items ++ reverse left
disks_after (Err fault) left = reverse left

-- What is left of a call that makes a world: the disks, in the world or given back, and its fault.

abbrev pub disks_made : {D J B : Type 0} → Result (World D J B) (Parts D J B × WorldFault) → List D
disks_made (Ok world) = world.disks
disks_made (Err e) = e.0.disks.items

abbrev pub fault_made : {D J B : Type 0} → Result (World D J B) (Parts D J B × WorldFault) → Option WorldFault
fault_made (Ok world) = None
fault_made (Err e) = Some e.1

-- The plan is good, and there is a fresh disk for each peer, the last of the list for the first one.
pub record CanBegin {D : Type 0} (f : Face D) (plan : Plan) (disks : Vec D Global) : Type 0 where
  pub good : plan_fault plan ≡ None
  pub enough : length plan.peers ≤ vec_len disks
  pub fresh : AreFresh f (reverse disks.items)

-- and no site is made yet, but there is room for all
pub record CanSite {D : Type 0} (f : Face D) (plan : Plan) (disks : Vec D Global)
    (sites : Vec (Site D) Global) : Type 0 where
  pub begins : CanBegin f plan disks
  pub none : sites.items ≡ []
  pub none_there : vec_len sites ≡ 0
  pub room : length plan.peers ≤ vec_capacity sites

-- there is a fresh disk for the next peer of the plan, and room for its site
pub record HasNext {D : Type 0} (f : Face D) (plan : Plan) (p : PeerPlan) (disks : Vec D Global)
    (sites : Vec (Site D) Global) : Type 0 where
  pub good : plan_fault plan ≡ None
  pub planned : p.corrupt ≡ false → honest_peer p.id plan ≡ Some p
  pub some : 0 < vec_len disks
  pub fresh : AreFresh f (reverse disks.items)
  pub room : vec_len sites < vec_capacity sites

-- a disk went to a site, or back to the list, and no list lost room
pub record HaveRoom {D T : Type 0} (disks disks_after : Vec D Global) (sites sites_after : Vec (Site D) Global)
    (result : Result T WorldFault) : Type 0 where
  pub less : OnOk result (vec_len disks_after + 1 ≡ vec_len disks)
  pub more : OnOk result (vec_len sites_after ≡ vec_len sites + 1)
  pub all : vec_len disks_after + vec_len sites_after ≡ vec_len disks + vec_len sites
  pub sites_room : vec_capacity sites ≤ vec_capacity sites_after
  pub disks_room : vec_capacity disks ≤ vec_capacity disks_after
