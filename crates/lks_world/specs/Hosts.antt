-- The hosts of a world, and how they go on.
use Rattle.std.specs.Prelude.{◌≡◌, ◌≤◌, ◌+◌, ◌*◌, ◌++◌, ℕ, false, Some, None, List, [], length, drop, map, slice_get}
use Rattle.std.specs.Prelude.{Result, IsErrOf, ◌⊎◌, OnErr}
use Rattle.std.specs.Option.{option_map_or}
use Rattle.lks_disk.specs.Counts.{Rose, raised}
use Rattle.lks_disk.specs.Face.{Face}
use Rattle.lks_base.specs.declared.records.Record.{Record}
use Rattle.lks_host.specs.Hosted.{StandsFor}
use Rattle.lks_host.specs.Journals.{journal_on}
use Rattle.lks_host.specs.Cutting.{Falls}
use Rattle.lks_host.specs.declared.faults.HostFault.{HostFault}
use Rattle.lks_host.specs.declared.faults.HostFault.TheVariants as host
use Rattle.lks_host.specs.declared.hosts.Host.{Host}
use Rattle.lks_law.specs.Batches.{with_batch}
use Rattle.lks_law.specs.World.{Standing, peer_at, with_records}
use Rattle.lks_law.specs.Written.{AreWritten}
use Rattle.lks_world.specs.declared.faults.WorldFault.{WorldFault}
use Rattle.lks_world.specs.declared.faults.WorldFault.TheVariants.{Disk, Memory}

-- the peer of a host, with the journal that its disk holds
abbrev pub peer_in : {D : Type 0} → Face D → Host D → Standing
peer_in f h = record { own = h.peer.own; journal = journal_on f h.journal.disk }

abbrev pub peers_of : {D : Type 0} → Face D → List (Host D) → List Standing
peers_of f hosts = map (peer_in f) hosts

abbrev pub disk_in : {D : Type 0} → Host D → D
disk_in h = h.journal.disk

abbrev pub disks_of : {D : Type 0} → List (Host D) → List D
disks_of hosts = map disk_in hosts

-- a host that can take a step, whose blocks are in this pool, and whose journal is one that the rules make
pub record IsReady {D : Type 0} (f : Face D) (pool : List ℕ) (h : Host D) : Type 0 where
  pub whole : h.broken ≡ false
  pub room : h.journal.end + 32769 ≤ 2147483647
  pub unfused : f.fused h.journal.disk ≡ false
  pub pooled : h.peer.pool ≡ pool
  pub batches : List (List Record)
  pub stands : StandsFor f h batches
  pub written : AreWritten [] (journal_on f h.journal.disk)

abbrev pub AreReady : {D : Type 0} → Face D → List ℕ → List (Host D) → Type 0
AreReady {D} f pool hosts = (place : ℕ) (h : Host D) → slice_get hosts place ≡ Some h → IsReady f pool h

-- a host went on: what its disk's journal has more is one batch more
pub record GoesOn {D : Type 0} (f : Face D) (h k : Host D) : Type 0 where
  pub whole : h.broken ≡ false → k.broken ≡ false
  pub room : k.journal.end ≤ h.journal.end + 32768
  pub unfused : f.fused k.journal.disk ≡ f.fused h.journal.disk
  pub pool : k.peer.pool ≡ h.peer.pool
  pub stands : (batches : List (List Record)) → StandsFor f h batches
      → StandsFor f k
      (with_batch batches (drop (length (journal_on f h.journal.disk)) (journal_on f k.journal.disk)))

pub record WentOn {D : Type 0} (f : Face D) (before : List (Host D)) (place : ℕ) (k : Host D) : Type 0 where
  pub host : Host D
  pub there : slice_get before place ≡ Some host
  pub on : GoesOn f host k

abbrev pub HaveGoneOn : {D : Type 0} → Face D → List (Host D) → List (Host D) → Type 0
HaveGoneOn {D} f before after = (place : ℕ) (k : Host D) → slice_get after place ≡ Some k → WentOn f before place k

-- At a refusal a crash leaves of each host's disk the batches from before, or those with one more: what its peer was to
-- have more in its journal.

abbrev pub journal_in : ℕ → List Standing → List Record
journal_in place peers = option_map_or (λ (s : Standing). s.journal) (slice_get peers place) []

pub record HasFallen {D : Type 0} (f : Face D) (before : List (Host D)) (peers : List Standing) (place : ℕ)
    (k : Host D) : Type 0 where
  pub host : Host D
  pub there : slice_get before place ≡ Some host
  pub falls : (batches : List (List Record)) → StandsFor f host batches
      → Falls f batches
      (with_batch batches (drop (length (journal_on f host.journal.disk)) (journal_in place peers)))
      k.journal.disk

abbrev pub HaveFallen : {D : Type 0} → Face D → List (Host D) → List Standing → List (Host D) → Type 0
HaveFallen {D} f before peers after =
    (place : ℕ) (k : Host D) → slice_get after place ≡ Some k → HasFallen f before peers place k

-- a host after so many events, whose disk holds these batches, and whose blocks are in this pool
pub record IsHostAt {D : Type 0} (f : Face D) (pool : List ℕ) (batches : List (List Record)) (events : ℕ)
    (h : Host D) : Type 0 where
  pub stands : StandsFor f h batches
  pub pooled : h.peer.pool ≡ pool
  pub whole : h.broken ≡ false
  pub room : h.journal.end ≤ 33558580 + 32768 * events
  pub unfused : f.fused h.journal.disk ≡ false

-- It is the same peer's host, no fuse was set or ended, and its disk is blamed where its count of faults rose.
pub record HasActed {D T : Type 0} (f : Face D) (h k : Host D) (result : Result T WorldFault) : Type 0 where
  pub own : k.peer.own ≡ h.peer.own
  pub fuse : f.fused k.journal.disk ≡ f.fused h.journal.disk
  pub later : f.faults h.journal.disk ≤ f.faults k.journal.disk
  pub cause : (id : ℕ) → IsErrOf result (Disk id)
      → (h.peer.own.id ≡ id) × Rose (f.faults h.journal.disk) (f.faults k.journal.disk)

-- no fuse burned on a disk, and its power wasn't cut
pub record KeepsPower {D : Type 0} (f : Face D) (disk now : D) : Type 0 where
  pub burns : f.burns now ≡ f.burns disk
  pub cuts : f.cuts now ≡ f.cuts disk

-- its power was cut, once, and at a refusal a fuse burned or none did
pub record LosesPower {D T : Type 0} (f : Face D) (disk now : D) (result : Result T WorldFault) : Type 0 where
  pub cuts : f.cuts now ≡ raised (f.cuts disk)
  pub burns : OnErr result ((f.burns now ≡ f.burns disk) ⊎ (f.burns now ≡ raised (f.burns disk)))

-- what a refusal of a peer's host is to the world, in which no fuse is set
abbrev pub fault_at : ℕ → HostFault → WorldFault
fault_at peer host.Failed = Disk peer
fault_at peer host.Cut = Memory
fault_at peer host.Memory = Memory
fault_at peer (host.Stale expected found) = Memory

-- there is no such peer, so nobody adds its records
pub record IsAbsent (id : ℕ) (peers : List Standing) : Type 0 where
  pub none : peer_at id peers ≡ None
  pub same : (added : List Record) → with_records id added peers ≡ peers

abbrev pub with_added : Standing → List Record → Standing
with_added s added = record { own = s.own; journal = s.journal ++ added }
