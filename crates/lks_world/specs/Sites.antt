-- The sites of a world, one for each peer of its plan in order: an honest peer's host, or the idle disk of a corrupt
-- one.
use Rattle.std.specs.Prelude.{◌≡◌, ◌<◌, ◌==◌, ◌++◌, ℕ, Bool, false, if◌then◌else◌, Option, Some, None, List, length}
use Rattle.std.specs.Prelude.{map, slice_get, slice_set, Result}
use Rattle.std.specs.List.{filter_map}
use Rattle.lks_disk.specs.Counts.{raised}
use Rattle.lks_disk.specs.Face.{Face}
use Rattle.lks_base.specs.declared.events.Event.{Event}
use Rattle.lks_base.specs.declared.events.PeerStep.{PeerStep}
use Rattle.lks_base.specs.declared.limits.TheConstants.{MOST_EVENTS}
use Rattle.lks_base.specs.declared.plans.PeerPlan.{PeerPlan}
use Rattle.lks_base.specs.declared.plans.Plan.{Plan}
use Rattle.lks_base.specs.declared.records.Record.{Record}
use Rattle.lks_host.specs.Journals.{journal_on}
use Rattle.lks_host.specs.declared.hosts.Host.{Host}
use Rattle.lks_law.specs.World.{peer_at, with_records, world}
use Rattle.lks_world.specs.Counts.{fault_in, honest_ids, HasBurned, ServesHonest}
use Rattle.lks_world.specs.Cuts.{taker_of, FallsShort}
use Rattle.lks_world.specs.Disks.{honest_disks}
use Rattle.lks_world.specs.Hosts.{journal_in, peer_in, peers_of, with_added, disk_in, disks_of}
use Rattle.lks_world.specs.Powers.{HavePowerOf, raised_at, raised_each}
use Rattle.lks_world.specs.declared.faults.WorldFault.{WorldFault}
use Rattle.lks_world.specs.declared.sites.Site.{Site}
use Rattle.lks_world.specs.declared.sites.Site.TheVariants as site

abbrev pub host_at : {D : Type 0} → Site D → Option (Host D)
host_at (site.Host h) = Some h
host_at (site.Idle d) = None

-- the hosts, in order
abbrev pub hosts_of : {D : Type 0} → List (Site D) → List (Host D)
hosts_of sites = filter_map host_at sites

abbrev pub disk_at : {D : Type 0} → Site D → D
disk_at (site.Host h) = h.journal.disk
disk_at (site.Idle d) = d

-- the disks, in order
abbrev pub disks_at : {D : Type 0} → List (Site D) → List D
disks_at sites = map disk_at sites

-- the number of the peer whose host is there
abbrev pub id_at : {D : Type 0} → Site D → Option ℕ
id_at (site.Host h) = Some h.peer.own.id
id_at (site.Idle d) = None

abbrev pub ids_at : {D : Type 0} → List (Site D) → List (Option ℕ)
ids_at sites = map id_at sites

-- the numbers of the peers whose hosts are there, in order
abbrev pub ids_on : {D : Type 0} → List (Site D) → List ℕ
ids_on sites = filter_map (λ o. o) (ids_at sites)

-- and their disks
abbrev pub disks_on : {D : Type 0} → List (Site D) → List D
disks_on sites = disks_of (hosts_of sites)

-- whether the host of this peer is there
abbrev pub is_site_of : {D : Type 0} → ℕ → Site D → Bool
is_site_of id (site.Host h) = h.peer.own.id == id
is_site_of id (site.Idle d) = false

-- whose host is on the site of a peer: an honest one's own, a corrupt one's nobody's
abbrev pub id_for : PeerPlan → Option ℕ
id_for p = if p.corrupt then None else Some p.id

-- these are the sites of the peers
abbrev pub AreSites : {D : Type 0} → List PeerPlan → List (Site D) → Type 0
AreSites peers sites = ids_at sites ≡ map id_for peers

-- The sites stay those of their peers, no fuse is set or ended, and what became of the disks is what calls on those of
-- honest peers may do, whatever disks lie behind them.
pub record Counted {D T : Type 0} (f : Face D) (before after : List (Site D)) (result : Result T WorldFault) : Type
    0 where
  pub ids : ids_at after ≡ ids_at before
  pub fuses : map f.fused (disks_at after) ≡ map f.fused (disks_at before)
  pub serves : (peers : List PeerPlan) (rest : List D) → AreSites peers before
      → ServesHonest f peers (disks_at before ++ rest) (disks_at after ++ rest) (fault_in result)

-- The peer's host is on this site, the host of this rank; its records are added there, and nothing else changes.
pub record StandsAt {D : Type 0} (f : Face D) (id : ℕ) (sites : List (Site D)) (place : ℕ) : Type 0 where
  pub host : Host D
  pub rank : ℕ
  pub within : place < length sites
  pub there : slice_get sites place ≡ Some (site.Host host)
  pub ranked : slice_get (hosts_of sites) rank ≡ Some host
  pub found : peer_at id (peers_of f (hosts_of sites)) ≡ Some (peer_in f host)
  pub sets : (k : Host D) → hosts_of (slice_set sites place (site.Host k)) ≡ slice_set (hosts_of sites) rank k
  pub raises : (count : D → ℕ) (k : Host D) → count (disk_in k) ≡ raised (count (disk_in host))
      → map count (disks_on (slice_set sites place (site.Host k)))
      ≡ raised_at id (ids_on sites) (map count (disks_on sites))
  pub added : (added : List Record) (k : Host D) → peer_in f k ≡ with_added (peer_in f host) added
      → peers_of f (hosts_of (slice_set sites place (site.Host k)))
      ≡ with_records id added (peers_of f (hosts_of sites))
  pub grown : (added : List Record)
      → journal_in rank (with_records id added (peers_of f (hosts_of sites)))
      ≡ journal_on f host.journal.disk ++ added

-- on the disks of these peers fuses burned, one after another, and the power of these was cut
pub record Powered {D : Type 0} (f : Face D) (burned cut : List ℕ) (before after : List (Site D)) : Type 0 where
  pub burns : map f.burns (disks_on after) ≡ raised_each burned (ids_on before) (map f.burns (disks_on before))
  pub cuts : map f.cuts (disks_on after) ≡ raised_each cut (ids_on before) (map f.cuts (disks_on before))

-- while these events went on to those, the disks of the hosts counted the fuses and the cuts, and besides at most one
-- of these
abbrev pub SitesPower : {D T : Type 0} → Face D → Plan → List ℕ → List Event → List Event → List (Site D)
    → List (Site D) → Result T WorldFault → Type 0
SitesPower f plan who before after sites now result =
    HavePowerOf f plan who before after (fault_in result) (ids_on sites) (disks_on sites) (disks_on now)

-- a fuse of so many calls and this choice burned on the disk of this peer
abbrev pub BurnsAt : {D : Type 0} → Face D → ℕ → ℕ → ℕ → List (Site D) → List (Site D) → Type 0
BurnsAt {D} f calls choice id before after = (peers : List PeerPlan) (rest : List D) → AreSites peers before
    → HasBurned f (honest_ids peers) calls choice (honest_disks peers (disks_at before ++ rest))
    (honest_disks peers (disks_at after ++ rest)) id

-- it did so where the power of the peer falls short in a step, and the step is an event
abbrev pub SitesBurn : {D : Type 0} → Face D → Plan → List Event → ℕ → ℕ → List (Site D) → List (Site D) → PeerStep
    → Type 0
SitesBurn f plan history calls choice before after s =
    FallsShort plan history calls s → length history < MOST_EVENTS
    → BurnsAt f calls choice (taker_of (world plan history).bag s) before after
