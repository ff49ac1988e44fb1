-- Jobs and results at one site, and what is due beside work.
use Rattle.std.specs.Prelude.{◌≡◌, ◌≢◌, ◌⊎◌, ℕ, true, false, Option, Some, None, List, [], slice_get}
use Rattle.lks_base.specs.declared.events.Due.{Due}
use Rattle.lks_base.specs.declared.events.Due.TheVariants as dues
use Rattle.lks_base.specs.declared.events.Event.{Event}
use Rattle.lks_base.specs.declared.plans.Plan.{Plan}
use Rattle.lks_disk.specs.Face.{Face}
use Rattle.lks_host.specs.declared.hosts.Host.{Host}
use Rattle.lks_law.specs.Due.{dues, is_work, pending, ready}
use Rattle.lks_law.specs.World.{peer_at, world}
use Rattle.lks_peer.specs.Accepting.{is_ready_for, tag_for, IsJobOf}
use Rattle.lks_versions.specs.declared.places.Place.{Place}
use Rattle.lks_versions.specs.declared.versions.PinTag.{PinTag}
use Rattle.lks_work.specs.Names.{name_done}
use Rattle.lks_work.specs.declared.jobs.Job.{Job}
use Rattle.lks_work.specs.declared.jobs.JobName.{JobName}
use Rattle.lks_work.specs.declared.results.JobDone.{JobDone}
use Rattle.lks_world.specs.Giving.{peer_named}
use Rattle.lks_world.specs.Hosts.{peer_in, peers_of}
use Rattle.lks_world.specs.Sites.{hosts_of}
use Rattle.lks_world.specs.declared.giving.NextDue.{NextDue}
use Rattle.lks_world.specs.declared.giving.NextDue.TheVariants as next
use Rattle.lks_world.specs.declared.sites.Site.{Site}
use Rattle.lks_world.specs.declared.sites.Site.TheVariants as site

-- the peer that sits there is ready for this work
abbrev pub IsReadyAt : {D : Type 0} → JobName → Site D → Type 0
IsReadyAt name (site.Host h) = is_ready_for h.peer.own h.peer.state name ≡ true
IsReadyAt name (site.Idle d) = ⊥

-- it is the job of this work, as the peer makes it that sits there
abbrev pub IsJobAt : {D : Type 0} → JobName → Site D → Job → Type 0
IsJobAt name (site.Host h) j = (places : List Place) × IsJobOf h.peer.own h.peer.state h.peer.kept places name j
IsJobAt name (site.Idle d) j = ⊥

-- over which version a result would be taken there
abbrev pub IsExpectedAt : {D : Type 0} → JobDone → Site D → Option PinTag → Type 0
IsExpectedAt d (site.Host h) expected = (places : List Place) × (expected ≡ tag_for h.peer.state places d)
IsExpectedAt d (site.Idle disk) expected = expected ≡ None

-- the peer of the result sits there, and expects this version
pub record IsToldBy {D : Type 0} (f : Face D) (d : JobDone) (sites : List (Site D))
    (expected : Option PinTag) : Type 0 where
  pub host : Host D
  pub rank : ℕ
  pub ranked : slice_get (hosts_of sites) rank ≡ Some host
  pub found : peer_at (peer_named (name_done d)) (peers_of f (hosts_of sites)) ≡ Some (peer_in f host)
  pub places : List Place
  pub is : expected ≡ tag_for host.peer.state places d

-- or there is no such peer, and no version is expected
abbrev pub Expects : {D : Type 0} → Face D → JobDone → List (Site D) → Option PinTag → Type 0
Expects f d sites expected =
    ((peer_at (peer_named (name_done d)) (peers_of f (hosts_of sites)) ≡ None) × (expected ≡ None)) ⊎ IsToldBy f d
    sites expected

-- a delivery, or a step that is no work
abbrev pub IsBesideWork : Due → Type 0
IsBesideWork (dues.Delivery i) = Unit {0}
IsBesideWork (dues.Own s) = is_work s ≡ false

-- what is due beside work: it comes first of what is due, or no envelope waits and work is ready, or nothing is due
abbrev pub IsNext : Plan → List Event → NextDue → Type 0
IsNext plan history (next.Due d) = IsBesideWork d × (slice_get (dues plan history) 0 ≡ Some d)
IsNext plan history next.Work = (pending plan history ≡ []) × (ready (world plan history) ≢ [])
IsNext plan history next.Nothing = dues plan history ≡ []
