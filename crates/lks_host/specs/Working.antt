-- Work that leaves a host as a job, and comes back.
use Rattle.std.specs.Prelude.{◌≡◌, ◌≢◌, ℕ, List, Option, Some, None}
use Rattle.lks_base.specs.declared.reactions.Input.{Input}
use Rattle.lks_blocks.specs.Block.{AllOf}
use Rattle.lks_host.specs.declared.faults.HostFault.{HostFault}
use Rattle.lks_host.specs.declared.faults.HostFault.TheVariants.{Failed, Cut, Memory, Stale}
use Rattle.lks_host.specs.declared.hosts.Host.{Host}
use Rattle.lks_peer.specs.Accepting.{input_of, tag_for}
use Rattle.lks_peer.specs.Knows.{Knowing}
use Rattle.lks_peer.specs.declared.faults.AcceptFault.{AcceptFault}
use Rattle.lks_peer.specs.declared.faults.AcceptFault.TheVariants as accept
use Rattle.lks_versions.specs.declared.versions.PinTag.{PinTag}
use Rattle.lks_work.specs.Names.{refs_done, tag_done}
use Rattle.lks_work.specs.declared.results.JobDone.{JobDone}

-- it is a result of this work, over blocks of this pool
pub record IsResultOf (pool : List ℕ) (input : Input) (d : JobDone) : Type 0 where
  pub of : AllOf pool (refs_done d)
  pub work : input_of d ≡ input

-- the same peer, which may have told where its deposits stand in the pool
abbrev pub IsSamePeer : Knowing → Knowing → Type 0
IsSamePeer old new = new ≡ record old { places = new.places }

-- another version is expected than that of the result, or none; and nothing changed
pub record IsStale (old new : Knowing) (d : JobDone) (wanted : Option PinTag) (given : PinTag) : Type 0 where
  pub expected : wanted ≡ tag_for old.state new.places d
  pub found : given ≡ tag_done d
  pub other : wanted ≢ Some given
  pub same : IsSamePeer old new

-- a peer refuses a result that is stale, and without a result for want of memory alone
abbrev pub MayRefuse : Knowing → Knowing → Option JobDone → AcceptFault → Type 0
MayRefuse old new o accept.Memory = Unit {0}
MayRefuse old new None (accept.Stale expected found) = ⊥
MayRefuse old new (Some d) (accept.Stale expected found) = IsStale old new d expected found

-- a host that took a result expected its version
abbrev pub Expected : Knowing → Knowing → Option JobDone → Type 0
Expected old new None = Unit {0}
Expected old new (Some d) = tag_for old.state new.places d ≡ Some (tag_done d)

-- a host says of a result that it is stale exactly where another version is expected than its own, or none; and nothing
-- changed
abbrev pub MayBeStale : {D : Type 0} → Host D → Host D → Option JobDone → HostFault → Type 0
MayBeStale old new o Failed = Unit {0}
MayBeStale old new o Cut = Unit {0}
MayBeStale old new o Memory = Unit {0}
MayBeStale old new None (Stale expected found) = ⊥
MayBeStale old new (Some d) (Stale expected found) =
    IsStale old.peer new.peer d expected found × (new ≡ record old { peer = new.peer })
