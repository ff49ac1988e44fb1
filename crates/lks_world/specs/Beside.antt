-- Results of jobs, which wait beside a world for their turn.
use Rattle.std.specs.Prelude.{◌≡◌, ℕ, List, [], All, map}
use Rattle.lks_base.specs.declared.events.Due.{Due}
use Rattle.lks_base.specs.declared.events.Due.TheVariants as dues
use Rattle.lks_base.specs.declared.events.PeerStep.{PeerStep}
use Rattle.lks_blocks.specs.Block.{AllOf}
use Rattle.lks_host.specs.declared.hosts.Host.{Host}
use Rattle.lks_work.specs.Names.{name_done, refs_done, step_named}
use Rattle.lks_work.specs.declared.results.JobDone.{JobDone}
use Rattle.lks_world.specs.declared.sites.Site.{Site}
use Rattle.lks_world.specs.declared.sites.Site.TheVariants as site

-- it is a result of the work of this step, over blocks of this pool
pub record IsFor (pool : List ℕ) (s : PeerStep) (d : JobDone) : Type 0 where
  pub of : AllOf pool (refs_done d)
  pub step : s ≡ step_named (name_done d)

-- the same of what is due
pub record IsForDue (pool : List ℕ) (due : Due) (d : JobDone) : Type 0 where
  pub of : AllOf pool (refs_done d)
  pub work : due ≡ dues.Own (step_named (name_done d))

-- a host but for where its deposits are told to stand
abbrev pub without_places : {D : Type 0} → Host D → Host D
without_places h = record h { peer = record h.peer { places = [] } }

abbrev pub unplaced_at : {D : Type 0} → Site D → Site D
unplaced_at (site.Host h) = site.Host (without_places h)
unplaced_at (site.Idle d) = site.Idle d

-- nothing changed but what was told of places
abbrev pub AreSameSites : {D : Type 0} → List (Site D) → List (Site D) → Type 0
AreSameSites old new = map unplaced_at new ≡ map unplaced_at old

-- the blocks of whoever sits there are in this pool
abbrev pub IsPooled : {D : Type 0} → List ℕ → Site D → Type 0
IsPooled pool (site.Host h) = h.peer.pool ≡ pool
IsPooled pool (site.Idle d) = Unit {0}

abbrev pub ArePooled : {D : Type 0} → List ℕ → List (Site D) → Type 0
ArePooled pool sites = All (IsPooled pool) sites
