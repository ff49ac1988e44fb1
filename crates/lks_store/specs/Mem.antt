-- An opener of a disk that is there already.
use Rattle.std.specs.Prelude.{ℕ, Bool, true, false, List, [], Option, Some, None, Result, Ok, Err}
use Rattle.lks_disk.specs.Counts.{raised}
use Rattle.lks_disk.specs.Face.{Face}
use Rattle.lks_store.specs.declared.openers.OpenStop.{OpenStop}
use Rattle.lks_store.specs.declared.openers.OpenStop.TheVariants.{Failed}

-- the disk, until it is given, whether each call fails, and how many have
pub record MemOpening (D : Type 0) : Type 0 where
  pub disk : Option D
  pub fail : Bool
  pub faults : ℕ

-- what the next call gives
abbrev pub next_of : {D : Type 0} → Bool → Option D → Option D
next_of true disk = None
next_of false disk = disk

abbrev pub given_or : {D : Type 0} → Option D → Result D OpenStop
given_or (Some disk) = Ok disk
given_or None = Err Failed

abbrev pub given_by : {D : Type 0} → MemOpening D → Result D OpenStop
given_by o = given_or (next_of o.fail o.disk)

abbrev pub after_giving : {D : Type 0} → MemOpening D → Option D → MemOpening D
after_giving o (Some disk) = record o { disk = None }
after_giving o None = record o { faults = raised o.faults }

-- the opener after the next call
abbrev pub after_open : {D : Type 0} → MemOpening D → MemOpening D
after_open o = after_giving o (next_of o.fail o.disk)

abbrev pub told_by : {D : Type 0} → Face D → Option D → Type 0
told_by f (Some disk) = f.told disk
told_by f None = ⊥

abbrev pub seen_by : {D : Type 0} → Face D → Option D → List ℕ
seen_by f (Some disk) = f.seen disk
seen_by f None = []

abbrev pub failed_by : {D : Type 0} → Face D → Option D → ℕ
failed_by f (Some disk) = f.faults disk
failed_by f None = 0

-- what it tells of the disk that the next call gives
abbrev pub tells_of : {D : Type 0} → Face D → MemOpening D → Type 0
tells_of f o = told_by f o.disk

abbrev pub content_of : {D : Type 0} → Face D → MemOpening D → List ℕ
content_of f o = seen_by f o.disk

abbrev pub faults_of : {D : Type 0} → Face D → MemOpening D → ℕ
faults_of f o = failed_by f o.disk
