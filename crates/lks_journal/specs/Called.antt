-- What the calls of a journal's disk did beside its bytes.
use Rattle.std.specs.Prelude.{◌↔◌, ℕ, Result}
use Rattle.lks_disk.specs.Face.{Face, fuse_of}
use Rattle.lks_journal.specs.Faults.{HasCause, FuseRun}
use Rattle.lks_journal.specs.declared.faults.JournalFault.{JournalFault}

-- so many writes and syncs, and others
pub record Called {D T : Type 0} (f : Face D) (calls : ℕ) (old new : D) (result : Result T JournalFault) : Type 0 where
  pub told : f.told old ↔ f.told new
  pub cause : HasCause (f.faults old) (f.faults new) result
  pub fuse : FuseRun calls (fuse_of f old) (fuse_of f new) result
