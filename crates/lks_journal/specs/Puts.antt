-- A write that is kept.
use Rattle.std.specs.Prelude.{◌≡◌, ℕ, List, length, Result, OnOk, IsErrOf}
use Rattle.lks_disk.specs.Device.{Holds, Only}
use Rattle.lks_disk.specs.Face.{Face}
use Rattle.lks_journal.specs.Tearing.{CanLeaveTorn}
use Rattle.lks_journal.specs.declared.faults.JournalFault.{JournalFault}
use Rattle.lks_journal.specs.declared.faults.JournalFault.TheVariants.{Memory}

-- what a write and a sync made of a disk
pub record Puts {D : Type 0} (f : Face D) (at : ℕ) (piece : List ℕ) (old new : D)
    (result : Result (Unit {0}) JournalFault) : Type 0 where
  pub holds : OnOk result (Holds (f.seen old) at piece (f.seen new))
  pub durable : OnOk result (Only (f.seen new) (f.may_leave new))
  pub memory : IsErrOf result Memory → f.seen new ≡ f.seen old
  pub memory_crash : IsErrOf result Memory → (c : List ℕ) → f.may_leave new c → f.may_leave old c
  pub crash : (c : List ℕ) → f.may_leave new c → CanLeaveTorn (f.may_leave old) at (length piece) c
