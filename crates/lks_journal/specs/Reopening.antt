-- What the bytes of a journal's disk are read as.
use Rattle.std.specs.Prelude.{ℕ, List, Result, Ok, Err, OnOk, IfOk, IsErrOf}
use Rattle.lks_disk.specs.Device.{Only}
use Rattle.lks_disk.specs.Face.{Face}
use Rattle.lks_field.specs.Frames.{HoldsBodies, IsDamagedAt}
use Rattle.lks_journal.specs.Stays.{Stays}
use Rattle.lks_journal.specs.declared.faults.JournalFault.{JournalFault}
use Rattle.lks_journal.specs.declared.faults.JournalFault.TheVariants.{Damaged}

-- the bodies in an answer
abbrev pub bodies_in : {T : Type 0} → (T → List (List ℕ)) → Result T JournalFault → Result (List (List ℕ)) JournalFault
bodies_in view (Ok x) = Ok (view x)
bodies_in view (Err fault) = Err fault

-- the bodies in an answer that hands the disk back
abbrev pub bodies_with : {T D : Type 0} → (T → List (List ℕ)) → Result T (D × JournalFault)
    → Result (List (List ℕ)) JournalFault
bodies_with view (Ok x) = Ok (view x)
bodies_with view (Err e) = Err e.1

-- the bodies that the disk holds, or where it is damaged; no byte changed, and at `Ok` nothing is pending
pub record Reopens {D : Type 0} (f : Face D) (old new : D) (result : Result (List (List ℕ)) JournalFault) : Type 0 where
  pub bodies : IfOk result (λ found. HoldsBodies found (f.seen old))
  pub durable : OnOk result (Only (f.seen old) (f.may_leave new))
  pub damaged : (offset : ℕ) → IsErrOf result (Damaged offset) → IsDamagedAt (f.seen old) offset
  pub stays : Stays f old new
