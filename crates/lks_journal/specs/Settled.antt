-- A journal at rest.
use Rattle.std.specs.Prelude.{◌≡◌, ℕ, List, length, Result, Ok, Err}
use Rattle.lks_disk.specs.Device.{Only}
use Rattle.lks_disk.specs.Face.{Face}
use Rattle.lks_field.specs.Frames.{frames, HoldsBodies}
use Rattle.lks_journal.specs.declared.journals.Journal.{Journal}

-- the disk holds these bodies, the journal knows their end and how many they are, and nothing waits for a sync
pub record IsSettled {D : Type 0} (f : Face D) (journal : Journal D) (bodies : List (List ℕ)) : Type 0 where
  pub holds : HoldsBodies bodies (f.seen journal.disk)
  pub end : journal.end ≡ length (frames bodies)
  pub count : journal.count ≡ length bodies
  pub durable : Only (f.seen journal.disk) (f.may_leave journal.disk)

-- what is left of a call that takes a disk: an answer without its values, and the disk
abbrev pub plain : {A B F : Type 0} → Result A (B × F) → Result (Unit {0}) F
plain (Ok _) = Ok tt
plain (Err e) = Err e.1

-- the disk of a journal that was made, or wasn't
abbrev pub disk_made : {D F : Type 0} → Result (Journal D) (D × F) → D
disk_made (Ok journal) = journal.disk
disk_made (Err e) = e.0

-- the disk of a journal that was read, or wasn't
abbrev pub disk_read : {D B F : Type 0} → Result (Journal D × B) (D × F) → D
disk_read (Ok p) = p.0.disk
disk_read (Err e) = e.0
