-- What a host's calls of its disk did beside its bytes.
use Rattle.std.specs.Prelude.{◌≡◌, ◌↔◌, true, false, List, [], Result, OnOk, IsErrOf}
use Rattle.lks_base.specs.declared.records.Record.{Record}
use Rattle.lks_disk.specs.Face.{Face}
use Rattle.lks_journal.specs.Called.{Called}
use Rattle.lks_journal.specs.Faults.{HasCause}
use Rattle.lks_journal.specs.declared.faults.JournalFault.{JournalFault}
use Rattle.lks_journal.specs.declared.faults.JournalFault.TheVariants.{Failed, Cut}
use Rattle.lks_journal.specs.declared.journals.Journal.{Journal}

-- The power wasn't cut, no fuse was set or ended, or chosen anew, and a cut is answered only where one was set, which
-- has burned. None burned at `Ok`, or where none was set.
pub record Behaves {D T : Type 0} (f : Face D) (old new : D) (result : Result T JournalFault) : Type 0 where
  pub told : f.told old ↔ f.told new
  pub cause : HasCause (f.faults old) (f.faults new) result
  pub fused : f.fused new ≡ f.fused old
  pub allowed : f.calls new ≡ f.calls old
  pub chosen : f.choice new ≡ f.choice old
  pub powered : f.cuts new ≡ f.cuts old
  pub cut : IsErrOf result Cut → f.fused old ≡ true
  pub burned : IsErrOf result Cut → f.burned new ≡ true
  pub unburned : OnOk result (f.burns new ≡ f.burns old)
  pub unset : f.fused old ≡ false → f.burns new ≡ f.burns old

-- no records make no call of the disk, and others the four of an append
pub record CallsFor {D : Type 0} (f : Face D) (old new : Journal D) (records : List Record)
    (result : Result (Unit {0}) JournalFault) : Type 0 where
  pub idle : records ≡ [] → new ≡ old
  pub unfailed : records ≡ [] → IsErrOf result Failed → ⊥
  pub uncut : records ≡ [] → IsErrOf result Cut → ⊥
  pub called : (records ≡ [] → ⊥) → Called f 4 old.disk new.disk result
