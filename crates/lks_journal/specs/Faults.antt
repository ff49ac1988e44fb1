-- Why a journal refuses, and what the calls of its disk did to the fuse.
use Rattle.std.specs.Prelude.{◌≡◌, ℕ, true, false, ◌+◌, ◌<◌, ◌≤◌, Result, Ok, Err, OnOk, IsErrOf}
use Rattle.lks_disk.specs.Counts.{Rose, raised}
use Rattle.lks_disk.specs.Device.{FuseTold}
use Rattle.lks_disk.specs.declared.disks.DiskFail.{DiskFail}
use Rattle.lks_disk.specs.declared.disks.DiskFail.TheVariants as device
use Rattle.lks_journal.specs.declared.faults.JournalFault.{JournalFault}
use Rattle.lks_journal.specs.declared.faults.JournalFault.TheVariants.{Full, Damaged, Failed, Cut, Memory}

-- what a journal says of a refusal of its disk
abbrev pub told_as : DiskFail → JournalFault
told_as device.Failed = Failed
told_as device.Cut = Cut
told_as device.Memory = Memory

-- an answer that is not the journal's own
abbrev pub IsOfDisk : {T : Type 0} → Result T JournalFault → Type 0
IsOfDisk (Ok _) = Unit {0}
IsOfDisk (Err Full) = ⊥
IsOfDisk (Err (Damaged offset)) = ⊥
IsOfDisk (Err Failed) = Unit {0}
IsOfDisk (Err Cut) = Unit {0}
IsOfDisk (Err Memory) = Unit {0}

-- `Failed` is answered only where the disk's count of faults rose in the call. It never falls, and it rises with no
-- other answer of its disk: no fault is passed over.
pub record HasCause {T : Type 0} (before now : ℕ) (result : Result T JournalFault) : Type 0 where
  pub later : before ≤ now
  pub failed : IsErrOf result Failed → Rose before now
  pub ok : OnOk result (now ≡ before)
  pub cut : IsErrOf result Cut → now ≡ before
  pub memory : IsErrOf result Memory → now ≡ before
  pub damaged : (offset : ℕ) → IsErrOf result (Damaged offset) → now ≡ before

-- What so many writes and syncs did to the fuse: `Ok` only where it let that many pass, and `Cut` only where
-- it let fewer pass and has burned. The count of burned fuses rises by one with the call that burns it, and with no
-- other.
pub record FuseRun {T : Type 0} (calls : ℕ) (old new : FuseTold) (result : Result T JournalFault) : Type 0 where
  pub stays_set : new.set ≡ old.set
  pub same_calls : new.calls ≡ old.calls
  pub same_choice : new.choice ≡ old.choice
  pub same_cuts : new.cuts ≡ old.cuts
  pub passes : OnOk result (old.set ≡ true → new.left + calls ≡ old.left)
  pub lower : new.left ≤ old.left
  pub cut : IsErrOf result Cut → (old.set ≡ true) × (old.left < calls) × (new.burned ≡ true)
  pub stays_burned : old.burned ≡ true → new.burned ≡ true
  pub later : old.burns ≤ new.burns
  pub burn : old.burned ≡ false → new.burned ≡ true → new.burns ≡ raised old.burns
  pub ends : old.burned ≡ false → new.burned ≡ true → IsErrOf result Cut
  pub no_burn : new.burned ≡ old.burned → new.burns ≡ old.burns
  pub unburned : OnOk result (new.burns ≡ old.burns)
  pub unset : old.set ≡ false → new.burns ≡ old.burns
