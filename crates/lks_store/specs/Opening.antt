-- Stores that are opened.
use Rattle.std.specs.Prelude.{◌≡◌, ◌↔◌, ◌≤◌, ℕ, false, List, Result, OnOk, IsErrOf}
use Rattle.lks_disk.specs.Counts.{Rose}
use Rattle.lks_disk.specs.Device.{Only}
use Rattle.lks_disk.specs.Face.{Face}
use Rattle.lks_store.specs.declared.openers.OpenStop.{OpenStop}
use Rattle.lks_store.specs.declared.openers.OpenStop.TheVariants.{Failed, Memory}

-- nothing is pending on the disk, and no fuse is set
pub record IsIdle {D : Type 0} (f : Face D) (disk : D) : Type 0 where
  pub settled : f.told disk → Only (f.seen disk) (f.may_leave disk)
  pub unfused : f.fused disk ≡ false

-- the store is as it was told: it tells its bytes where this was said, which are these, and it has failed so often
pub record IsOpened {D : Type 0} (f : Face D) (tells : Type 0) (content : List ℕ) (count : ℕ) (store : D) : Type 0 where
  pub told : tells ↔ f.told store
  pub bytes : tells → f.seen store ≡ content
  pub faults : f.faults store ≡ count
  pub idle : IsIdle f store

-- `Failed` is answered only where the count of faults rose in the call. It never falls, and it rises with no other
-- answer.
pub record HasCause {T : Type 0} (before now : ℕ) (result : Result T OpenStop) : Type 0 where
  pub later : before ≤ now
  pub failed : IsErrOf result Failed → Rose before now
  pub ok : OnOk result (now ≡ before)
  pub memory : IsErrOf result Memory → now ≡ before

-- what was told of a store before is told of it now
pub record TellsTheSame (before now : Type 0) (content content_now : List ℕ) (count count_now : ℕ) : Type 0 where
  pub told : before ↔ now
  pub bytes : content_now ≡ content
  pub faults : count_now ≡ count
