-- How the bytes of a journal are read.
use Rattle.std.specs.Prelude.{◌≡◌, ◌≢◌, ◌⊎◌, ℕ, ◌^◌, ◌<◌, List, [], ◌∷◌, ◌++◌, length}
use Rattle.lks_field.specs.Frames.{frame, frames, AreBodies, IsDamagedAt, IsCutShort}
use Rattle.lks_journal.specs.declared.frames.Front.{Front}
use Rattle.lks_journal.specs.declared.frames.Front.TheVariants.{Shut, Short, Whole}
use Rattle.lks_journal.specs.declared.faults.JournalFault.{JournalFault}
use Rattle.lks_journal.specs.declared.faults.JournalFault.TheVariants.{Full, Damaged, Failed, Cut, Memory}

-- the front of what is left of the bytes: a closed gate
pub record IsShut (rest : List ℕ) : Type 0 where
  pub gate : ℕ
  pub tail : List ℕ
  pub shut : gate ≢ 165
  pub rest_is : rest ≡ gate ∷ tail

-- or a whole frame, and at least the next gate
pub record IsWhole (rest body after : List ℕ) : Type 0 where
  pub fits : length body < 2 ^ 32
  pub rest_is : rest ≡ frame body ++ after
  pub more : 0 < length after

-- the frames so far, and what is left
pub record IsScanned (file : List ℕ) (bodies : List (List ℕ)) (rest : List ℕ) : Type 0 where
  pub are : AreBodies bodies
  pub file_is : file ≡ frames bodies ++ rest
  pub begun : (bodies ≡ []) ⊎ (0 < length rest)

-- what was found at the front
abbrev pub IsFront : List ℕ → Front → Type 0
IsFront rest Shut = IsShut rest
IsFront rest Short = (rest ≡ []) ⊎ IsCutShort rest
IsFront rest (Whole body after) = IsWhole rest body.now after.now

-- why bytes aren't a journal's, or weren't read
abbrev pub IsScanFault : List ℕ → JournalFault → Type 0
IsScanFault file Full = ⊥
IsScanFault file (Damaged offset) = IsDamagedAt file offset
IsScanFault file Failed = ⊥
IsScanFault file Cut = ⊥
IsScanFault file Memory = Unit {0}
