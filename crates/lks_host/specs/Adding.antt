-- Whether a batch is what was added.
use Rattle.std.specs.Prelude.{◌≡◌, ◌⊎◌, ℕ, Bool, false, Ok, List, map}
use Rattle.lks_base.specs.declared.records.Record.{Record}
use Rattle.lks_law.specs.Facts.{unnumbered}
use Rattle.lks_record.specs.Reading.{decode_of}
use Rattle.lks_record.specs.Spelling.{batch_spelling, IsBatch}

-- it is these records, or these without their numbers where nothing was tuned
abbrev pub IsAdded : Bool → List Record → List Record → Type 0
IsAdded tuned records batch = (batch ≡ records) ⊎ ((tuned ≡ false) × (batch ≡ map unnumbered records))

-- the body is the one spelling of this batch
pub record Spells (body : List ℕ) (batch : List Record) : Type 0 where
  pub is : IsBatch batch
  pub read : decode_of body ≡ Ok batch
  pub spelled : body ≡ batch_spelling batch
