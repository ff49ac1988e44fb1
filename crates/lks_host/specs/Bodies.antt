-- A journal as it lies on a disk.
use Rattle.std.specs.Prelude.{◌≡◌, ◌-◌, ℕ, List, [], ◌∷◌, ◌++◌, length, Option, Some, None, unwrap_or, slice_get}
use Rattle.std.specs.Prelude.{Result, Ok, Err, map}
use Rattle.lks_base.specs.declared.records.Record.{Record}
use Rattle.lks_record.specs.Reading.{decode_of}
use Rattle.lks_record.specs.declared.fault.RecFault.{RecFault}
use Rattle.lks_record.specs.Spelling.{batch_spelling}
use Rattle.lks_host.specs.Fits.{IsSpelled}

-- one body a batch
abbrev pub bodies_of : List (List Record) → List (List ℕ)
bodies_of batches = map batch_spelling batches

-- these records, if there are any, are read back
abbrev pub ReadBack : List Record → Type 0
ReadBack records = (records ≡ [] → ⊥) → IsSpelled records

-- each batch is read back from its body
abbrev pub AreRead : List (List Record) → Type 0
AreRead [] = Unit {0}
AreRead (batch ∷ batches) = (decode_of (batch_spelling batch) ≡ Ok batch) × AreRead batches

-- records in front of others, unless there was a fault
abbrev pub with_front : List Record → Result (List Record) RecFault → Result (List Record) RecFault
with_front front (Ok more) = Ok (front ++ more)
with_front front (Err fault) = Err fault

-- these records and the rest, or the first fault
abbrev pub read_on : Result (List Record) RecFault → Result (List Record) RecFault → Result (List Record) RecFault
read_on (Ok first) rest = with_front first rest
read_on (Err fault) rest = Err fault

-- the records that bodies spell, or the first fault
unfoldable pub records_of : List (List ℕ) → Result (List Record) RecFault
records_of [] = Ok []
records_of (body ∷ bodies) = read_on (decode_of body) (records_of bodies)

-- the records of a body that may not be there
abbrev pub records_at : Option (List ℕ) → Result (List Record) RecFault
records_at None = Ok []
records_at (Some body) = decode_of body

-- the records of the last body
unfoldable pub last_of : List (List ℕ) → Result (List Record) RecFault
last_of bodies = records_at (slice_get bodies (length bodies - 1))

-- the last batch, or no records where there is none
abbrev pub last_batch : List (List Record) → List Record
last_batch batches = unwrap_or (slice_get batches (length batches - 1)) []
