-- The journal that a disk holds.
use Rattle.std.specs.Prelude.{ℕ, zero, suc, ◌==◌, if◌then◌else◌, List, [], ◌∷◌, length, take, drop, Result, Ok, Err}
use Rattle.std.specs.Int.{from_be_bytes, w32}
use Rattle.lks_base.specs.declared.records.Record.{Record}
use Rattle.lks_disk.specs.Face.{Face}
use Rattle.lks_host.specs.Bodies.{records_of}
use Rattle.lks_record.specs.declared.fault.RecFault.{RecFault}

-- the bodies of the open frames at the front of these bytes, at most so many
unfoldable pub bodies_within : ℕ → List ℕ → List (List ℕ)
bodies_within zero file = []
bodies_within (suc n) [] = []
bodies_within (suc n) (gate ∷ rest) =
    if gate == 165
    then take (from_be_bytes w32 (take 4 rest)) (drop 4 rest)
    ∷ bodies_within n (drop (from_be_bytes w32 (take 4 rest)) (drop 4 rest))
    else []

-- what was read, nothing where there was a fault
abbrev pub list_in : Result (List Record) RecFault → List Record
list_in (Ok list) = list
list_in (Err fault) = []

-- the records of all batches on a disk
unfoldable pub journal_on : {D : Type 0} → Face D → D → List Record
journal_on f disk = list_in (records_of (bodies_within (length (f.seen disk)) (f.seen disk)))
