-- Which records the bytes of a journal spell: frames of batches, one after another, and a closed gate `00`, which is
-- the last byte.
use Rattle.std.specs.Prelude.{◌≡◌, ◌==◌, ◌&&◌, ℕ, zero, suc, if◌then◌else◌, Option, Some, None, Ok, Err, List, []}
use Rattle.std.specs.Prelude.{◌∷◌, ◌++◌, length, map, All}
use Rattle.std.specs.Int.{w32}
use Rattle.std.specs.List.{flat_map}
use Rattle.std.specs.Option.{option_map}
use Rattle.lks_base.specs.declared.records.Record.{Record}
use Rattle.lks_field.specs.Frames.{frames, AreBodies}
use Rattle.lks_field.specs.Reading.{number_at, sized_at}
use Rattle.lks_record.specs.Reading.{decode_of}
use Rattle.lks_record.specs.Spelling.{batch_spelling, IsBatch}
use Rattle.lks_words.specs.Numbers.{◌>>=◌}

-- the records of a batch
unfoldable pub batch_in : List ℕ → Option (List Record)
batch_in body = elim (decode_of body) [ Ok batch ↦ Some batch | Err fault ↦ None ]

-- behind an open gate: a body behind its length, four bytes, and what comes next
unfoldable pub frame_in : List ℕ → Option (List ℕ × List ℕ)
frame_in bytes = elim (sized_at (number_at w32) bytes) [ Ok found ↦ Some found | Err fault ↦ None ]

-- the same where the body is a batch
unfoldable pub batch_at : List ℕ → Option (List Record × List ℕ)
batch_at bytes = do
  frame ← frame_in bytes
  batch ← batch_in frame.0
  Some (batch, frame.1)

-- the batch in the frame at the front and what comes next, or none where a closed gate `00` is the last byte
unfoldable pub front_in : List ℕ → Option (Option (List Record × List ℕ))
front_in [] = None
front_in (gate ∷ bytes) =
    if gate == 165 then option_map (λ found. Some found) (batch_at bytes)
    else if gate == 0 && length bytes == 0 then Some None
    else None

-- the records from a front on
abbrev pub records_from : (List ℕ → Option (List Record)) → Option (List Record × List ℕ) → Option (List Record)
records_from more None = Some []
records_from more (Some found) = option_map (λ list. found.0 ++ list) (more found.1)

-- the records of bytes that are no more than this
unfoldable pub records_in : ℕ → List ℕ → Option (List Record)
records_in zero bytes = None
records_in (suc n) bytes = front_in bytes >>= λ front. records_from (records_in n) front

-- the records that the bytes spell as a journal, all of them
unfoldable pub journal_in : List ℕ → Option (List Record)
journal_in file = records_in (length file) file

-- The same in the words of frames: the bytes are the frames of batches and one closed gate, and the records are those
-- of the batches, one after another.
pub record Spells (file : List ℕ) (list : List Record) : Type 0 where
  pub batches : List (List Record)
  pub are : All IsBatch batches
  pub sized : AreBodies (map batch_spelling batches)
  pub file_is : file ≡ frames (map batch_spelling batches) ++ 0 ∷ []
  pub list_is : list ≡ flat_map (λ batch. batch) batches
