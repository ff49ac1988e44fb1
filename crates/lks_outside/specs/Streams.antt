-- What reads take of the bytes that are left, and what writes add to those that were taken.
use Rattle.std.specs.Prelude.{◌≡◌, ◌↔◌, ℕ, ◌+◌, ◌<◌, ◌≤◌, List, [], ◌++◌, length, take, drop, Option, Some, Result}
use Rattle.std.specs.Prelude.{Ok, Err, Vec}
use Rattle.std.specs.declared.alloc.Global.{Global}
use Rattle.lks_outside.specs.declared.sources.ReadStop.{ReadStop}
use Rattle.lks_outside.specs.declared.sources.ReadStop.TheVariants as reading
use Rattle.lks_outside.specs.declared.sinks.SinkStop.{SinkStop}
use Rattle.lks_outside.specs.declared.sinks.SinkStop.TheVariants as taking
use Rattle.lks_outside.specs.declared.sinks.WriteStop.{WriteStop}
use Rattle.lks_outside.specs.declared.sinks.WriteStop.TheVariants as writing

-- a read gave the first n of the bytes that were left, into the front of the buffer
pub record Gave (bytes : List ℕ) (n : ℕ) (old new : List ℕ) (after : Option (List ℕ)) : Type 0 where
  pub within : n ≤ length bytes
  pub buffer : new ≡ take n bytes ++ drop n old
  pub left : after ≡ Some (drop n bytes)
  -- a buffer with room gets nothing exactly at the end
  pub end : 0 < length old → ((n ≡ 0) ↔ (bytes ≡ []))

-- at most this many of the bytes were taken
pub record LosesAtMost (most : ℕ) (bytes : List ℕ) (after : Option (List ℕ)) : Type 0 where
  pub count : ℕ
  pub few : count ≤ most
  pub within : count ≤ length bytes
  pub left : after ≡ Some (drop count bytes)

-- how reading all of these bytes ends, if there are at most so many, and what is left after it
abbrev pub ReadEnds : ℕ → List ℕ → Option (List ℕ) → Result (Vec ℕ Global) ReadStop → Type 0
ReadEnds most bytes after (Ok v) = (v.items ≡ bytes) × (length bytes ≤ most) × (after ≡ Some [])
ReadEnds most bytes after (Err reading.TooLong) = (most < length bytes) × (after ≡ Some (drop (most + 1) bytes))
ReadEnds most bytes after (Err reading.Failed) = LosesAtMost most bytes after
ReadEnds most bytes after (Err reading.Memory) = LosesAtMost most bytes after

-- a front of the piece was added to these bytes, and not all of it
pub record AddsFront (bytes piece : List ℕ) (after : Option (List ℕ)) : Type 0 where
  pub count : ℕ
  pub within : count < length piece
  pub taken : after ≡ Some (bytes ++ take count piece)

-- how a sink's fault is told by what writes to it
abbrev pub told_as : SinkStop → WriteStop
told_as taking.Failed = writing.Failed
told_as taking.Memory = writing.Memory
