-- One turn of a loop that reads a source to its end.
use Rattle.std.specs.Prelude.{◌≡◌, ℕ, ◌+◌, ◌<◌, ◌≤◌, List, [], ◌++◌, length, take, drop, Option, Some, Result, Ok, Err}
use Rattle.lks_outside.specs.declared.sources.ReadStop.{ReadStop}
use Rattle.lks_outside.specs.declared.sources.ReadStop.TheVariants.{Failed, TooLong, Memory}
use Rattle.lks_outside.specs.Streams.{LosesAtMost}

-- how a turn with room for so many bytes ends, which puts what came behind the bytes so far
abbrev pub TurnEnds : ℕ → List ℕ → List ℕ → List ℕ → Option (List ℕ) → Result ℕ ReadStop → Type 0
TurnEnds room bytes old new after (Ok n) =
    (new ≡ old ++ take n bytes) × (n ≤ length bytes) × (after ≡ Some (drop n bytes)) × (n ≡ 0 → bytes ≡ [])
TurnEnds room bytes old new after (Err TooLong) = (room < length bytes) × (after ≡ Some (drop (room + 1) bytes))
TurnEnds room bytes old new after (Err Failed) = LosesAtMost room bytes after
TurnEnds room bytes old new after (Err Memory) = LosesAtMost room bytes after
