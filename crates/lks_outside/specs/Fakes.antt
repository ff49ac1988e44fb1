-- A source and a sink in memory.
use Rattle.std.specs.Prelude.{ℕ, Bool, ◌==◌, List, ◌++◌, take, drop, Result, Ok, Err}
use Rattle.std.specs.List.{list_any}
use Rattle.lks_outside.specs.Counts.{raised, count_after}
use Rattle.lks_outside.specs.declared.sinks.SinkStop.{SinkStop}
use Rattle.lks_outside.specs.declared.sinks.SinkStop.TheVariants.{Failed, Memory}

pub record SourceState : Type 0 where
  pub left : List ℕ
  -- the numbers of the calls that fail, counted from 1
  pub fail : List ℕ
  -- at most so many bytes are given at once
  pub most : ℕ
  -- the calls so far
  pub calls : ℕ
  pub faults : ℕ

pub record SinkState : Type 0 where
  pub taken : List ℕ
  pub fail : List ℕ
  pub most : ℕ
  pub calls : ℕ
  pub faults : ℕ

-- the call after so many is one that fails
abbrev pub next_fails : List ℕ → ℕ → Bool
next_fails fail calls = list_any (λ k. k == raised calls) fail

-- the source after a read with this answer
abbrev pub after_read : {E : Type 0} → SourceState → Result ℕ E → SourceState
after_read s (Ok n) = record s { left = drop n s.left; calls = raised s.calls }
after_read s (Err e) = record s { calls = raised s.calls; faults = raised s.faults }

-- the sink after a write of this piece with this answer
abbrev pub after_write : SinkState → List ℕ → Result ℕ SinkStop → SinkState
after_write s piece (Ok n) =
    record s { taken = s.taken ++ take n piece; calls = raised s.calls; faults = count_after s.faults piece n }
after_write s piece (Err Failed) = record s { calls = raised s.calls; faults = raised s.faults }
after_write s piece (Err Memory) = s
