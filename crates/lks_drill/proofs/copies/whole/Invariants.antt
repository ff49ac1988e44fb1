use Rattle.std.proofs.Common.{◌≡◌, map}
use Rattle.std.specs.List.{range_with_len}
use Rattle.lks_drill.specs.Drill.{block_of}
use Rattle.lks_drill.proofs.copies.whole.Given as goal

abbrev pub invariant-loop-i : goal.invariant-loop-i
invariant-loop-i l = l.blocks.items ≡ map block_of (range_with_len 0 l.i)
