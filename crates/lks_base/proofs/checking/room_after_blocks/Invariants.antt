use Rattle.std.proofs.Common.{◌≡◌, ◌+◌, drop}
use Rattle.lks_base.specs.Checking.{bytes_of_blocks}
use Rattle.lks_base.proofs.checking.room_after_blocks.Given as goal

abbrev pub invariant-loop-block : goal.invariant-loop-block
invariant-loop-block l = l.fn.room + bytes_of_blocks (drop l.block-index l.blocks) ≡ l.room + bytes_of_blocks l.blocks
