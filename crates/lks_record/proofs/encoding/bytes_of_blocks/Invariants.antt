use Rattle.std.proofs.Common.{◌≤◌, length, take}
use Rattle.std.specs.List.{flat_map}
use Rattle.lks_record.specs.Spelling.{content_bytes}
use Rattle.lks_record.proofs.encoding.bytes_of_blocks.Given as goal

abbrev pub invariant-loop-block : goal.invariant-loop-block
invariant-loop-block l = l.bytes ≤ length (flat_map content_bytes (take l.block-index l.blocks))
