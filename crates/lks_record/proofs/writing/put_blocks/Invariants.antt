use Rattle.std.proofs.Common.{◌≡◌, ◌++◌, length, take}
use Rattle.std.specs.Int.{w16, to_be_bytes}
use Rattle.std.specs.List.{flat_map}
use Rattle.lks_record.specs.Spelling.{content_bytes}
use Rattle.lks_record.proofs.writing.put_blocks.Given as goal

abbrev pub invariant-loop-block : goal.invariant-loop-block
invariant-loop-block l =
    l.out.items
    ≡ l.fn.out.items
    ++ (to_be_bytes w16 (length l.blocks) ++ flat_map content_bytes (take l.block-index l.blocks))
