use Rattle.std.proofs.Common.{◌≡◌, take}
use Rattle.lks_blocks.specs.Block.{AllOf, bytes_of}
use Rattle.lks_versions.proofs.versions.put_each.Given as goal

abbrev pub invariant-loop-bytes : goal.invariant-loop-bytes
invariant-loop-bytes g l =
    record { bytes : bytes_of l.refs.items ≡ take l.bytes-index l.blocks; of : AllOf l.pool l.refs.items }
