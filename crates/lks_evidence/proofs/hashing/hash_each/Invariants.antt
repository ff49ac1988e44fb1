use Rattle.std.proofs.Common.{◌≡◌, ◌++◌, drop}
use Rattle.lks_hash.specs.Running.{hashes_of}
use Rattle.lks_evidence.proofs.hashing.hash_each.Given as goal

abbrev pub invariant-loop-block : goal.invariant-loop-block
invariant-loop-block g l =
    l.hashes.items ++ hashes_of l.second l.last (drop l.block-index l.blocks) ≡ hashes_of l.second l.fn.key l.blocks
