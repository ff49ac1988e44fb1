use Rattle.std.proofs.Common.{◌≡◌, ◌++◌, drop}
use Rattle.lks_blocks.specs.Block.{bytes_of}
use Rattle.lks_hash.specs.Running.{hashes_of}
use Rattle.lks_work.proofs.hashing.hash_blocks.Given as goal

abbrev pub invariant-loop-r : goal.invariant-loop-r
invariant-loop-r g l = record {
  second : l.chain.second ≡ l.second;
  hashes : l.hashes.items ++ hashes_of l.second l.chain.last (bytes_of (drop l.r-index l.refs))
      ≡ hashes_of l.second l.fn.key (bytes_of l.refs);
}
