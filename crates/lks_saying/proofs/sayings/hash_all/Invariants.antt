use Rattle.std.proofs.Common.{◌≡◌, take}
use Rattle.lks_hash.specs.Running.{running, hashes_of}
use Rattle.lks_saying.proofs.sayings.hash_all.Given as goal

abbrev pub invariant-loop-block : goal.invariant-loop-block
invariant-loop-block g l = record {
  hashes : l.hashes.items ≡ hashes_of l.second l.fn.key (take l.block-index l.blocks);
  second : l.chain.second ≡ l.second;
  last : l.chain.last ≡ running l.second l.fn.key (take l.block-index l.blocks);
}
