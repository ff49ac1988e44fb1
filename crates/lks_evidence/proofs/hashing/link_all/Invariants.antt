use Rattle.std.proofs.Common.{◌≡◌, drop}
use Rattle.lks_hash.specs.Running.{running}
use Rattle.lks_evidence.proofs.hashing.link_all.Given as goal

abbrev pub invariant-loop-block : goal.invariant-loop-block
invariant-loop-block g l = running l.second l.last (drop l.block-index l.blocks) ≡ running l.second l.fn.key l.blocks
