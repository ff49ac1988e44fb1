use Rattle.std.proofs.Common.{◌≡◌, ℕ, ◌+◌, ◌-◌, List, take}
use Rattle.lks_hash.specs.Running.{running}
use Rattle.lks_tally.proofs.trials.link_to.Given as goal

abbrev pub invariant-loop-k : goal.invariant-loop-k
invariant-loop-k g l = let blocks = g.C.Contents.blocks l.copy in record {
  second : l.chain.second ≡ l.second;
  last : (key : List ℕ) → l.fn.head ≡ running l.second key (take l.from blocks)
      → l.chain.last ≡ running l.second key (take l.k blocks);
  cost : l.steps ≡ l.initial.steps + (l.k - l.from);
}
