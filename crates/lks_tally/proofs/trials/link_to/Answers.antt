use Rattle.std.proofs.Common.{ap, ◌∙◌, arith}
use Rattle.lks_tally.proofs.RowLaws.{link_last, link_next}
use Rattle.lks_tally.proofs.trials.link_to.Goals as goal

pub loop-k-preserved : goal.loop-k-preserved
loop-k-preserved g c = record {
  second = ap (λ p. p.second) c.add.ensures.chain ∙ c.loop-k.invariant.second;
  last = λ key head_is.
      ap (λ p. p.last) c.add.ensures.chain
      ∙ link_next _ key _ _ _ _ (g.C.Contents.blocks c.args.copy.now) c.loop-k.k c.loop-k.invariant.second
      (c.loop-k.invariant.last key head_is)
      c.block.ensures c.add.ensures.hash;
  cost = omega arith;
}

pub returns-clause-hash : goal.returns-clause-hash
returns-clause-hash g c = λ key head_is.
    link_last _ key _ _ _ _ (g.C.Contents.blocks c.args.copy.now) c.loop-k.k c.args.b c.loop-k.invariant.second
    (c.loop-k.invariant.last key head_is)
    (omega arith) c.add-2.ensures.hash
