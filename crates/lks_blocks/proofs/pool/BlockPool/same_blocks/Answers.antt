use Rattle.std.proofs.Common.{sym, ◌∙◌}
use Rattle.lks_blocks.proofs.Indexes.{indexes_differ}
use Rattle.lks_blocks.proofs.pool.BlockPool.same_blocks.Goals as goal

pub returns-then-index-clause-exact : goal.returns-then-index-clause-exact
returns-then-index-clause-exact c =
    indexes_differ c.args.a.now c.args.b.now c.loop-i.i c.index-a-i.result c.index-b-i.result c.loop-i-test.true
    c.if-a-b.false c.index-a-i.is c.index-b-i.is
    (λ same. c.if-index.true (c.index.ensures ∙ same ∙ sym c.index-in-loop-i.ensures))
