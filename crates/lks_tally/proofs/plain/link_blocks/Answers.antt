use Rattle.lks_tally.proofs.Steps.{link, cost_more}
use Rattle.lks_tally.proofs.plain.link_blocks.Goals as goal

pub loop-b-preserved : goal.loop-b-preserved
loop-b-preserved g c =
    let next = link 0 c.args.ballot.now c.args.votes.now (g.C.Contents.blocks c.args.copy.now) c.loop-b.b _ _ _ _
    c.second-second.ensures c.loop-b.invariant.heads c.block.ensures c.advance.ensures.heads in
    record { heads = next.0; cost = cost_more _ _ _ _ _ _ c.loop-b.invariant.cost c.advance.ensures.cost next.1 }
