use Rattle.std.proofs.Common.{◌∙◌}
use Rattle.lks_evidence.proofs.Fronts.{heads_on}
use Rattle.lks_evidence.proofs.hashing.reach.Goals as goal

pub loop-b-preserved : goal.loop-b-preserved
loop-b-preserved c =
    c.link_each.ensures
    ∙ heads_on c.args.ballot.now c.args.blocks.now c.loop-b.b c.second-second.result c.args.votes.now
    c.loop-b.hashes _ c.second-second.ensures c.loop-b.invariant c.block_at.ensures
