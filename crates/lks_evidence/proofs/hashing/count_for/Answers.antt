use Rattle.std.proofs.Common.{◌∙◌}
use Rattle.lks_evidence.proofs.Fronts.{for_next}
use Rattle.lks_evidence.proofs.hashing.count_for.Goals as goal

pub returns-clause-count : goal.returns-clause-count
returns-clause-count c =
    c.count_linked.ensures.count
    ∙ for_next c.args.ballot.now c.args.copy.now c.args.b c.second.result c.args.votes.now c.args.hashes.now _
    c.second.ensures c.requires c.block_at.ensures
