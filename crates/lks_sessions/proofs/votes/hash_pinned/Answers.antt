use Rattle.std.proofs.Common.{List, subst}
use Rattle.lks_blocks.specs.Block.{Block}
use Rattle.lks_sessions.proofs.Sending.{vote_seen, vote_count}
use Rattle.lks_sessions.specs.Working.{IsJobOf}
use Rattle.lks_sessions.proofs.votes.hash_pinned.Goals as goal

pub returns-in-Ok-clause-few : goal.returns-in-Ok-clause-few
returns-in-Ok-clause-few c =
    let own = c.args.own.now in
    let p = c.args.session.now in
    let job : IsJobOf own p p.refs c.job_of-job.result = subst
    (λ (blocks : List Block). IsJobOf own p blocks c.job_of-job.result) c.in_ok-clone.ensures.cases
    c.job_of-job.ensures.job in
    vote_count own p c.in-Ok.done.hashes
    (vote_seen own p c.job_of-job.result c.in-Ok.done.hashes job c.in-Ok.ensures.hashes) c.requires.counted
