use Rattle.std.proofs.Common.{sym, subst}
use Rattle.lks_blocks.specs.Block.{AllOf}
use Rattle.lks_sessions.proofs.Sending.{can_vote, pinned_from}
use Rattle.lks_sessions.proofs.jobs.job.Goals as goal

pub job_pinned-requires : goal.job_pinned-requires
job_pinned-requires c =
    can_vote c.args.poll c.args.sessions.now c.in-Some.session.now c.in-Some.ensures.found c.requires.sendable

pub returns-in_ok-job_pinned-in-Some-clause-of : goal.returns-in_ok-job_pinned-in-Some-clause-of
returns-in_ok-job_pinned-in-Some-clause-of c = λ pool of.
    subst (AllOf pool) (sym c.in_ok-job_pinned-in-Some.ensures.refs)
    (pinned_from pool c.args.poll c.args.sessions.now c.in-Some.session.now c.in-Some.ensures.found of)
