use Rattle.lks_sessions.proofs.Sending.{can_vote, pinned_from}
use Rattle.lks_sessions.proofs.jobs.accept.Goals as goal

pub vote_done-requires-clause-of : goal.vote_done-requires-clause-of
vote_done-requires-clause-of c =
    pinned_from c.args.pool.now c.args.done.job.poll c.args.sessions.now c.in-Some.session.now
    c.in-Some.ensures.found c.requires.of

pub vote_done-requires-clause-counted : goal.vote_done-requires-clause-counted
vote_done-requires-clause-counted c =
    can_vote c.args.done.job.poll c.args.sessions.now c.in-Some.session.now c.in-Some.ensures.found
    c.requires.sendable
