use Rattle.lks_sessions.proofs.Sending.{can_vote, pinned_from}
use Rattle.lks_sessions.proofs.votes.work.Goals as goal

pub vote-requires-clause-of : goal.vote-requires-clause-of
vote-requires-clause-of c =
    pinned_from c.args.pool.now c.args.poll c.args.sessions.now c.in-Some.session.now c.in-Some.ensures.found
    c.requires.of

pub vote-requires-clause-counted : goal.vote-requires-clause-counted
vote-requires-clause-counted c =
    can_vote c.args.poll c.args.sessions.now c.in-Some.session.now c.in-Some.ensures.found c.requires.sendable
