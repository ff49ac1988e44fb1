use Rattle.lks_sessions.proofs.Sending.{can_send}
use Rattle.lks_sessions.proofs.votes.answer_proof.Goals as goal

pub vote_again-requires-clause-sendable : goal.vote_again-requires-clause-sendable
vote_again-requires-clause-sendable c =
    can_send c.args.proof.now.poll c.args.sessions.now c.in-Some-find_cast.session.now c.in-Some-find_cast.ensures.found
    c.requires.sendable
