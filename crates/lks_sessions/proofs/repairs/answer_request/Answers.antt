use Rattle.lks_sessions.proofs.Sending.{can_send, cast_from}
use Rattle.lks_sessions.proofs.repairs.answer_request.Goals as goal

pub serve-requires-clause-of : goal.serve-requires-clause-of
serve-requires-clause-of c =
    cast_from c.args.pool.now c.args.poll c.args.sessions.now c.in-Some.session.now c.in-Some.ensures.found
    c.requires.of

pub serve-requires-clause-sendable : goal.serve-requires-clause-sendable
serve-requires-clause-sendable c =
    can_send c.args.poll c.args.sessions.now c.in-Some.session.now c.in-Some.ensures.found c.requires.sendable
