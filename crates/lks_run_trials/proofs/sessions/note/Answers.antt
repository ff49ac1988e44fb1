use Rattle.lks_sessions.proofs.Pools.{stays_of}
use Rattle.lks_run_trials.proofs.sessions.note.Goals as goal

pub returns-then-low-clause-of : goal.returns-then-low-clause-of
returns-then-low-clause-of c =
    stays_of c.args.pool.now c.args.sessions.now c.join.new.self c.join.ensures.of c.requires.of

pub returns-else-low-clause-of : goal.returns-else-low-clause-of
returns-else-low-clause-of c =
    stays_of c.args.pool.now c.args.sessions.now c.join.new.self c.join.ensures.of c.requires.of

pub returns-in-Voted-clause-of : goal.returns-in-Voted-clause-of
returns-in-Voted-clause-of c =
    stays_of c.args.pool.now c.args.sessions.now c.cast.new.self c.cast.ensures.of c.requires.of

pub returns-in-Served-clause-of : goal.returns-in-Served-clause-of
returns-in-Served-clause-of c =
    stays_of c.args.pool.now c.args.sessions.now c.serve.new.self c.serve.ensures.of c.requires.of

pub returns-in-Ended-clause-of : goal.returns-in-Ended-clause-of
returns-in-Ended-clause-of c =
    stays_of c.args.pool.now c.args.sessions.now c.end.new.self c.end.ensures.of c.requires.of
