use Rattle.lks_sessions.proofs.Pools.{stays_of}
use Rattle.lks_run_trials.proofs.sessions.take.Goals as goal

pub returns-in-Receive-clause-of : goal.returns-in-Receive-clause-of
returns-in-Receive-clause-of c =
    stays_of c.args.pool.now c.args.sessions.now c.receive.new.self c.receive.ensures.of c.requires.of
