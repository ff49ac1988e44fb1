use Rattle.lks_race.proofs.Going.{goes_then}
use Rattle.lks_race.specs.Racing.{begin_of}
use Rattle.lks_race.proofs.races.finish.Goals as goal

pub returns-then-not-finish_one-clause-on : goal.returns-then-not-finish_one-clause-on
returns-then-not-finish_one-clause-on g c =
    goes_then (begin_of c.args.world.now) c.loop.world c.finish_one.new.world c.loop.invariant.1 c.finish_one.ensures.on

pub loop-preserved : goal.loop-preserved
loop-preserved g c = (
  (tt, tt),
  goes_then (begin_of c.args.world.now) c.loop.world c.finish_one.new.world c.loop.invariant.1 c.finish_one.ensures.on,
)
