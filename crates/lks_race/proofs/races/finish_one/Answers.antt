use Rattle.lks_race.proofs.Going.{goes_then}
use Rattle.lks_race.specs.Racing.{begin_of}
use Rattle.lks_race.proofs.races.finish_one.Goals as goal

pub returns-in-Work-clause-on : goal.returns-in-Work-clause-on
returns-in-Work-clause-on g c =
    goes_then (begin_of c.args.world.now) c.meet.new.world c.hash_and_give.new.world c.meet.ensures.on
    c.hash_and_give.ensures.on
