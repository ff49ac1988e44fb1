use Rattle.lks_race.proofs.Going.{goes_then, runs}
use Rattle.lks_race.specs.Racing.{begin_of}
use Rattle.lks_watch.specs.Watching.{ears}
use Rattle.lks_race.proofs.races.race_on.Goals as goal

pub returns-clause-runs : goal.returns-clause-runs
returns-clause-runs g c =
    runs g.D.Disk.face (ears g.J.EffortJudge.heard g.J.EffortJudge.verdict g.B.Bell.rung g.B.Bell.limit)
    c.args.world c.finish.new.world
    (goes_then (begin_of c.args.world) c.raced-world.result.0 c.finish.new.world c.raced-world.ensures.on
    c.finish.ensures.on)
    c.finish.ensures.over c.known.ensures.watched c.known.ensures.halted c.known.ensures.served
