use Rattle.std.proofs.Common.{refl}
use Rattle.lks_watch.specs.Watching.{ears}
use Rattle.lockss.proofs.Raced.{comes_out}
use Rattle.lockss.specs.Handed.{senses}
use Rattle.lockss.proofs.racing.race_in.Goals as goal

pub returns-in-Ok-clause-comes : goal.returns-in-Ok-clause-comes
returns-in-Ok-clause-comes g c =
    let e = senses g.D.Disk.face (ears g.J.EffortJudge.heard g.J.EffortJudge.verdict g.B.Bell.rung g.B.Bell.limit)
    g.K.Sink.taken g.K.Sink.faults in
    let done = c.in-Ok.ensures in
    comes_out e c.args.steps.now c.args.world c.race_and_tell.result.0 c.args.sink.now c.race_and_tell.new.sink
    c.race_and_tell.result.1
    (record {
      mid = c.perform_all.new.world;
      remembers = done.remembers;
      turns = done.turns;
      follows = done.follows;
      runs = c.race_and_tell.ensures.runs;
    })
    c.race_and_tell.ensures.ends

pub returns-in-Err-clause-comes : goal.returns-in-Err-clause-comes
returns-in-Err-clause-comes g c =
    let at = c.in-Err.ensures in (
      at.remembers.plan,
      record { off = at.off; serves = at.serves; power = at.power; spent = at.spent_up_to; silent = refl },
    )
