use Rattle.std.proofs.Common.{subst}
use Rattle.lks_base.specs.declared.plans.Plan.{Plan}
use Rattle.lks_watch.specs.Watching.{ears}
use Rattle.lockss.proofs.Played.{comes_first}
use Rattle.lockss.specs.Handed.{senses}
use Rattle.lockss.specs.Playing.{TellsFirst}
use Rattle.lockss.proofs.playing.play_in.Goals as goal

pub returns-in-Ok-clause-comes : goal.returns-in-Ok-clause-comes
returns-in-Ok-clause-comes g c =
    let e = senses g.D.Disk.face (ears g.J.EffortJudge.heard g.J.EffortJudge.verdict g.B.Bell.rung g.B.Bell.limit)
    g.K.Sink.taken g.K.Sink.faults in
    let first = c.args.world.now in
    let now = c.perform_all.new.world in
    let done = c.in-Ok.ensures in
    comes_first e c.args.command c.args.steps.now first now c.args.sink.now c.tell_first.new.sink c.tell_first.result
    (subst
    (λ (p : Plan). TellsFirst e c.args.command p now.history c.args.sink.now c.tell_first.new.sink
    c.tell_first.result) c.perform_all.ensures.remembers.plan c.tell_first.ensures.tells)
    (λ answer told.
    record {
      follows = done.follows;
      watches = done.watches;
      running = done.stopped;
      serves = done.serves;
      power = done.power;
      spent = done.spent;
      told = told;
    })
