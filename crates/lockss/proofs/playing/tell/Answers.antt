use Rattle.std.proofs.Common.{ap}
use Rattle.std.specs.Prelude.{Err}
use Rattle.lockss.proofs.Telling.{adds_all, adds_less, alarmed_as}
use Rattle.lockss.specs.Deeds.{deed_of}
use Rattle.lockss.proofs.playing.tell.Goals as goal

pub returns-in-Ok-clause-tells : goal.returns-in-Ok-clause-tells
returns-in-Ok-clause-tells g c =
    let plan = c.args.world.now.plan in
    let history = c.args.world.now.history in
    let entries_are = c.history-history.ensures.entries in (
      alarmed_as (deed_of c.args.command).told plan c.plan.result.now history c.history-history.result.now
          c.plan.ensures entries_are c.has_alarm.result c.has_alarm.ensures,
      adds_all (deed_of c.args.command).told plan c.plan.result.now history c.history-history.result.now
          c.plan.ensures entries_are
          (g.K.Sink.taken c.args.sink.now) (g.K.Sink.taken c.write.new.sink) c.in-Ok.ensures.whole,
    )

pub returns-in-Err-clause-tells : goal.returns-in-Err-clause-tells
returns-in-Err-clause-tells g c = (
  λ is. c.in-Err.ensures.failed (ap Err is),
  adds_less (deed_of c.args.command).told c.args.world.now.plan c.plan.result.now c.args.world.now.history
      c.history-history.result.now c.plan.ensures (c.history-history.ensures.entries)
      (g.K.Sink.taken c.args.sink.now) (g.K.Sink.taken c.write.new.sink) c.in-Err.ensures.part,
)
