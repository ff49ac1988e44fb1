use Rattle.std.proofs.Common.{sym, subst}
use Rattle.std.specs.Prelude.{Some}
use Rattle.lks_words.specs.declared.commands.Command.{Command}
use Rattle.lks_watch.specs.Watching.{ears}
use Rattle.lockss.proofs.Examined.{examined}
use Rattle.lockss.specs.Handed.{devices, senses}
use Rattle.lockss.specs.Promise.{Comes}
use Rattle.lockss.specs.declared.ends.End.TheVariants as end
use Rattle.lockss.proofs.runs.obey.Goals as goal

pub returns-in-Ok-clause-comes : goal.returns-in-Ok-clause-comes
returns-in-Ok-clause-comes g c =
    let e = senses g.D.Disk.face (ears g.J.EffortJudge.heard g.J.EffortJudge.verdict g.B.Bell.rung g.B.Bell.limit)
    g.K.Sink.taken g.K.Sink.faults in
    let given = devices c.args.disks.now.items c.args.sink.now c.args.judge.now c.args.bells.now.items in
    let after = devices c.args.disks.now.items c.tell_finding.new.sink c.args.judge.now c.args.bells.now.items in
    subst
    (λ (k : Command). Comes g.S.Source.left g.S.Source.faults e c.args.source.now c.find_doubt.new.source given
    after (Some k) (end.Examined c.tell_finding.result)) (sym c.in-Evidence.is)
    (examined g.S.Source.left g.S.Source.faults e c.args.source.now c.find_doubt.new.source given
    c.tell_finding.new.sink c.in-Ok.finding c.in-Ok.ensures.finds c.tell_finding.result
    c.tell_finding.ensures.writes)
