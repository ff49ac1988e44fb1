use Rattle.std.proofs.Common.{◌∙◌, ap, sym, subst, arith, refl}
use Rattle.std.specs.Prelude.{Some}
use Rattle.lks_base.proofs.PlanBounds.{few_peers}
use Rattle.lks_watch.specs.Watching.{ears}
use Rattle.lks_world.specs.Held.{AreUnfused}
use Rattle.lockss.proofs.Played.{can_read_as, never_begins, none_made, played_as}
use Rattle.lockss.specs.Deeds.{deed_of}
use Rattle.lockss.specs.Handed.{devices, senses}
use Rattle.lockss.proofs.playing.play.Goals as goal

pub start-requires-clause-enough : goal.start-requires-clause-enough
start-requires-clause-enough g c = λ κs lives.
    let few = few_peers c.args.script.plan c.requires.good in
    omega (arith, few, c.requires.given.enough)

pub go_on-requires-clause-can : goal.go_on-requires-clause-can
go_on-requires-clause-can g c = λ κs lives.
    let e = senses g.D.Disk.face (ears g.J.EffortJudge.heard g.J.EffortJudge.verdict g.B.Bell.rung g.B.Bell.limit)
    g.K.Sink.taken g.K.Sink.faults in
    let before = devices c.args.disks.now.items c.args.sink.now c.args.judge.now c.args.bells.now.items in
    let mid = devices c.hand_back.new.disks.items c.play_in-progress.new.sink c.hand_back.new.judge
    c.hand_back.new.bells.items in
    let starts = c.in-Ok-start.ensures.starts in
    can_read_as e c.args.command c.args.script before mid c.in-Ok-start.world c.play_in-progress.new.world
    c.as_slice.result.now starts.asked
    c.requires.good c.requires.given starts.is _ _ starts.begins c.as_slice.ensures c.play_in-progress.ensures.plan
    (c.hand_back.ensures.disks ∙ c.into_parts.ensures.disks)
    (c.hand_back.ensures.judge ∙ ap Some c.into_parts.ensures.watched.0)
    (c.hand_back.ensures.bells ∙ c.into_parts.ensures.watched.1)
    starts.made starts.calm c.into_parts.ensures.happened c.into_parts.ensures.holds c.play_in-progress.result
    c.play_in-progress.ensures.comes
    (subst (AreUnfused g.D.Disk.face) (sym c.hand_back.ensures.disks) c.into_parts.ensures.unfused)

pub returns-clause-plays : goal.returns-clause-plays
returns-clause-plays g c =
    let e = senses g.D.Disk.face (ears g.J.EffortJudge.heard g.J.EffortJudge.verdict g.B.Bell.rung g.B.Bell.limit)
    g.K.Sink.taken g.K.Sink.faults in
    let before = devices c.args.disks.now.items c.args.sink.now c.args.judge.now c.args.bells.now.items in
    let mid = devices c.hand_back.new.disks.items c.play_in-progress.new.sink c.hand_back.new.judge
    c.hand_back.new.bells.items in
    let after = devices c.go_on.new.disks.items c.go_on.new.sink c.hand_back.new.judge c.hand_back.new.bells.items in
    let starts = c.in-Ok-start.ensures.starts in
    played_as e c.args.command c.args.script before mid c.in-Ok-start.world c.play_in-progress.new.world
    c.as_slice.result.now starts.asked
    c.requires.good c.requires.given starts.is _ _ starts.begins c.as_slice.ensures c.play_in-progress.ensures.plan
    (c.hand_back.ensures.disks ∙ c.into_parts.ensures.disks)
    (c.hand_back.ensures.judge ∙ ap Some c.into_parts.ensures.watched.0)
    (c.hand_back.ensures.bells ∙ c.into_parts.ensures.watched.1)
    starts.made starts.calm c.into_parts.ensures.happened c.into_parts.ensures.holds after refl refl c.requires.said
    c.play_in-progress.result c.play_in-progress.ensures.comes c.go_on.result c.go_on.ensures.goes

pub returns-in_default-clause-plays : goal.returns-in_default-clause-plays
returns-in_default-clause-plays g c =
    none_made
    (senses g.D.Disk.face (ears g.J.EffortJudge.heard g.J.EffortJudge.verdict g.B.Bell.rung g.B.Bell.limit)
    g.K.Sink.taken g.K.Sink.faults) c.args.command c.args.script
    (devices c.args.disks.now.items c.args.sink.now c.args.judge.now c.args.bells.now.items) c.requires.good
    c.requires.given

pub returns-in-Err-clause-plays : goal.returns-in-Err-clause-plays
returns-in-Err-clause-plays g c =
    let e = senses g.D.Disk.face (ears g.J.EffortJudge.heard g.J.EffortJudge.verdict g.B.Bell.rung g.B.Bell.limit)
    g.K.Sink.taken g.K.Sink.faults in
    let before = devices c.args.disks.now.items c.args.sink.now c.args.judge.now c.args.bells.now.items in
    let after = devices c.start.new.disks.items c.args.sink.now c.start.new.judge c.start.new.bells.items in
    never_begins e (deed_of c.args.command) c.args.script before after c.in-Err.fault c.requires.good
    c.in-Err.ensures.refused refl c.in-Err.ensures.back.0 c.in-Err.ensures.back.1
