use Rattle.std.proofs.Common.{◌∙◌, ap, arith, refl}
use Rattle.std.specs.Prelude.{Some}
use Rattle.lks_base.proofs.PlanBounds.{few_peers}
use Rattle.lks_words.specs.declared.commands.Play.TheVariants.{Replay}
use Rattle.lks_watch.specs.Watching.{ears}
use Rattle.lockss.proofs.Played.{never_begins, none_made}
use Rattle.lockss.proofs.Raced.{comes_to}
use Rattle.lockss.specs.Deeds.{deed_of}
use Rattle.lockss.specs.Handed.{devices, senses}
use Rattle.lockss.proofs.racing.race_script.Goals as goal

pub start-requires-clause-enough : goal.start-requires-clause-enough
start-requires-clause-enough g c = λ κs lives.
    let few = few_peers c.args.script.plan c.requires.good in
    omega (arith, few, c.requires.given.enough)

pub returns-in_default-clause-races : goal.returns-in_default-clause-races
returns-in_default-clause-races g c =
    none_made
    (senses g.D.Disk.face (ears g.J.EffortJudge.heard g.J.EffortJudge.verdict g.B.Bell.rung g.B.Bell.limit)
    g.K.Sink.taken g.K.Sink.faults) Replay c.args.script
    (devices c.args.disks.now.items c.args.sink.now c.args.judge.now c.args.bells.now.items) c.requires.good
    c.requires.given

pub returns-in-Err-clause-races : goal.returns-in-Err-clause-races
returns-in-Err-clause-races g c =
    let e = senses g.D.Disk.face (ears g.J.EffortJudge.heard g.J.EffortJudge.verdict g.B.Bell.rung g.B.Bell.limit)
    g.K.Sink.taken g.K.Sink.faults in
    let before = devices c.args.disks.now.items c.args.sink.now c.args.judge.now c.args.bells.now.items in
    let after = devices c.start.new.disks.items c.args.sink.now c.start.new.judge c.start.new.bells.items in
    never_begins e (deed_of Replay) c.args.script before after c.in-Err.fault c.requires.good
    c.in-Err.ensures.refused refl c.in-Err.ensures.back.0 c.in-Err.ensures.back.1

pub returns-clause-races : goal.returns-clause-races
returns-clause-races g c =
    let e = senses g.D.Disk.face (ears g.J.EffortJudge.heard g.J.EffortJudge.verdict g.B.Bell.rung g.B.Bell.limit)
    g.K.Sink.taken g.K.Sink.faults in
    let before = devices c.args.disks.now.items c.args.sink.now c.args.judge.now c.args.bells.now.items in
    let after = devices c.hand_back.new.disks.items c.race_in-world.new.sink c.hand_back.new.judge
    c.hand_back.new.bells.items in
    let starts = c.in-Ok-start.ensures.starts in
    comes_to e c.args.script before after c.in-Ok-start.world c.race_in-world.result.0 starts.asked _
    c.as_slice.result.now
    c.requires.good c.requires.given starts.is starts.begins c.as_slice.ensures
    (c.hand_back.ensures.disks ∙ c.into_parts.ensures.disks)
    (c.hand_back.ensures.judge ∙ ap Some c.into_parts.ensures.watched.0)
    (c.hand_back.ensures.bells ∙ c.into_parts.ensures.watched.1)
    starts.made starts.calm c.into_parts.ensures.happened c.into_parts.ensures.holds c.race_in-world.result.1
    c.race_in-world.ensures.comes
