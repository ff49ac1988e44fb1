use Rattle.std.proofs.Common.{subst}
use Rattle.lks_watch.specs.Watching.{ears}
use Rattle.lks_world.proofs.Watched.{asked_nothing}
use Rattle.lks_world.specs.States.{world_in}
use Rattle.lks_law.specs.Questions.{OwnAsksNothing}
use Rattle.lks_world.proofs.settling.step_of.Goals as goal

pub returns-in_ok-make_deed-in-Own-clause-asks : goal.returns-in_ok-make_deed-in-Own-clause-asks
returns-in_ok-make_deed-in-Own-clause-asks g c = λ none.
    let w = world_in g.D.Disk.face c.args.state.now in
    asked_nothing (ears g.J.EffortJudge.heard g.J.EffortJudge.verdict g.B.Bell.rung g.B.Bell.limit) w c.in-Own.s
    c.args.watch.now (subst (OwnAsksNothing w) c.in-Own.is none)
