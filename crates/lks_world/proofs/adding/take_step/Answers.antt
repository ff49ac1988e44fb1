use Rattle.lks_base.specs.declared.events.Event.TheVariants.{Step}
use Rattle.lks_watch.specs.Watching.{ears}
use Rattle.lks_world.proofs.Keeping.{room_left, extends_by, extends_same, can_step, envelopes_left}
use Rattle.lks_world.proofs.StateLaws.{became_step, more_events}
use Rattle.lks_world.proofs.Watched.{watched_event}
use Rattle.std.proofs.Common.{ap}
use Rattle.std.specs.Prelude.{Ok}
use Rattle.lks_world.proofs.Stopped.{err_then, stops_in}
use Rattle.lks_world.specs.States.{events_of}
use Rattle.lks_world.proofs.Fallen.{left_by}
use Rattle.lks_world.proofs.PowerEnds.{sites_step, sites_still}
use Rattle.lks_world.specs.States.{events_in}
use Rattle.lks_world.proofs.adding.take_step.Goals as goal

pub step-requires-clause-ready : goal.step-requires-clause-ready
step-requires-clause-ready g c =
    λ κs lives. can_step g.D.Disk.face c.requires.state.0 c.args.state.now c.requires.state.1 c.requires.room

pub step-requires-clause-few : goal.step-requires-clause-few
step-requires-clause-few g c =
    λ κs lives. envelopes_left g.D.Disk.face c.requires.state.0 c.args.state.now c.args.s c.requires.state.1
    c.requires.room

pub returns-clause-becomes : goal.returns-clause-becomes
returns-clause-becomes g c = λ plan is may.
    let done = c.in_ok-step.ensures in
    became_step g.D.Disk.face plan c.args.state.now c.step.new.state c.args.s is
    (room_left g.D.Disk.face c.args.state.now c.requires.room) may done.world done.history done.pending done.on
    done.pool

pub returns-clause-extends : goal.returns-clause-extends
returns-clause-extends g c = λ plan is may.
    let b = returns-clause-becomes g c plan is may in
    extends_by g.D.Disk.face plan c.args.state.now c.step.new.state _ b.state b.events

pub returns-in_err-step-clause-extends : goal.returns-in_err-step-clause-extends
returns-in_err-step-clause-extends g c =
    λ plan is may. extends_same g.D.Disk.face plan c.args.state.now c.step.new.state.history.items is
    c.in_err-step.ensures.history

pub returns-clause-watches : goal.returns-clause-watches
returns-clause-watches g c = λ plan is first asks.
    watched_event g.D.Disk.face (ears g.J.EffortJudge.heard g.J.EffortJudge.verdict g.B.Bell.rung g.B.Bell.limit)
    plan c.args.state.now c.step.new.state (Step c.args.s) first c.args.watch.now c.step.new.watch is
    (more_events g.D.Disk.face c.args.state.now c.step.new.state (Step c.args.s) c.in_ok-step.ensures.history) asks
    c.in_ok-step.ensures.hears

pub returns-in_err-step-clause-stops : goal.returns-in_err-step-clause-stops
returns-in_err-step-clause-stops g c = λ plan is first asks.
    err_then c.from_residual.result
    (stops_in g.D.Disk.face (ears g.J.EffortJudge.heard g.J.EffortJudge.verdict g.B.Bell.rung g.B.Bell.limit) plan
    c.args.state.now _ c.args.s first c.args.watch.now c.step.new.watch is
    (ap events_of c.in_err-step.ensures.history) asks c.in_err-step.ensures.hears)

pub returns-in_err-step-clause-fallen : goal.returns-in_err-step-clause-fallen
returns-in_err-step-clause-fallen g c = λ plan is.
    err_then c.from_residual.result
    (left_by g.D.Disk.face plan c.args.state.now c.step.new.state is
    (ap events_of c.in_err-step.ensures.history) c.args.s c.in_err-step.ensures.fallen)

pub returns-clause-power : goal.returns-clause-power
returns-clause-power g c = λ plan who.
    let s = c.args.state.now in
    let t = c.step.new.state in
    sites_step g.D.Disk.face plan who (events_in s) (events_in t) c.args.s s.sites.items t.sites.items (Ok (tt {0}))
    (more_events g.D.Disk.face s t (Step c.args.s) c.in_ok-step.ensures.history) c.in_ok-step.ensures.counted.1

pub returns-in_err-step-clause-power : goal.returns-in_err-step-clause-power
returns-in_err-step-clause-power g c = λ plan who.
    let s = c.args.state.now in
    let t = c.step.new.state in
    sites_still g.D.Disk.face plan who (events_in s) (events_in t) s.sites.items t.sites.items
    c.from_residual.result (ap events_of c.in_err-step.ensures.history) c.in_err-step.ensures.counted.1
