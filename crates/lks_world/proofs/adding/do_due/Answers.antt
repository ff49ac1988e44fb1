use Rattle.std.proofs.Common.{◌≡◌, ap, sym, subst, refl, [], ◌∷◌, ◌++◌}
use Rattle.std.specs.Prelude.{OnOk}
use Rattle.lks_base.specs.declared.events.Event.{Event}
use Rattle.lks_base.specs.declared.events.Event.TheVariants.{Step}
use Rattle.lks_base.specs.declared.plans.Plan.{Plan}
use Rattle.lks_law.specs.Histories.{MayHappen, MayStep}
use Rattle.lks_law.specs.Questions.{event_of}
use Rattle.lks_law.specs.World.{World, world}
use Rattle.lks_watch.specs.Watching.{AsksOn, ears}
use Rattle.lks_world.proofs.Keeping.{extends_same, room_left}
use Rattle.lks_world.proofs.PowerEnds.{power_still, sites_still}
use Rattle.lks_world.proofs.Stopped.{err_then, err_three, stopped_in, stopped_still}
use Rattle.lks_world.proofs.UpTo.{none_begun, one_begun}
use Rattle.lks_world.proofs.Watched.{can_ask}
use Rattle.lks_world.specs.Doable.{IsDoable}
use Rattle.lks_world.specs.Follows.{step_in}
use Rattle.lks_world.specs.States.{Becomes, events_in, events_of, world_in}
use Rattle.lks_law.specs.Questions.{OwnAsksNothing}
use Rattle.lks_world.proofs.adding.do_due.Given.{Over}
use Rattle.lks_world.proofs.adding.do_due.Goals.{In_ok-s}
use Rattle.lks_world.proofs.adding.do_due.Goals as goal

pub step_of-requires-after_bounds : goal.step_of-requires-after_bounds
step_of-requires-after_bounds g c κs within =
    let can = c.requires.state.1 in
    can_ask g.J.EffortJudge.heard c.args.watch.now.judge c.requires.state.0 (events_in c.args.state.now) can.heard
    (room_left g.D.Disk.face c.args.state.now c.requires.room)

pub take_step-requires-clause-state : goal.take_step-requires-clause-state
take_step-requires-clause-state g c = λ κs lives. (c.requires.state.0, c.requires.state.1.state)

-- what is due may happen, and the judge was asked what it asks

made : (g : Over) (c : In_ok-s g) (plan : Plan)
    → IsDoable g.D.Disk.face g.J.EffortJudge.heard plan c.args.state.now c.args.watch.now c.args.due
    → Step c.in_ok-s.s
    ≡ event_of (g.J.EffortJudge.verdict c.args.watch.now.judge) plan (events_in c.args.state.now) c.args.due
made g c plan can = c.in_ok-s.ensures.step plan can.state can.heard

may : (g : Over) (c : In_ok-s g) (plan : Plan)
    → IsDoable g.D.Disk.face g.J.EffortJudge.heard plan c.args.state.now c.args.watch.now c.args.due
    → MayStep plan (world_in g.D.Disk.face c.args.state.now) c.in_ok-s.s
may g c plan can =
    subst (λ w. MayHappen plan w (Step c.in_ok-s.s)) (sym can.state.world)
    (subst (MayHappen plan (world plan (events_in c.args.state.now))) (sym (made g c plan can))
    (can.may (g.J.EffortJudge.verdict c.args.watch.now.judge)))

asked : (g : Over) (c : In_ok-s g) (plan : Plan)
    → IsDoable g.D.Disk.face g.J.EffortJudge.heard plan c.args.state.now c.args.watch.now c.args.due
    → AsksOn (ears g.J.EffortJudge.heard g.J.EffortJudge.verdict g.B.Bell.rung g.B.Bell.limit)
    (world_in g.D.Disk.face c.args.state.now) c.in_ok-s.s c.args.watch.now c.step_of.new.watch
asked g c plan can = c.in_ok-s.ensures.asks (subst (λ w. OwnAsksNothing w c.args.due) (sym can.state.world) can.asks)

pub returns-clause-becomes : goal.returns-clause-becomes
returns-clause-becomes g c = λ plan can.
    let s = c.args.state.now in
    let at = (goal.at.returns-clause-becomes g c).In_ok-s in
    subst
    (λ (e : Event). OnOk c.take_step.result
    (Becomes g.D.Disk.face plan (events_in s ++ e ∷ []) c.take_step.new.state)) (made g at plan can)
    (c.take_step.ensures.becomes plan can.state (may g at plan can))

pub returns-clause-watches : goal.returns-clause-watches
returns-clause-watches g c =
    λ plan can. c.take_step.ensures.watches plan can.state c.args.watch.now
    (asked g (goal.at.returns-clause-watches g c).In_ok-s plan can)

pub returns-clause-extends : goal.returns-clause-extends
returns-clause-extends g c =
    λ plan can. c.take_step.ensures.extends plan can.state
    (may g (goal.at.returns-clause-extends g c).In_ok-s plan can)

pub returns-clause-stops : goal.returns-clause-stops
returns-clause-stops g c = λ plan can.
    let f = g.D.Disk.face in
    let s = c.args.state.now in
    let at = (goal.at.returns-clause-stops g c).In_ok-s in
    let p = c.in_ok-s.s in
    let e = event_of (g.J.EffortJudge.verdict c.args.watch.now.judge) plan (events_in s) c.args.due in
    let is : Step p ≡ e = made g at plan can in
    let did = c.take_step.ensures in
    err_three c.take_step.result
    (λ same stops left.
    stopped_in f (ears g.J.EffortJudge.heard g.J.EffortJudge.verdict g.B.Bell.rung g.B.Bell.limit) plan _
    (events_in s) s c.take_step.new.state p c.args.watch.now c.take_step.new.watch
    (one_begun _ (events_in s) (events_in s ++ e ∷ []) [] e p refl refl (ap step_in (sym is)))
    (subst (λ (w : World). MayStep plan w p) can.state.world (may g at plan can)) (ap events_of same) stops left)
    did.err (did.stops plan can.state c.args.watch.now (asked g at plan can)) (did.fallen plan can.state)

pub returns-clause-power : goal.returns-clause-power
returns-clause-power g c = c.take_step.ensures.power

-- before it was begun

pub returns-in_err-s-clause-extends : goal.returns-in_err-s-clause-extends
returns-in_err-s-clause-extends g c =
    λ plan can. extends_same g.D.Disk.face plan c.args.state.now c.args.state.now.history.items can.state refl

pub returns-in_err-s-clause-stops : goal.returns-in_err-s-clause-stops
returns-in_err-s-clause-stops g c = λ plan can.
    let s = c.args.state.now in
    let e = event_of (g.J.EffortJudge.verdict c.args.watch.now.judge) plan (events_in s) c.args.due in
    err_then c.from_residual.result
    (stopped_still g.D.Disk.face (ears g.J.EffortJudge.heard g.J.EffortJudge.verdict g.B.Bell.rung g.B.Bell.limit)
    plan _ s s c.args.watch.now c.step_of.new.watch can.state
    (none_begun _ (events_in s) (events_in s ++ e ∷ []) refl (e ∷ [], refl)) refl refl c.in_err-s.ensures.err)

pub returns-in_err-s-clause-power : goal.returns-in_err-s-clause-power
returns-in_err-s-clause-power g c = λ plan who.
    let s = c.args.state.now in
    sites_still g.D.Disk.face plan who (events_in s) (events_in s) s.sites.items s.sites.items
    c.from_residual.result refl (power_still g.D.Disk.face s.sites.items s.sites.items refl)
