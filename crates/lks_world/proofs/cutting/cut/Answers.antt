use Rattle.std.proofs.Common.{◌≡◌, ◌≤◌, ◌∙◌, sym, subst, refl, length, arith}
use Rattle.std.specs.Prelude.{IfSome, None, Ok, OnErr, Some, option_map}
use Rattle.std.specs.Option.{option_to_list}
use Rattle.lks_base.specs.declared.limits.TheConstants.{MOST_EVENTS}
use Rattle.lks_law.specs.Histories.{MayStep}
use Rattle.lks_law.specs.World.{World, world}
use Rattle.lks_watch.specs.Watching.{AsksOn, ears}
use Rattle.lks_world.proofs.CutLaws.{cut_may, cut_named, if_any, none_cut}
use Rattle.lks_world.proofs.Ending.{off_full}
use Rattle.lks_world.proofs.HostLaws.{ok_then}
use Rattle.lks_world.proofs.Keeping.{count_events, room_left}
use Rattle.lks_world.proofs.Watched.{can_ask, cut_asks, ok_both, watched_still}
use Rattle.lks_world.specs.Cuts.{step_cut, taker_of, CutsOff}
use Rattle.lks_world.proofs.PowerEnds.{power_still, sites_still}
use Rattle.lks_world.specs.Sites.{SitesBurn, SitesPower}
use Rattle.lks_world.specs.States.{events_in, world_in}
use Rattle.lks_world.specs.Stopping.{HasStopped}
use Rattle.lks_world.proofs.Stopped.{err_then, stopped_still}
use Rattle.lks_world.proofs.UpTo.{cut_not_begun}
use Rattle.lks_world.proofs.cutting.cut.Given.{Over}
use Rattle.lks_world.proofs.cutting.cut.Goals.{In-None, In_ok-s-in-Some}
use Rattle.lks_world.proofs.cutting.cut.Goals as goal

pub returns-then-room-eq0-clause-cuts : goal.returns-then-room-eq0-clause-cuts
returns-then-room-eq0-clause-cuts g c =
    let f = g.D.Disk.face in
    let s = c.args.state.now in
    let full : MOST_EVENTS
    ≤ length (events_in s) = omega (arith, c.room.ensures, c.if-room-eq0.true, count_events f s) in (
      off_full c.args.plan.now (events_in s) c.args.power.calls
          (step_cut (g.J.EffortJudge.verdict c.args.watch.now.judge) c.args.plan.now (events_in s) c.args.step)
          full,
      watched_still f (ears g.J.EffortJudge.heard g.J.EffortJudge.verdict g.B.Bell.rung g.B.Bell.limit)
          c.args.plan.now s s c.args.watch.now refl,
    )

pub returns-then-room-eq0-clause-burns : goal.returns-then-room-eq0-clause-burns
returns-then-room-eq0-clause-burns g c =
    let s = c.args.state.now in
    let full : MOST_EVENTS
    ≤ length (events_in s) = omega (arith, c.room.ensures, c.if-room-eq0.true, count_events g.D.Disk.face s) in
    if_any (step_cut (g.J.EffortJudge.verdict c.args.watch.now.judge) c.args.plan.now (events_in s) c.args.step)
    (λ p short room. absurd (omega (arith, full, room)))

-- the step that the line cuts off
named : (g : Over) (c : In_ok-s-in-Some g)
    → step_cut (g.J.EffortJudge.verdict c.args.watch.now.judge) c.args.plan.now (events_in c.args.state.now)
    c.args.step
    ≡ Some c.in_ok-s-in-Some.s
named g c =
    let is = c.requires.state.0 in
    cut_named (g.J.EffortJudge.verdict c.args.watch.now.judge) c.args.plan.now (events_in c.args.state.now)
    c.args.step c.in-Some.due c.in_ok-s-in-Some.s (sym (c.find_due.ensures c.args.plan.now is) ∙ c.in-Some.is)
    (c.in_ok-s-in-Some.ensures.step c.args.plan.now is c.requires.state.1)

pub step_of-requires-after_bounds : goal.step_of-requires-after_bounds
step_of-requires-after_bounds g c κs within =
    can_ask g.J.EffortJudge.heard c.args.watch.now.judge c.args.plan.now (events_in c.args.state.now) c.requires.state.1
    (room_left g.D.Disk.face c.args.state.now (omega (arith, c.room.ensures, c.if-room-eq0.false)))

pub cut_off-requires-clause-state : goal.cut_off-requires-clause-state
cut_off-requires-clause-state g c κs within = (c.requires.state.0, omega (arith, c.room.ensures, c.if-room-eq0.false))

pub cut_off-requires-clause-may : goal.cut_off-requires-clause-may
cut_off-requires-clause-may g c κs within =
    subst (λ (w : World). MayStep c.args.plan.now w c.in_ok-s-in-Some.s) (sym c.requires.state.0.world)
    (cut_may (g.J.EffortJudge.verdict c.args.watch.now.judge) c.args.plan.now (events_in c.args.state.now)
    c.args.step c.requires.legal c.in_ok-s-in-Some.s
    (named g (goal.at.cut_off-requires-clause-may g c).In_ok-s-in-Some))

-- it was asked for
asked : (g : Over) (c : In_ok-s-in-Some g)
    → AsksOn (ears g.J.EffortJudge.heard g.J.EffortJudge.verdict g.B.Bell.rung g.B.Bell.limit)
    (world_in g.D.Disk.face c.args.state.now) c.in_ok-s-in-Some.s c.args.watch.now c.step_of.new.watch
asked g c =
    let plan = c.args.plan.now in
    let s = c.args.state.now in
    c.in_ok-s-in-Some.ensures.asks
    (cut_asks plan (world_in g.D.Disk.face s) (events_in s) c.args.step c.requires.legal c.in-Some.due
    (sym (c.find_due.ensures plan c.requires.state.0) ∙ c.in-Some.is))

pub returns-in_ok-s-in-Some-clause-cuts : goal.returns-in_ok-s-in-Some-clause-cuts
returns-in_ok-s-in-Some-clause-cuts g c =
    let at = (goal.at.returns-in_ok-s-in-Some-clause-cuts g c).In_ok-s-in-Some in
    let plan = c.args.plan.now in
    let h = events_in c.args.state.now in
    ok_both _ _ c.cut_off.result
    (ok_then c.cut_off.result
    (λ b. subst (λ o. CutsOff plan h c.args.power.calls o (events_in c.cut_off.new.state)) (sym (named g at))
    b.1) c.cut_off.ensures.cuts)
    (c.cut_off.ensures.watches c.args.watch.now (asked g at))

-- or there is none
none : (g : Over) (c : In-None g)
    → step_cut (g.J.EffortJudge.verdict c.args.watch.now.judge) c.args.plan.now (events_in c.args.state.now)
    c.args.step
    ≡ None
none g c =
    none_cut (g.J.EffortJudge.verdict c.args.watch.now.judge) c.args.plan.now (events_in c.args.state.now)
    c.args.step (sym (c.find_due.ensures c.args.plan.now c.requires.state.0) ∙ c.in-None.is)

pub returns-in-None-clause-cuts : goal.returns-in-None-clause-cuts
returns-in-None-clause-cuts g c =
    let plan = c.args.plan.now in
    let s = c.args.state.now in (
      subst (λ o. CutsOff plan (events_in s) c.args.power.calls o (events_in s))
          (sym (none g (goal.at.returns-in-None-clause-cuts g c).In-None)) refl,
      watched_still g.D.Disk.face (ears g.J.EffortJudge.heard g.J.EffortJudge.verdict g.B.Bell.rung g.B.Bell.limit)
          plan s s c.args.watch.now refl,
    )

pub returns-in-None-clause-burns : goal.returns-in-None-clause-burns
returns-in-None-clause-burns g c =
    let s = c.args.state.now in
    subst
    (λ o. IfSome o
    (SitesBurn g.D.Disk.face c.args.plan.now (events_in s) c.args.power.calls c.args.power.choice
    s.sites.items s.sites.items)) (sym (none g (goal.at.returns-in-None-clause-burns g c).In-None)) tt

pub returns-in_ok-s-in-Some-clause-burns : goal.returns-in_ok-s-in-Some-clause-burns
returns-in_ok-s-in-Some-clause-burns g c =
    let f = g.D.Disk.face in
    let plan = c.args.plan.now in
    let s = c.args.state.now in
    ok_then c.cut_off.result
    (subst
    (λ o. IfSome o
    (SitesBurn f plan (events_in s) c.args.power.calls c.args.power.choice s.sites.items
    c.cut_off.new.state.sites.items))
    (sym (named g (goal.at.returns-in_ok-s-in-Some-clause-burns g c).In_ok-s-in-Some)))
    c.cut_off.ensures.burns

pub returns-in_err-s-in-Some-clause-stops : goal.returns-in_err-s-in-Some-clause-stops
returns-in_err-s-in-Some-clause-stops g c =
    let f = g.D.Disk.face in
    let plan = c.args.plan.now in
    let s = c.args.state.now in
    err_then c.from_residual.result
    (stopped_still f (ears g.J.EffortJudge.heard g.J.EffortJudge.verdict g.B.Bell.rung g.B.Bell.limit) plan _ s s
    c.args.watch.now c.step_of.new.watch c.requires.state.0
    (cut_not_begun plan (events_in s) c.args.power.calls
    (step_cut (g.J.EffortJudge.verdict c.args.watch.now.judge) plan (events_in s) c.args.step)) refl refl
    c.in_err-s-in-Some.ensures.err)

pub returns-in_ok-s-in-Some-clause-stops : goal.returns-in_ok-s-in-Some-clause-stops
returns-in_ok-s-in-Some-clause-stops g c =
    let f = g.D.Disk.face in
    let e = ears g.J.EffortJudge.heard g.J.EffortJudge.verdict g.B.Bell.rung g.B.Bell.limit in
    let plan = c.args.plan.now in
    let s = c.args.state.now in
    let at = (goal.at.returns-in_ok-s-in-Some-clause-stops g c).In_ok-s-in-Some in
    subst
    (λ o. OnErr c.cut_off.result
    (HasStopped f e plan (CutsOff plan (events_in s) c.args.power.calls o) (events_in s) c.args.watch.now
    c.cut_off.new.state c.cut_off.new.watch)) (sym (named g at))
    (c.cut_off.ensures.stops c.args.watch.now (asked g at))

-- the power that fails is that of the peer which takes the step

pub returns-in_ok-s-in-Some-clause-power : goal.returns-in_ok-s-in-Some-clause-power
returns-in_ok-s-in-Some-clause-power g c =
    let plan = c.args.plan.now in
    let s = c.args.state.now in
    let t = c.cut_off.new.state in
    subst
    (λ o. SitesPower g.D.Disk.face plan
    (option_to_list (option_map (taker_of (world plan (events_in s)).bag) o)) (events_in s) (events_in t)
    s.sites.items t.sites.items c.cut_off.result)
    (sym (named g (goal.at.returns-in_ok-s-in-Some-clause-power g c).In_ok-s-in-Some)) c.cut_off.ensures.power

pub returns-in_err-s-in-Some-clause-power : goal.returns-in_err-s-in-Some-clause-power
returns-in_err-s-in-Some-clause-power g c =
    let s = c.args.state.now in
    sites_still g.D.Disk.face c.args.plan.now _ (events_in s) (events_in s) s.sites.items s.sites.items
    c.from_residual.result refl (power_still g.D.Disk.face s.sites.items s.sites.items refl)

pub returns-in-None-clause-power : goal.returns-in-None-clause-power
returns-in-None-clause-power g c =
    let s = c.args.state.now in
    sites_still g.D.Disk.face c.args.plan.now _ (events_in s) (events_in s) s.sites.items s.sites.items
    (Ok (tt {0})) refl (power_still g.D.Disk.face s.sites.items s.sites.items refl)

pub returns-then-room-eq0-clause-power : goal.returns-then-room-eq0-clause-power
returns-then-room-eq0-clause-power g c =
    let s = c.args.state.now in
    sites_still g.D.Disk.face c.args.plan.now _ (events_in s) (events_in s) s.sites.items s.sites.items
    (Ok (tt {0})) refl (power_still g.D.Disk.face s.sites.items s.sites.items refl)
