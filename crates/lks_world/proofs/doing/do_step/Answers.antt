use Rattle.std.proofs.Common.{◌≡◌, ◌≤◌, ◌∙◌, sym, ap, subst, true, length, refl}
use Rattle.std.specs.Prelude.{None, OnErr, Ok}
use Rattle.lks_base.specs.Checking.{has_corrupt, has_peer}
use Rattle.lks_base.specs.declared.events.Due.TheVariants.{Own}
use Rattle.lks_base.specs.declared.events.Event.TheVariants as events
use Rattle.lks_base.specs.declared.limits.TheConstants.{MOST_FORGED_BYTES}
use Rattle.lks_script.specs.declared.steps.Step.TheVariants as step
use Rattle.lks_watch.specs.Watching.{Watches, ears, seen_by}
use Rattle.lks_world.proofs.HostLaws.{ok_then}
use Rattle.lks_world.proofs.Keeping.{extends_same}
use Rattle.lks_world.proofs.NextLaws.{own_doable}
use Rattle.lks_world.proofs.OwnSteps.{ticks_within, forgery_may, crash_may, cut_legal}
use Rattle.lks_world.proofs.Watched.{crash_quiet, lost_quiet, ok_both, quiet_kept}
use Rattle.lks_world.specs.Follows.{IsUpTo, Performs}
use Rattle.lks_world.specs.Doable.{IsDoable}
use Rattle.lks_world.specs.States.{events_in}
use Rattle.lks_world.proofs.doing.do_step.Given.{Over}
use Rattle.lks_world.proofs.doing.do_step.Goals.{In-Peer, In_ok-bytes-in-Forge}
use Rattle.lks_world.proofs.Stopped.{err_then, err_three, stopped_still, stops_quiet}
use Rattle.lks_world.proofs.UpTo.{not_begun}
use Rattle.lks_world.specs.Stopping.{HasStopped}
use Rattle.lks_world.specs.States.{events_of}
use Rattle.lks_world.proofs.PowerEnds.{power_still, sites_quiet, sites_still}
use Rattle.lks_world.proofs.PowerLaws.{quiet_kept as power_kept, quiet_lost}
use Rattle.lks_world.specs.Powers.{IsQuiet}
use Rattle.lks_world.specs.Sites.{SitesPower}
use Rattle.lks_world.specs.Spending.{loser_of}
use Rattle.lks_world.proofs.doing.do_step.Goals as goal

is_forged : (g : Over) (c : In_ok-bytes-in-Forge g)
    → c.args.step.now ≡ step.Forge c.in-Forge.from c.in-Forge.to c.in_ok-bytes-in-Forge.bytes
is_forged g c = c.in-Forge.is ∙ ap (step.Forge c.in-Forge.from c.in-Forge.to) (sym c.in_ok-bytes-in-Forge.ensures.cases)

may_forge : (g : Over) (c : In_ok-bytes-in-Forge g)
    → (has_corrupt c.args.plan.now.peers c.in-Forge.from ≡ true)
    × (has_peer c.args.plan.now.peers c.in-Forge.to ≡ true)
    × (length c.in_ok-bytes-in-Forge.bytes ≤ MOST_FORGED_BYTES)
may_forge g c =
    forgery_may c.args.plan.now c.args.step.now c.in-Forge.from c.in-Forge.to c.in_ok-bytes-in-Forge.bytes
    (is_forged g c) c.requires.legal

pub add_ticks-requires-clause-some : goal.add_ticks-requires-clause-some
add_ticks-requires-clause-some g c =
    λ κs within. (ticks_within c.args.plan.now c.args.step.now c.in-Tick.by c.in-Tick.is c.requires.legal).0

pub add_ticks-requires-clause-few : goal.add_ticks-requires-clause-few
add_ticks-requires-clause-few g c =
    λ κs within. (ticks_within c.args.plan.now c.args.step.now c.in-Tick.by c.in-Tick.is c.requires.legal).1

pub crash-requires-clause-honest : goal.crash-requires-clause-honest
crash-requires-clause-honest g c κs within =
    crash_may c.args.plan.now c.args.step.now c.in-Crash.peer c.in-Crash.is c.requires.legal

pub cut-requires-clause-legal : goal.cut-requires-clause-legal
cut-requires-clause-legal g c κs within =
    cut_legal c.args.plan.now c.args.step.now c.in-Cut.calls c.in-Cut.choice c.in-Cut.step c.in-Cut.is
    c.requires.legal

-- a peer's own step can be done
own : (g : Over) (c : In-Peer g)
    → IsDoable g.D.Disk.face g.J.EffortJudge.heard c.args.plan.now c.args.state.now c.args.watch.now
    (Own c.in-Peer.s)
own g c =
    own_doable g.D.Disk.face c.args.plan.now c.args.state.now c.requires.state.0 g.J.EffortJudge.heard
    c.args.watch.now c.requires.state.1 c.args.step.now c.in-Peer.s c.in-Peer.is c.requires.legal

pub add_due-requires-after_bounds : goal.add_due-requires-after_bounds
add_due-requires-after_bounds g c κs within =
    (c.args.plan.now, own g (goal.at.add_due-requires-after_bounds g c).In-Peer)

pub returns-in-Peer-clause-state : goal.returns-in-Peer-clause-state
returns-in-Peer-clause-state g c =
    ok_then c.add_due.result (λ b. b.state)
    (c.add_due.ensures.becomes c.args.plan.now (own g (goal.at.returns-in-Peer-clause-state g c).In-Peer))

pub returns-in-Peer-clause-performs : goal.returns-in-Peer-clause-performs
returns-in-Peer-clause-performs g c =
    let verdict = g.J.EffortJudge.verdict c.args.watch.now.judge in
    let can = own g (goal.at.returns-in-Peer-clause-performs g c).In-Peer in
    ok_both _ _ c.add_due.result
    (ok_then c.add_due.result
    (λ b. subst
    (λ s. Performs verdict c.args.plan.now (events_in c.args.state.now) s (events_in c.add_due.new.state))
    (sym c.in-Peer.is) b.events)
    (c.add_due.ensures.becomes c.args.plan.now can)) (c.add_due.ensures.watches c.args.plan.now can)

pub returns-in_ok-add_ticks-in-Tick-clause-performs : goal.returns-in_ok-add_ticks-in-Tick-clause-performs
returns-in_ok-add_ticks-in-Tick-clause-performs g c =
    let e = ears g.J.EffortJudge.heard g.J.EffortJudge.verdict g.B.Bell.rung g.B.Bell.limit in
    let plan = c.args.plan.now in
    let h = events_in c.args.state.now in
    let x = seen_by e c.args.watch.now in
    let is = (c.in_ok-add_ticks-in-Tick.ensures.becomes plan c.requires.state.0).events in (
      subst (λ s. Performs (e.verdict c.args.watch.now.judge) plan h s (events_in c.add_ticks.new.state))
          (sym c.in-Tick.is) is,
      subst (λ after. Watches plan h after x x) (sym is)
          (quiet_kept plan h x (events.Tick c.in-Tick.by) (λ w. (refl, refl))),
    )

pub returns-in_ok-lose_first-in-Lose-clause-performs : goal.returns-in_ok-lose_first-in-Lose-clause-performs
returns-in_ok-lose_first-in-Lose-clause-performs g c =
    let e = ears g.J.EffortJudge.heard g.J.EffortJudge.verdict g.B.Bell.rung g.B.Bell.limit in
    let plan = c.args.plan.now in
    let h = events_in c.args.state.now in
    let x = seen_by e c.args.watch.now in
    let is = (c.in_ok-lose_first-in-Lose.ensures.becomes plan c.requires.state.0).events in (
      subst (λ s. Performs (e.verdict c.args.watch.now.judge) plan h s (events_in c.lose_first.new.state))
          (sym c.in-Lose.is) is,
      subst (λ after. Watches plan h after x x) (sym is) (lost_quiet plan h x),
    )

pub returns-in-Crash-clause-performs : goal.returns-in-Crash-clause-performs
returns-in-Crash-clause-performs g c =
    let e = ears g.J.EffortJudge.heard g.J.EffortJudge.verdict g.B.Bell.rung g.B.Bell.limit in
    let plan = c.args.plan.now in
    let h = events_in c.args.state.now in
    let x = seen_by e c.args.watch.now in
    ok_then c.crash.result
    (λ b. (
      subst (λ s. Performs (e.verdict c.args.watch.now.judge) plan h s (events_in c.crash.new.state))
          (sym c.in-Crash.is) b.events,
      subst (λ after. Watches plan h after x x) (sym b.events) (crash_quiet plan h x c.in-Crash.peer),
    ))
    c.crash.ensures.becomes

pub returns-in_ok-say-in-SayPoll-clause-performs : goal.returns-in_ok-say-in-SayPoll-clause-performs
returns-in_ok-say-in-SayPoll-clause-performs g c =
    let e = ears g.J.EffortJudge.heard g.J.EffortJudge.verdict g.B.Bell.rung g.B.Bell.limit in
    let said = c.in_ok-say-in-SayPoll.ensures.performs in
    (said.0 (e.verdict c.args.watch.now.judge), said.1 (seen_by e c.args.watch.now))

pub returns-in-Peer-clause-extends : goal.returns-in-Peer-clause-extends
returns-in-Peer-clause-extends g c =
    c.add_due.ensures.extends c.args.plan.now (own g (goal.at.returns-in-Peer-clause-extends g c).In-Peer)

pub returns-in_err-bytes-in-Forge-clause-extends : goal.returns-in_err-bytes-in-Forge-clause-extends
returns-in_err-bytes-in-Forge-clause-extends g c =
    extends_same g.D.Disk.face c.args.plan.now c.args.state.now c.args.state.now.history.items c.requires.state.0
    refl

pub returns-in_err-add_forgery-in-Forge-clause-extends : goal.returns-in_err-add_forgery-in-Forge-clause-extends
returns-in_err-add_forgery-in-Forge-clause-extends g c =
    let may = may_forge g (goal.at.returns-in_err-add_forgery-in-Forge-clause-extends g c).In_ok-bytes-in-Forge in
    c.add_forgery.ensures.extends c.args.plan.now c.requires.state.0 may.0 may.1 may.2

pub returns-in_ok-add_forgery-in-Forge-clause-extends : goal.returns-in_ok-add_forgery-in-Forge-clause-extends
returns-in_ok-add_forgery-in-Forge-clause-extends g c =
    let may = may_forge g (goal.at.returns-in_ok-add_forgery-in-Forge-clause-extends g c).In_ok-bytes-in-Forge in
    c.add_forgery.ensures.extends c.args.plan.now c.requires.state.0 may.0 may.1 may.2

pub returns-in_ok-add_forgery-in-Forge-clause-state : goal.returns-in_ok-add_forgery-in-Forge-clause-state
returns-in_ok-add_forgery-in-Forge-clause-state g c =
    let may = may_forge g (goal.at.returns-in_ok-add_forgery-in-Forge-clause-state g c).In_ok-bytes-in-Forge in
    (c.in_ok-add_forgery-in-Forge.ensures.becomes c.args.plan.now c.requires.state.0 may.0 may.1 may.2).state

pub returns-in_ok-add_forgery-in-Forge-clause-performs : goal.returns-in_ok-add_forgery-in-Forge-clause-performs
returns-in_ok-add_forgery-in-Forge-clause-performs g c =
    let at = goal.at.returns-in_ok-add_forgery-in-Forge-clause-performs g c in
    let e = ears g.J.EffortJudge.heard g.J.EffortJudge.verdict g.B.Bell.rung g.B.Bell.limit in
    let plan = c.args.plan.now in
    let h = events_in c.args.state.now in
    let x = seen_by e c.args.watch.now in
    let bytes = c.in_ok-bytes-in-Forge.bytes in
    let forged = is_forged g at.In_ok-bytes-in-Forge in
    let may = may_forge g at.In_ok-bytes-in-Forge in
    let is = (c.in_ok-add_forgery-in-Forge.ensures.becomes plan c.requires.state.0 may.0 may.1 may.2).events in (
      subst (λ s. Performs (e.verdict c.args.watch.now.judge) plan h s (events_in c.add_forgery.new.state))
          (sym forged) is,
      subst (λ after. Watches plan h after x x) (sym is)
          (quiet_kept plan h x (events.Forge c.in-Forge.from c.in-Forge.to bytes) (λ w. (refl, refl))),
    )

-- What a fault stopped.

pub returns-in_err-add_ticks-in-Tick-clause-stops : goal.returns-in_err-add_ticks-in-Tick-clause-stops
returns-in_err-add_ticks-in-Tick-clause-stops g c =
    err_then c.from_residual.result
    (stopped_still g.D.Disk.face (ears g.J.EffortJudge.heard g.J.EffortJudge.verdict g.B.Bell.rung g.B.Bell.limit)
    c.args.plan.now _ c.args.state.now c.add_ticks.new.state c.args.watch.now c.args.watch.now
    c.requires.state.0
    (not_begun (g.J.EffortJudge.verdict c.args.watch.now.judge) c.args.plan.now (events_in c.args.state.now)
    c.args.step.now) c.in_err-add_ticks-in-Tick.ensures.sites
    (ap events_of c.in_err-add_ticks-in-Tick.ensures.err) refl)

pub returns-in_err-lose_first-in-Lose-clause-stops : goal.returns-in_err-lose_first-in-Lose-clause-stops
returns-in_err-lose_first-in-Lose-clause-stops g c =
    err_then c.from_residual-in_err-lose_first-in-Lose.result
    (stopped_still g.D.Disk.face (ears g.J.EffortJudge.heard g.J.EffortJudge.verdict g.B.Bell.rung g.B.Bell.limit)
    c.args.plan.now _ c.args.state.now c.lose_first.new.state c.args.watch.now c.args.watch.now
    c.requires.state.0
    (not_begun (g.J.EffortJudge.verdict c.args.watch.now.judge) c.args.plan.now (events_in c.args.state.now)
    c.args.step.now) c.in_err-lose_first-in-Lose.ensures.sites
    (ap events_of c.in_err-lose_first-in-Lose.ensures.err) refl)

pub returns-in_err-bytes-in-Forge-clause-stops : goal.returns-in_err-bytes-in-Forge-clause-stops
returns-in_err-bytes-in-Forge-clause-stops g c =
    err_then c.from_residual-in_err-bytes-in-Forge.result
    (stopped_still g.D.Disk.face (ears g.J.EffortJudge.heard g.J.EffortJudge.verdict g.B.Bell.rung g.B.Bell.limit)
    c.args.plan.now _ c.args.state.now c.args.state.now c.args.watch.now c.args.watch.now c.requires.state.0
    (not_begun (g.J.EffortJudge.verdict c.args.watch.now.judge) c.args.plan.now (events_in c.args.state.now)
    c.args.step.now) refl refl refl)

pub returns-in_err-add_forgery-in-Forge-clause-stops : goal.returns-in_err-add_forgery-in-Forge-clause-stops
returns-in_err-add_forgery-in-Forge-clause-stops g c =
    err_then c.from_residual-in_err-add_forgery-in-Forge.result
    (stopped_still g.D.Disk.face (ears g.J.EffortJudge.heard g.J.EffortJudge.verdict g.B.Bell.rung g.B.Bell.limit)
    c.args.plan.now _ c.args.state.now c.add_forgery.new.state c.args.watch.now c.args.watch.now
    c.requires.state.0
    (not_begun (g.J.EffortJudge.verdict c.args.watch.now.judge) c.args.plan.now (events_in c.args.state.now)
    c.args.step.now) c.in_err-add_forgery-in-Forge.ensures.sites
    (ap events_of c.in_err-add_forgery-in-Forge.ensures.err) refl)

pub returns-in_err-say-in-SayPoll-clause-stops : goal.returns-in_err-say-in-SayPoll-clause-stops
returns-in_err-say-in-SayPoll-clause-stops g c =
    err_then c.from_residual-in_err-say-in-SayPoll.result
    (stopped_still g.D.Disk.face (ears g.J.EffortJudge.heard g.J.EffortJudge.verdict g.B.Bell.rung g.B.Bell.limit)
    c.args.plan.now _ c.args.state.now c.say.new.state c.args.watch.now c.args.watch.now c.requires.state.0
    (not_begun (g.J.EffortJudge.verdict c.args.watch.now.judge) c.args.plan.now (events_in c.args.state.now)
    c.args.step.now) c.in_err-say-in-SayPoll.ensures.sites (ap events_of c.in_err-say-in-SayPoll.ensures.err)
    refl)

pub returns-in-Peer-clause-stops : goal.returns-in-Peer-clause-stops
returns-in-Peer-clause-stops g c =
    subst
    (λ st. OnErr c.add_due.result
    (HasStopped g.D.Disk.face
    (ears g.J.EffortJudge.heard g.J.EffortJudge.verdict g.B.Bell.rung g.B.Bell.limit) c.args.plan.now
    (Performs (g.J.EffortJudge.verdict c.args.watch.now.judge) c.args.plan.now (events_in c.args.state.now)
    st) (events_in c.args.state.now) c.args.watch.now c.add_due.new.state c.add_due.new.watch))
    (sym c.in-Peer.is)
    (c.add_due.ensures.stops c.args.plan.now (own g (goal.at.returns-in-Peer-clause-stops g c).In-Peer))

pub returns-in-Crash-clause-stops : goal.returns-in-Crash-clause-stops
returns-in-Crash-clause-stops g c =
    let f = g.D.Disk.face in
    let e = (ears g.J.EffortJudge.heard g.J.EffortJudge.verdict g.B.Bell.rung g.B.Bell.limit) in
    let plan = c.args.plan.now in
    let s = c.args.state.now in
    let x = c.args.watch.now in
    let performs = Performs (e.verdict x.judge) plan (events_in s) c.args.step.now in
    err_three c.crash.result
    (λ same left again. record {
      next = None;
      up_to =
          subst (λ h. IsUpTo performs h None) (sym (ap events_of same))
          (not_begun (e.verdict x.judge) plan (events_in s) c.args.step.now);
      may = tt;
      stops = stops_quiet f e plan s (events_in c.crash.new.state) x x (ap events_of same) refl;
      left = left;
    })
    c.crash.ensures.err c.crash.ensures.fallen c.crash.ensures.fallen

pub returns-in-Next-clause-stops : goal.returns-in-Next-clause-stops
returns-in-Next-clause-stops g c =
    subst
    (λ st. OnErr c.go_on.result
    (HasStopped g.D.Disk.face
    (ears g.J.EffortJudge.heard g.J.EffortJudge.verdict g.B.Bell.rung g.B.Bell.limit) c.args.plan.now
    (Performs (g.J.EffortJudge.verdict c.args.watch.now.judge) c.args.plan.now (events_in c.args.state.now)
    st) (events_in c.args.state.now) c.args.watch.now c.go_on.new.state c.go_on.new.watch)) (sym c.in-Next.is)
    (c.go_on.ensures.stops c.args.plan.now c.requires.state.0 c.requires.state.1)

pub returns-in-Again-clause-stops : goal.returns-in-Again-clause-stops
returns-in-Again-clause-stops g c =
    subst
    (λ st. OnErr c.deliver_again.result
    (HasStopped g.D.Disk.face
    (ears g.J.EffortJudge.heard g.J.EffortJudge.verdict g.B.Bell.rung g.B.Bell.limit) c.args.plan.now
    (Performs (g.J.EffortJudge.verdict c.args.watch.now.judge) c.args.plan.now (events_in c.args.state.now)
    st) (events_in c.args.state.now) c.args.watch.now c.deliver_again.new.state c.deliver_again.new.watch))
    (sym c.in-Again.is)
    (c.deliver_again.ensures.stops c.args.plan.now c.requires.state.0 c.requires.state.1)

pub returns-in-Settle-clause-stops : goal.returns-in-Settle-clause-stops
returns-in-Settle-clause-stops g c =
    subst
    (λ st. OnErr c.go_on-in-Settle.result
    (HasStopped g.D.Disk.face
    (ears g.J.EffortJudge.heard g.J.EffortJudge.verdict g.B.Bell.rung g.B.Bell.limit) c.args.plan.now
    (Performs (g.J.EffortJudge.verdict c.args.watch.now.judge) c.args.plan.now (events_in c.args.state.now)
    st) (events_in c.args.state.now) c.args.watch.now c.go_on-in-Settle.new.state
    c.go_on-in-Settle.new.watch)) (sym c.in-Settle.is)
    (c.go_on-in-Settle.ensures.stops c.args.plan.now c.requires.state.0 c.requires.state.1)

pub returns-in-Finish-clause-stops : goal.returns-in-Finish-clause-stops
returns-in-Finish-clause-stops g c =
    subst
    (λ st. OnErr c.go_on-in-Finish.result
    (HasStopped g.D.Disk.face
    (ears g.J.EffortJudge.heard g.J.EffortJudge.verdict g.B.Bell.rung g.B.Bell.limit) c.args.plan.now
    (Performs (g.J.EffortJudge.verdict c.args.watch.now.judge) c.args.plan.now (events_in c.args.state.now)
    st) (events_in c.args.state.now) c.args.watch.now c.go_on-in-Finish.new.state
    c.go_on-in-Finish.new.watch)) (sym c.in-Finish.is)
    (c.go_on-in-Finish.ensures.stops c.args.plan.now c.requires.state.0 c.requires.state.1)

pub returns-in-Cut-clause-stops : goal.returns-in-Cut-clause-stops
returns-in-Cut-clause-stops g c =
    subst
    (λ st. OnErr c.cut.result
    (HasStopped g.D.Disk.face
    (ears g.J.EffortJudge.heard g.J.EffortJudge.verdict g.B.Bell.rung g.B.Bell.limit) c.args.plan.now
    (Performs (g.J.EffortJudge.verdict c.args.watch.now.judge) c.args.plan.now (events_in c.args.state.now)
    st) (events_in c.args.state.now) c.args.watch.now c.cut.new.state c.cut.new.watch)) (sym c.in-Cut.is)
    (c.cut.ensures.stops)

-- what no power fails in

pub returns-in-Peer-clause-power : goal.returns-in-Peer-clause-power
returns-in-Peer-clause-power g c = c.add_due.ensures.power c.args.plan.now _

pub returns-in-Next-clause-power : goal.returns-in-Next-clause-power
returns-in-Next-clause-power g c = c.go_on.ensures.power c.args.plan.now _

pub returns-in-Again-clause-power : goal.returns-in-Again-clause-power
returns-in-Again-clause-power g c = c.deliver_again.ensures.power c.args.plan.now _

pub returns-in-Settle-clause-power : goal.returns-in-Settle-clause-power
returns-in-Settle-clause-power g c = c.go_on-in-Settle.ensures.power c.args.plan.now _

pub returns-in-Finish-clause-power : goal.returns-in-Finish-clause-power
returns-in-Finish-clause-power g c = c.go_on-in-Finish.ensures.power c.args.plan.now _

pub returns-in_err-add_ticks-in-Tick-clause-power : goal.returns-in_err-add_ticks-in-Tick-clause-power
returns-in_err-add_ticks-in-Tick-clause-power g c =
    let f = g.D.Disk.face in
    let s = c.args.state.now in
    let t = c.add_ticks.new.state in
    sites_still f c.args.plan.now _ (events_in s) (events_in t) s.sites.items t.sites.items c.from_residual.result
    (ap events_of c.in_err-add_ticks-in-Tick.ensures.err)
    (power_still f s.sites.items t.sites.items c.in_err-add_ticks-in-Tick.ensures.sites)

pub returns-in_err-lose_first-in-Lose-clause-power : goal.returns-in_err-lose_first-in-Lose-clause-power
returns-in_err-lose_first-in-Lose-clause-power g c =
    let f = g.D.Disk.face in
    let s = c.args.state.now in
    let t = c.lose_first.new.state in
    sites_still f c.args.plan.now _ (events_in s) (events_in t) s.sites.items t.sites.items
    c.from_residual-in_err-lose_first-in-Lose.result (ap events_of c.in_err-lose_first-in-Lose.ensures.err)
    (power_still f s.sites.items t.sites.items c.in_err-lose_first-in-Lose.ensures.sites)

pub returns-in_err-say-in-SayPoll-clause-power : goal.returns-in_err-say-in-SayPoll-clause-power
returns-in_err-say-in-SayPoll-clause-power g c =
    let f = g.D.Disk.face in
    let s = c.args.state.now in
    let t = c.say.new.state in
    sites_still f c.args.plan.now _ (events_in s) (events_in t) s.sites.items t.sites.items
    c.from_residual-in_err-say-in-SayPoll.result (ap events_of c.in_err-say-in-SayPoll.ensures.err)
    (power_still f s.sites.items t.sites.items c.in_err-say-in-SayPoll.ensures.sites)

pub returns-in_ok-add_ticks-in-Tick-clause-power : goal.returns-in_ok-add_ticks-in-Tick-clause-power
returns-in_ok-add_ticks-in-Tick-clause-power g c =
    let f = g.D.Disk.face in
    let plan = c.args.plan.now in
    let s = c.args.state.now in
    let t = c.add_ticks.new.state in
    let is = (c.in_ok-add_ticks-in-Tick.ensures.becomes plan c.requires.state.0).events in
    sites_quiet f plan _ (events_in s) (events_in t) s.sites.items t.sites.items (Ok (tt {0}))
    (subst (IsQuiet plan (events_in s)) (sym is)
    (power_kept plan (events_in s) (events.Tick c.in-Tick.by) (λ w. (refl, refl))))
    (power_still f s.sites.items t.sites.items c.in_ok-add_ticks-in-Tick.ensures.sites)

pub returns-in_ok-lose_first-in-Lose-clause-power : goal.returns-in_ok-lose_first-in-Lose-clause-power
returns-in_ok-lose_first-in-Lose-clause-power g c =
    let f = g.D.Disk.face in
    let plan = c.args.plan.now in
    let s = c.args.state.now in
    let t = c.lose_first.new.state in
    let is = (c.in_ok-lose_first-in-Lose.ensures.becomes plan c.requires.state.0).events in
    sites_quiet f plan _ (events_in s) (events_in t) s.sites.items t.sites.items (Ok (tt {0}))
    (subst (IsQuiet plan (events_in s)) (sym is) (quiet_lost plan (events_in s)))
    (power_still f s.sites.items t.sites.items c.in_ok-lose_first-in-Lose.ensures.sites)

pub returns-in_ok-add_forgery-in-Forge-clause-power : goal.returns-in_ok-add_forgery-in-Forge-clause-power
returns-in_ok-add_forgery-in-Forge-clause-power g c =
    let f = g.D.Disk.face in
    let plan = c.args.plan.now in
    let s = c.args.state.now in
    let t = c.add_forgery.new.state in
    let may = may_forge g (goal.at.returns-in_ok-add_forgery-in-Forge-clause-power g c).In_ok-bytes-in-Forge in
    let is = (c.in_ok-add_forgery-in-Forge.ensures.becomes plan c.requires.state.0 may.0 may.1 may.2).events in
    sites_quiet f plan _ (events_in s) (events_in t) s.sites.items t.sites.items (Ok (tt {0}))
    (subst (IsQuiet plan (events_in s)) (sym is)
    (power_kept plan (events_in s) (events.Forge c.in-Forge.from c.in-Forge.to c.in_ok-bytes-in-Forge.bytes)
    (λ w. (refl, refl))))
    (power_still f s.sites.items t.sites.items c.in_ok-add_forgery-in-Forge.ensures.sites)

pub returns-in_ok-say-in-SayPoll-clause-power : goal.returns-in_ok-say-in-SayPoll-clause-power
returns-in_ok-say-in-SayPoll-clause-power g c =
    let f = g.D.Disk.face in
    let plan = c.args.plan.now in
    let s = c.args.state.now in
    let t = c.say.new.state in
    sites_quiet f plan _ (events_in s) (events_in t) s.sites.items t.sites.items (Ok (tt {0}))
    c.in_ok-say-in-SayPoll.ensures.quiet
    (power_still f s.sites.items t.sites.items c.in_ok-say-in-SayPoll.ensures.sites)

-- what one may fail in

pub returns-in-Crash-clause-power : goal.returns-in-Crash-clause-power
returns-in-Crash-clause-power g c =
    let f = g.D.Disk.face in
    let plan = c.args.plan.now in
    let s = c.args.state.now in
    let t = c.crash.new.state in
    subst
    (λ st. SitesPower f plan (loser_of (g.J.EffortJudge.verdict c.args.watch.now.judge) plan (events_in s) st)
    (events_in s) (events_in t) s.sites.items t.sites.items c.crash.result) (sym c.in-Crash.is)
    c.crash.ensures.power

pub returns-in-Cut-clause-power : goal.returns-in-Cut-clause-power
returns-in-Cut-clause-power g c =
    let f = g.D.Disk.face in
    let plan = c.args.plan.now in
    let s = c.args.state.now in
    let t = c.cut.new.state in
    subst
    (λ st. SitesPower f plan (loser_of (g.J.EffortJudge.verdict c.args.watch.now.judge) plan (events_in s) st)
    (events_in s) (events_in t) s.sites.items t.sites.items c.cut.result) (sym c.in-Cut.is) c.cut.ensures.power

pub returns-in_err-bytes-in-Forge-clause-power : goal.returns-in_err-bytes-in-Forge-clause-power
returns-in_err-bytes-in-Forge-clause-power g c =
    let s = c.args.state.now in
    sites_still g.D.Disk.face c.args.plan.now _ (events_in s) (events_in s) s.sites.items s.sites.items
    c.from_residual-in_err-bytes-in-Forge.result refl
    (power_still g.D.Disk.face s.sites.items s.sites.items refl)

pub returns-in_err-add_forgery-in-Forge-clause-power : goal.returns-in_err-add_forgery-in-Forge-clause-power
returns-in_err-add_forgery-in-Forge-clause-power g c =
    let f = g.D.Disk.face in
    let s = c.args.state.now in
    let t = c.add_forgery.new.state in
    sites_still f c.args.plan.now _ (events_in s) (events_in t) s.sites.items t.sites.items
    c.from_residual-in_err-add_forgery-in-Forge.result (ap events_of c.in_err-add_forgery-in-Forge.ensures.err)
    (power_still f s.sites.items t.sites.items c.in_err-add_forgery-in-Forge.ensures.sites)
