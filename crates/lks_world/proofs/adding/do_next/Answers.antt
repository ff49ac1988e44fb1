use Rattle.std.proofs.Common.{◌≡◌, ap, sym, subst, refl, ℕ, List, [], ◌∷◌, ◌++◌, length, arith}
use Rattle.std.specs.Prelude.{Err, IfSome, None, Ok, Result}
use Rattle.std.proofs.lemmas.Result.{err_from_is_err_and}
use Rattle.lks_base.specs.declared.entries.Entry.{Entry}
use Rattle.lks_base.specs.declared.events.Event.{Event}
use Rattle.lks_base.specs.declared.plans.Plan.{Plan}
use Rattle.lks_law.specs.Questions.{event_of}
use Rattle.lks_watch.specs.Watching.{WatchesBy, ears}
use Rattle.lks_world.proofs.SameSites.{same_counted, same_doable, same_ids, same_pooled, same_power, same_state}
use Rattle.lks_world.proofs.Keeping.{extends_same}
use Rattle.lks_world.proofs.PowerEnds.{sites_still, sites_stopped, sites_then}
use Rattle.lks_world.proofs.SiteLaws.{counted_then}
use Rattle.lks_world.proofs.Stopped.{err_then, stopped_still}
use Rattle.lks_world.proofs.UpTo.{none_begun}
use Rattle.lks_world.specs.Beside.{IsForDue}
use Rattle.lks_world.specs.Doable.{IsDoable}
use Rattle.lks_world.specs.Follows.{IsUpTo}
use Rattle.lks_world.specs.States.{Becomes, Extends, events_in}
use Rattle.lks_world.specs.Stopping.{HasStopped}
use Rattle.lks_world.specs.declared.faults.WorldFault.{WorldFault}
use Rattle.lks_world.specs.declared.faults.WorldFault.TheVariants.{Memory}
use Rattle.lks_world.specs.declared.states.State.{State}
use Rattle.lks_world.proofs.adding.do_next.Given.{Over}
use Rattle.lks_world.proofs.adding.do_next.Goals.{In_ok-done}
use Rattle.lks_world.proofs.adding.do_next.Goals as goal

pub result_for-requires-clause-pooled : goal.result_for-requires-clause-pooled
result_for-requires-clause-pooled g c =
    λ κs lives. same_pooled g.D.Disk.face c.requires.state.0 c.args.state.now c.requires.state.1.state

-- what is due can be done beside what was hashed
doable : (g : Over) (c : In_ok-done g) (plan : Plan)
    → IsDoable g.D.Disk.face g.J.EffortJudge.heard plan c.args.state.now c.args.watch.now c.args.due
    → IsDoable g.D.Disk.face g.J.EffortJudge.heard plan c.result_for.new.state c.args.watch.now c.args.due
doable g c plan can =
    same_doable g.D.Disk.face g.J.EffortJudge.heard plan c.args.state.now c.result_for.new.state c.args.watch.now
    c.args.due c.in_ok-done.ensures.same c.in_ok-done.ensures.rest can

pub do_due-requires-clause-room : goal.do_due-requires-clause-room
do_due-requires-clause-room g c =
    λ κs lives. omega
    (arith, c.requires.room, ap (λ (s : State g.row.D.Denot). length s.history.items) c.in_ok-done.ensures.rest)

pub do_due-requires-clause-state : goal.do_due-requires-clause-state
do_due-requires-clause-state g c =
    λ κs lives. (
      c.requires.state.0,
      doable g (goal.at.do_due-requires-clause-state g c).In_ok-done c.requires.state.0 c.requires.state.1,
    )

pub do_due-requires-clause-done : goal.do_due-requires-clause-done
do_due-requires-clause-done g c = λ κs lives.
    subst (λ (pool : List ℕ). IfSome c.in_ok-done.done (IsForDue pool c.args.due))
    (sym (ap (λ (s : State g.row.D.Denot). s.pool.now) c.in_ok-done.ensures.rest)) c.in_ok-done.ensures.result

pub returns-clause-becomes : goal.returns-clause-becomes
returns-clause-becomes g c = λ plan can.
    let at = (goal.at.returns-clause-becomes g c).In_ok-done in
    subst
    (λ (h : List Event). Becomes g.D.Disk.face plan
    (h ++ event_of (g.J.EffortJudge.verdict c.args.watch.now.judge) plan h c.args.due ∷ [])
    c.do_due.new.state) (ap events_in c.in_ok-done.ensures.rest)
    (c.in_ok-do_due.ensures.becomes plan (doable g at plan can))

pub returns-clause-watches : goal.returns-clause-watches
returns-clause-watches g c = λ plan can.
    let at = (goal.at.returns-clause-watches g c).In_ok-done in
    subst
    (λ (h : List Event). WatchesBy
    (ears g.J.EffortJudge.heard g.J.EffortJudge.verdict g.B.Bell.rung g.B.Bell.limit) plan h
    (events_in c.do_due.new.state) c.args.watch.now c.do_due.new.watch) (ap events_in c.in_ok-done.ensures.rest)
    (c.in_ok-do_due.ensures.watches plan (doable g at plan can))

pub returns-clause-extends : goal.returns-clause-extends
returns-clause-extends g c = λ plan can.
    let at = (goal.at.returns-clause-extends g c).In_ok-done in
    subst (λ (h : List Entry). Extends plan h c.do_due.new.state.history.items)
    (ap (λ (s : State g.row.D.Denot). s.history.items) c.in_ok-done.ensures.rest)
    (c.in_ok-do_due.ensures.extends plan (doable g at plan can))

pub returns-clause-counted : goal.returns-clause-counted
returns-clause-counted g c =
    let xs = c.args.state.now.sites.items in
    let ys = c.result_for.new.state.sites.items in
    counted_then g.D.Disk.face xs ys c.do_due.new.state.sites.items (Ok (tt {0})) (Ok (tt {0}))
    (same_counted g.D.Disk.face xs ys (Ok (tt {0})) (λ id is. absurd cc) c.in_ok-done.ensures.same)
    c.in_ok-do_due.ensures.counted

pub returns-clause-power : goal.returns-clause-power
returns-clause-power g c = λ plan who.
    let f = g.D.Disk.face in
    let s = c.args.state.now in
    let t = c.result_for.new.state in
    let u = c.do_due.new.state in
    let same = c.in_ok-done.ensures.same in
    sites_then f plan who (events_in s) (events_in t) (events_in u) s.sites.items t.sites.items u.sites.items
    (Ok (tt {0})) (same_ids s.sites.items t.sites.items same)
    (sites_still f plan who (events_in s) (events_in t) s.sites.items t.sites.items (Ok (tt {0}))
    (ap events_in c.in_ok-done.ensures.rest) (same_power f s.sites.items t.sites.items same))
    (c.in_ok-do_due.ensures.power plan who)

-- how far a fault let it come

pub returns-in_err-do_due-clause-extends : goal.returns-in_err-do_due-clause-extends
returns-in_err-do_due-clause-extends g c = λ plan can.
    let at = (goal.at.returns-in_err-do_due-clause-extends g c).In_ok-done in
    subst (λ (h : List Entry). Extends plan h c.do_due.new.state.history.items)
    (ap (λ (s : State g.row.D.Denot). s.history.items) c.in_ok-done.ensures.rest)
    (c.in_err-do_due.ensures.extends plan (doable g at plan can))

pub returns-in_err-do_due-clause-counted : goal.returns-in_err-do_due-clause-counted
returns-in_err-do_due-clause-counted g c =
    let p = err_from_is_err_and c.from_residual-in_err-do_due.result c.from_residual-in_err-do_due.ensures.1 in
    let xs = c.args.state.now.sites.items in
    let ys = c.result_for.new.state.sites.items in
    rw (p.1, p.2)
    (counted_then g.D.Disk.face xs ys c.do_due.new.state.sites.items (Ok (tt {0})) _
    (same_counted g.D.Disk.face xs ys (Ok (tt {0})) (λ id is. absurd cc) c.in_ok-done.ensures.same)
    c.in_err-do_due.ensures.counted)

pub returns-in_err-do_due-clause-stops : goal.returns-in_err-do_due-clause-stops
returns-in_err-do_due-clause-stops g c = λ plan can.
    let f = g.D.Disk.face in
    let e = ears g.J.EffortJudge.heard g.J.EffortJudge.verdict g.B.Bell.rung g.B.Bell.limit in
    let at = (goal.at.returns-in_err-do_due-clause-stops g c).In_ok-done in
    err_then c.from_residual-in_err-do_due.result
    (subst
    (λ (h : List Event). HasStopped f e plan
    (λ after. after ≡ h ++ event_of (g.J.EffortJudge.verdict c.args.watch.now.judge) plan h c.args.due ∷ []) h
    c.args.watch.now c.do_due.new.state c.do_due.new.watch) (ap events_in c.in_ok-done.ensures.rest)
    (c.in_err-do_due.ensures.stops plan (doable g at plan can)))

pub returns-in_err-do_due-clause-power : goal.returns-in_err-do_due-clause-power
returns-in_err-do_due-clause-power g c = λ plan who.
    let f = g.D.Disk.face in
    let s = c.args.state.now in
    let t = c.result_for.new.state in
    let u = c.do_due.new.state in
    let same = c.in_ok-done.ensures.same in
    let r = c.from_residual-in_err-do_due.result in
    sites_then f plan who (events_in s) (events_in t) (events_in u) s.sites.items t.sites.items u.sites.items r
    (same_ids s.sites.items t.sites.items same)
    (sites_still f plan who (events_in s) (events_in t) s.sites.items t.sites.items (Ok (tt {0}))
    (ap events_in c.in_ok-done.ensures.rest) (same_power f s.sites.items t.sites.items same))
    (sites_stopped f plan who _ (events_in t) (events_in u) t.sites.items u.sites.items _ r
    (c.in_err-do_due.ensures.power plan who) c.from_residual-in_err-do_due.ensures.1)

-- memory was missing before it was begun

pub returns-in_err-done-clause-extends : goal.returns-in_err-done-clause-extends
returns-in_err-done-clause-extends g c = λ plan can.
    extends_same g.D.Disk.face plan c.args.state.now c.result_for.new.state.history.items can.state
    (ap (λ (s : State g.row.D.Denot). s.history.items) c.in_err-done.ensures.rest)

pub returns-in_err-done-clause-counted : goal.returns-in_err-done-clause-counted
returns-in_err-done-clause-counted g c =
    let p = err_from_is_err_and c.from_residual.result c.from_residual.ensures.1 in
    let refused : Result (Unit {0}) WorldFault = Err Memory in
    rw (p.1, p.2)
    (same_counted g.D.Disk.face c.args.state.now.sites.items c.result_for.new.state.sites.items refused
    (λ id is. absurd cc) c.in_err-done.ensures.same)

pub returns-in_err-done-clause-stops : goal.returns-in_err-done-clause-stops
returns-in_err-done-clause-stops g c = λ plan can.
    let f = g.D.Disk.face in
    let e = ears g.J.EffortJudge.heard g.J.EffortJudge.verdict g.B.Bell.rung g.B.Bell.limit in
    let s = c.args.state.now in
    let t = c.result_for.new.state in
    let here : events_in t ≡ events_in s = ap events_in c.in_err-done.ensures.rest in
    let next = event_of (g.J.EffortJudge.verdict c.args.watch.now.judge) plan (events_in s) c.args.due in
    let P = λ (after : List Event). after ≡ events_in s ++ next ∷ [] in
    err_then c.from_residual.result
    (subst (λ (h : List Event). HasStopped f e plan P h c.args.watch.now t c.args.watch.now) here
    (stopped_still f e plan P t t c.args.watch.now c.args.watch.now
    (same_state f plan s t c.in_err-done.ensures.same c.in_err-done.ensures.rest can.state)
    (subst (λ (h : List Event). IsUpTo P h None) (sym here)
    (none_begun _ (events_in s) (events_in s ++ next ∷ []) refl (next ∷ [], refl))) refl refl refl))

pub returns-in_err-done-clause-power : goal.returns-in_err-done-clause-power
returns-in_err-done-clause-power g c = λ plan who.
    let s = c.args.state.now in
    let t = c.result_for.new.state in
    sites_still g.D.Disk.face plan who (events_in s) (events_in t) s.sites.items t.sites.items
    c.from_residual.result (ap events_in c.in_err-done.ensures.rest)
    (same_power g.D.Disk.face s.sites.items t.sites.items c.in_err-done.ensures.same)
