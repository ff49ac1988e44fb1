use Rattle.std.proofs.Common.{◌≡◌, ◌+◌, ◌-◌, ◌∙◌, sym, ap, subst, refl, suc, ℕ, List, [], ◌∷◌, ◌++◌, length}
use Rattle.std.proofs.Common.{append_assoc, arith, length-append}
use Rattle.std.specs.Prelude.{Ok}
use Rattle.std.proofs.lemmas.List.Elements.{All-nil}
use Rattle.std.proofs.lemmas.Result.{err_from_is_err_and}
use Rattle.lks_blocks.specs.Block.{AllOf}
use Rattle.lks_farm.specs.Batches.{AreDoneOf}
use Rattle.lks_work.specs.Names.{refs_done}
use Rattle.lks_base.specs.declared.events.Event.{Event}
use Rattle.lks_base.specs.declared.plans.Plan.{Plan}
use Rattle.lks_law.specs.Questions.{Verdicts, event_of, questions}
use Rattle.lks_watch.proofs.Going.{watches_same, watches_then}
use Rattle.lks_watch.specs.Watching.{ears, seen_by}
use Rattle.lks_world.proofs.SiteLaws.{counted_start, counted_then}
use Rattle.lks_world.proofs.Keeping.{goes_first, goes_on, goes_none, extends_same, extends_then, count_events}
use Rattle.lks_world.proofs.NextLaws.{next_doable, next_is, none_is}
use Rattle.lks_world.specs.Doable.{IsDoable}
use Rattle.lks_world.specs.Follows.{done_within, next_event}
use Rattle.lks_world.specs.States.{IsStateOf, Becomes, events_in, next_of}
use Rattle.lks_world.proofs.doing.go_on.Given.{Over}
use Rattle.lks_world.proofs.Stopped.{err_then, stopped_on, stopped_then}
use Rattle.lks_world.proofs.UpTo.{done_next}
use Rattle.lks_world.proofs.PowerEnds.{power_still, sites_still, sites_stopped, sites_then}
use Rattle.lks_world.proofs.doing.go_on.Goals.{In-Some, In_ok-do_next-in-Some}
use Rattle.lks_world.proofs.doing.go_on.Goals as goal

pub loop-turn-init : goal.loop-turn-init
loop-turn-init g c =
    let e = ears g.J.EffortJudge.heard g.J.EffortJudge.verdict g.B.Bell.rung g.B.Bell.limit in
    record {
      goes = λ plan is heard.
          goes_first g.D.Disk.face
          (next_event (g.J.EffortJudge.verdict c.args.watch.now.judge) (next_of c.args.course)) c.args.times
          plan c.args.state.now (c.min-turn-end.result - 0) is
          (omega (arith, c.min-turn-end.ensures, c.room.ensures));
      watches = λ plan is heard. watches_same plan (events_in c.args.state.now) (seen_by e c.args.watch.now);
      extends =
          λ plan is heard. extends_same g.D.Disk.face plan c.args.state.now c.args.state.now.history.items is refl;
      room = omega (arith, c.min-turn-end.ensures, c.room.ensures);
      power = λ plan who.
          let xs = c.args.state.now.sites.items in
          sites_still g.D.Disk.face plan who (events_in c.args.state.now) (events_in c.args.state.now) xs xs
          (Ok (tt {0})) refl (power_still g.D.Disk.face xs xs refl);
      counted = counted_start g.D.Disk.face c.args.state.now.sites.items;
      beside = rw c.new-beside.ensures.items (All-nil (λ d. AllOf c.args.state.now.pool.now (refs_done d)));
      pooled = refl;
    }

-- what comes next can be done
doable : (g : Over) (c : In-Some g) (plan : Plan) → IsStateOf g.D.Disk.face plan c.args.state.now
    → g.J.EffortJudge.heard c.args.watch.now.judge ≡ questions plan (events_in c.args.state.now)
    → IsDoable g.D.Disk.face g.J.EffortJudge.heard plan c.loop-turn.state c.loop-turn.watch c.in-Some.due
doable g c plan is heard =
    let at = (c.loop-turn.invariant.goes plan is heard).state in
    next_doable g.D.Disk.face plan c.loop-turn.state at g.J.EffortJudge.heard c.loop-turn.watch
    ((c.loop-turn.invariant.watches plan is heard).heard heard) c.args.course c.in-Some.due
    (sym c.in-Some.is ∙ c.next.ensures plan at)

-- it is judged as the judge does that was handed in
same_event : (g : Over) (c : In-Some g) (plan : Plan) → IsStateOf g.D.Disk.face plan c.args.state.now
    → g.J.EffortJudge.heard c.args.watch.now.judge ≡ questions plan (events_in c.args.state.now)
    → event_of (g.J.EffortJudge.verdict c.loop-turn.watch.judge) plan (events_in c.loop-turn.state) c.in-Some.due
    ≡ event_of (g.J.EffortJudge.verdict c.args.watch.now.judge) plan (events_in c.loop-turn.state) c.in-Some.due
same_event g c plan is heard =
    ap (λ (v : Verdicts). event_of v plan (events_in c.loop-turn.state) c.in-Some.due)
    (c.loop-turn.invariant.watches plan is heard).verdict

pub do_next-requires-clause-room : goal.do_next-requires-clause-room
do_next-requires-clause-room g c = λ κs lives. omega (arith, c.loop-turn.invariant.room, c.loop-turn-test.true)

pub do_next-requires-clause-state : goal.do_next-requires-clause-state
do_next-requires-clause-state g c =
    λ κs lives. (
      c.requires.0,
      doable g (goal.at.do_next-requires-clause-state g c).In-Some c.requires.0 c.requires.1 c.requires.2,
    )

-- it became part of the history
became : (g : Over) (c : In_ok-do_next-in-Some g) (plan : Plan) → IsStateOf g.D.Disk.face plan c.args.state.now
    → g.J.EffortJudge.heard c.args.watch.now.judge ≡ questions plan (events_in c.args.state.now)
    → Becomes g.D.Disk.face plan
    (events_in c.loop-turn.state
    ++ event_of (g.J.EffortJudge.verdict c.args.watch.now.judge) plan (events_in c.loop-turn.state)
    c.in-Some.due
    ∷ []) c.do_next.new.state
became g c plan is heard =
    let s = c.loop-turn.state in
    let at = (c.loop-turn.invariant.goes plan is heard).state in
    let watches = c.loop-turn.invariant.watches plan is heard in
    subst
    (λ (v : Verdicts). Becomes g.D.Disk.face plan
    (events_in s ++ event_of v plan (events_in s) c.in-Some.due ∷ []) c.do_next.new.state) watches.verdict
    (c.in_ok-do_next-in-Some.ensures.becomes plan
    (next_doable g.D.Disk.face plan s at g.J.EffortJudge.heard c.loop-turn.watch (watches.heard heard) c.args.course
    c.in-Some.due (sym c.in-Some.is ∙ c.next.ensures plan at)))

pub loop-turn-preserved : goal.loop-turn-preserved
loop-turn-preserved g c =
    let f = g.D.Disk.face in
    let e = ears g.J.EffortJudge.heard g.J.EffortJudge.verdict g.B.Bell.rung g.B.Bell.limit in
    let verdict = g.J.EffortJudge.verdict c.args.watch.now.judge in
    let s = c.loop-turn.state in
    let t = c.do_next.new.state in
    let kept = c.loop-turn.invariant in
    let done = c.in_ok-do_next-in-Some.ensures in
    let here = (goal.at.loop-turn-preserved g c).In-Some in
    let then = (goal.at.loop-turn-preserved g c).In_ok-do_next-in-Some in
    record {
      goes = λ plan is heard.
          let at = kept.goes plan is heard in
          let one : c.min-turn-end.result - c.loop-turn.turn
          ≡ suc (c.min-turn-end.result - (c.loop-turn.turn + 1)) = omega (arith, c.loop-turn-test.true) in
          goes_on f (next_event verdict (next_of c.args.course)) c.args.times plan c.args.state.now s t
          (c.min-turn-end.result - c.loop-turn.turn) (c.min-turn-end.result - (c.loop-turn.turn + 1))
          (event_of verdict plan (events_in s) c.in-Some.due) at one
          (next_is f plan s at.state verdict c.args.course c.in-Some.due
          (sym c.in-Some.is ∙ c.next.ensures plan at.state)) (became g then plan is heard);
      watches = λ plan is heard.
          watches_then plan (events_in c.args.state.now) (events_in s) (events_in t) (seen_by e c.args.watch.now)
          (seen_by e c.loop-turn.watch) (seen_by e c.do_next.new.watch) (kept.watches plan is heard)
          (done.watches plan (doable g here plan is heard));
      extends =
          λ plan is heard. extends_then plan c.args.state.now.history.items s.history.items t.history.items
          (kept.extends plan is heard) (done.extends plan (doable g here plan is heard));
      room =
          let b = became g then c.requires.0 c.requires.1 c.requires.2 in
          omega (
            arith,
            kept.room,
            ap length b.events,
            length-append (events_in s) (event_of verdict c.requires.0 (events_in s) c.in-Some.due ∷ []),
            count_events f s,
            count_events f t,
          );
      power =
          λ plan who. sites_then f plan who (events_in c.args.state.now) (events_in s) (events_in t)
          c.args.state.now.sites.items s.sites.items t.sites.items (Ok (tt {0})) kept.counted.ids
          (kept.power plan who) (done.power plan who);
      counted =
          counted_then f c.args.state.now.sites.items s.sites.items t.sites.items (Ok tt) (Ok tt) kept.counted
          done.counted;
      beside = subst (λ (pool : List ℕ). AreDoneOf pool c.do_next.new.beside.items) (sym done.pool) done.of;
      pooled = done.pool ∙ kept.pooled;
    }

pub returns-in-None-clause-becomes : goal.returns-in-None-clause-becomes
returns-in-None-clause-becomes g c = λ plan is heard.
    let verdict = g.J.EffortJudge.verdict c.args.watch.now.judge in
    let s = c.loop-turn.state in
    let at = c.loop-turn.invariant.goes plan is heard in
    let one : c.min-turn-end.result - c.loop-turn.turn
    ≡ suc (c.min-turn-end.result - (c.loop-turn.turn + 1)) = omega (arith, c.loop-turn-test.true) in
    goes_none g.D.Disk.face (next_event verdict (next_of c.args.course)) c.args.times plan c.args.state.now s
    (c.min-turn-end.result - c.loop-turn.turn) (c.min-turn-end.result - (c.loop-turn.turn + 1)) at one
    (none_is g.D.Disk.face plan s at.state verdict c.args.course (sym c.in-None.is ∙ c.next.ensures plan at.state))

pub returns-in-None-clause-power : goal.returns-in-None-clause-power
returns-in-None-clause-power g c = c.loop-turn.invariant.power

pub returns-clause-power : goal.returns-clause-power
returns-clause-power g c = c.loop-turn.invariant.power

-- how far a fault let it come

pub returns-in_err-do_next-in-Some-clause-extends : goal.returns-in_err-do_next-in-Some-clause-extends
returns-in_err-do_next-in-Some-clause-extends g c = λ plan is heard.
    let can = doable g (goal.at.returns-in_err-do_next-in-Some-clause-extends g c).In-Some plan is heard in
    extends_then plan c.args.state.now.history.items c.loop-turn.state.history.items
    c.do_next.new.state.history.items (c.loop-turn.invariant.extends plan is heard)
    (c.in_err-do_next-in-Some.ensures.extends plan can)

pub returns-in_err-do_next-in-Some-clause-counted : goal.returns-in_err-do_next-in-Some-clause-counted
returns-in_err-do_next-in-Some-clause-counted g c =
    let p = err_from_is_err_and c.from_residual.result c.from_residual.ensures.1 in
    rw (p.1, p.2)
    (counted_then g.D.Disk.face c.args.state.now.sites.items c.loop-turn.state.sites.items
    c.do_next.new.state.sites.items (Ok tt) _ c.loop-turn.invariant.counted
    c.in_err-do_next-in-Some.ensures.counted)

pub returns-in_err-do_next-in-Some-clause-stops : goal.returns-in_err-do_next-in-Some-clause-stops
returns-in_err-do_next-in-Some-clause-stops g c = λ plan is heard.
    let f = g.D.Disk.face in
    let e = (ears g.J.EffortJudge.heard g.J.EffortJudge.verdict g.B.Bell.rung g.B.Bell.limit) in
    let here = (goal.at.returns-in_err-do_next-in-Some-clause-stops g c).In-Some in
    let first = events_in c.args.state.now in
    let s = c.loop-turn.state in
    let verdict = g.J.EffortJudge.verdict c.args.watch.now.judge in
    let by = next_event verdict (next_of c.args.course) in
    let at = c.loop-turn.invariant.goes plan is heard in
    let one : c.min-turn-end.result - c.loop-turn.turn
    ≡ suc (c.min-turn-end.result - (c.loop-turn.turn + 1)) = omega (arith, c.loop-turn-test.true) in
    let next = event_of verdict plan (events_in s) c.in-Some.due in
    let more = done_next by (c.min-turn-end.result - (c.loop-turn.turn + 1)) plan (events_in s) next
    (next_is f plan s at.state verdict c.args.course c.in-Some.due
    (sym c.in-Some.is ∙ c.next.ensures plan at.state)) in
    let all = sym at.rest ∙ ap (λ n. done_within by n plan (events_in s)) one ∙ more.1 in
    let way = ap (λ (d : Event). events_in s ++ d ∷ []) (same_event g here plan is heard) in
    err_then c.from_residual.result
    (stopped_on f e plan _ _ first c.do_next.new.state c.args.watch.now c.do_next.new.watch
    (λ whole whole_is. (
      more.0,
      ap (λ (h : List Event). h ++ more.0) (whole_is ∙ way)
          ∙ append_assoc (events_in s) (next ∷ []) more.0 ∙ sym all,
    ))
    (stopped_then f e plan _ first (events_in s) c.do_next.new.state c.args.watch.now c.loop-turn.watch
    c.do_next.new.watch (c.loop-turn.invariant.watches plan is heard)
    (c.in_err-do_next-in-Some.ensures.stops plan (doable g here plan is heard))))

pub returns-in_err-do_next-in-Some-clause-power : goal.returns-in_err-do_next-in-Some-clause-power
returns-in_err-do_next-in-Some-clause-power g c = λ plan who.
    let f = g.D.Disk.face in
    let s = c.args.state.now in
    let m = c.loop-turn.state in
    let t = c.do_next.new.state in
    let r = c.from_residual.result in
    sites_then f plan who (events_in s) (events_in m) (events_in t) s.sites.items m.sites.items t.sites.items r
    c.loop-turn.invariant.counted.ids (c.loop-turn.invariant.power plan who)
    (sites_stopped f plan who _ (events_in m) (events_in t) m.sites.items t.sites.items _ r
    (c.in_err-do_next-in-Some.ensures.power plan who) c.from_residual.ensures.1)
