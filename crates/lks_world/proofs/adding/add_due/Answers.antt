use Rattle.std.proofs.Common.{◌≤◌, ◌-◌, ◌∙◌, sym, length, refl, arith}
use Rattle.std.proofs.lemmas.List.{append-nil}
use Rattle.std.specs.Prelude.{[], Ok}
use Rattle.lks_base.specs.declared.limits.TheConstants.{MOST_EVENTS}
use Rattle.lks_law.specs.Questions.{event_of}
use Rattle.lks_watch.specs.Watching.{ears}
use Rattle.lks_world.proofs.Keeping.{extends_same, full_kept, kept_room, room_kept, room_left}
use Rattle.lks_world.proofs.PowerEnds.{power_still, sites_still, sites_stopped}
use Rattle.lks_world.proofs.Stopped.{err_then, stopped_on}
use Rattle.lks_world.proofs.Watched.{watched_still}
use Rattle.lks_world.specs.States.{events_in}
use Rattle.lks_world.proofs.adding.add_due.Goals as goal

pub do_due-requires-clause-room : goal.do_due-requires-clause-room
do_due-requires-clause-room g c = λ κs lives. omega (arith, c.if-room-gt0.true, c.room.ensures)

pub returns-in_ok-do_due-clause-becomes : goal.returns-in_ok-do_due-clause-becomes
returns-in_ok-do_due-clause-becomes g c = λ plan can.
    let s = c.args.state.now in
    let e = event_of (g.J.EffortJudge.verdict c.args.watch.now.judge) plan (events_in s) c.args.due in
    room_kept g.D.Disk.face plan s c.do_due.new.state e (omega (arith, c.if-room-gt0.true, c.room.ensures))
    (c.in_ok-do_due.ensures.becomes plan can)

pub returns-else-room-gt0-clause-becomes : goal.returns-else-room-gt0-clause-becomes
returns-else-room-gt0-clause-becomes g c = λ plan can.
    let s = c.args.state.now in
    let full : MOST_EVENTS - length s.history.items ≤ 0 = omega (arith, c.if-room-gt0.false, c.room.ensures) in
    full_kept g.D.Disk.face plan s
    (event_of (g.J.EffortJudge.verdict c.args.watch.now.judge) plan (events_in s) c.args.due) full can.state

pub returns-else-room-gt0-clause-extends : goal.returns-else-room-gt0-clause-extends
returns-else-room-gt0-clause-extends g c =
    λ plan can. extends_same g.D.Disk.face plan c.args.state.now c.args.state.now.history.items can.state refl

pub returns-else-room-gt0-clause-watches : goal.returns-else-room-gt0-clause-watches
returns-else-room-gt0-clause-watches g c = λ plan can.
    watched_still g.D.Disk.face (ears g.J.EffortJudge.heard g.J.EffortJudge.verdict g.B.Bell.rung g.B.Bell.limit)
    plan c.args.state.now c.args.state.now c.args.watch.now refl

pub returns-in_err-do_due-clause-stops : goal.returns-in_err-do_due-clause-stops
returns-in_err-do_due-clause-stops g c = λ plan can.
    let f = g.D.Disk.face in
    let s = c.args.state.now in
    let e = event_of (g.J.EffortJudge.verdict c.args.watch.now.judge) plan (events_in s) c.args.due in
    let room = kept_room (events_in s) e (room_left f s (omega (arith, c.if-room-gt0.true, c.room.ensures))) in
    err_then c.from_residual.result
    (stopped_on f (ears g.J.EffortJudge.heard g.J.EffortJudge.verdict g.B.Bell.rung g.B.Bell.limit) plan _ _
    (events_in s) c.do_due.new.state c.args.watch.now c.do_due.new.watch
    (λ whole is. ([], append-nil whole ∙ is ∙ sym room)) (c.in_err-do_due.ensures.stops plan can))

pub returns-in_err-do_due-clause-power : goal.returns-in_err-do_due-clause-power
returns-in_err-do_due-clause-power g c = λ plan who.
    let s = c.args.state.now in
    let t = c.do_due.new.state in
    sites_stopped g.D.Disk.face plan who _ (events_in s) (events_in t) s.sites.items t.sites.items _
    c.from_residual.result (c.in_err-do_due.ensures.power plan who) c.from_residual.ensures.1

pub returns-else-room-gt0-clause-power : goal.returns-else-room-gt0-clause-power
returns-else-room-gt0-clause-power g c = λ plan who.
    let s = c.args.state.now in
    sites_still g.D.Disk.face plan who (events_in s) (events_in s) s.sites.items s.sites.items (Ok (tt {0})) refl
    (power_still g.D.Disk.face s.sites.items s.sites.items refl)
