use Rattle.std.proofs.Common.{◌≡◌, ◌+◌, ◌∙◌, ap, sym, subst}
use Rattle.std.specs.Prelude.{Some, None, slice_get}
use Rattle.lks_law.specs.Due.{dues, IsEventOf}
use Rattle.lks_watch.specs.Watching.{ears}
use Rattle.lks_world.proofs.Turned.{due_here, halts_at, kept_faulted, kept_turned, turn_taken}
use Rattle.lks_world.specs.Giving.{HasTurn, TakesTurn}
use Rattle.lks_world.specs.States.{events_in}
use Rattle.lks_world.specs.Worlds.{Seen, seen_in}
use Rattle.lks_world.proofs.worlds.World.do_turn.Goals as goal

pub do_due-requires-clause-state : goal.do_due-requires-clause-state
do_due-requires-clause-state g c = λ κs lives.
    let a = c.self.inside in
    let runs : a.stopped
    ≡ None = ap (λ (v : Seen g.row.D.Denot g.row.J.Denot g.row.B.Denot). v.stopped) c.self.view_is
    ∙ c.requires.running in
    let at : slice_get (dues a.plan (events_in a.state)) c.requires.due.0
    ≡ Some c.args.due = subst
    (λ (v : Seen g.row.D.Denot g.row.J.Denot g.row.B.Denot). slice_get (dues v.plan v.history)
    c.requires.due.0
    ≡ Some c.args.due) (sym c.self.view_is) c.requires.due.1 in (
      a.plan,
      due_here g.D.Disk.face (ears g.J.EffortJudge.heard g.J.EffortJudge.verdict g.B.Bell.rung g.B.Bell.limit) a
          c.self.invariant runs c.requires.due.0 c.args.due at,
    )

pub invariant_of-self : goal.invariant_of-self
invariant_of-self g c =
    let f = g.D.Disk.face in
    let e = (ears g.J.EffortJudge.heard g.J.EffortJudge.verdict g.B.Bell.rung g.B.Bell.limit) in
    let a = c.self.inside in
    let runs : a.stopped
    ≡ None = ap (λ (v : Seen g.row.D.Denot g.row.J.Denot g.row.B.Denot). v.stopped) c.self.view_is
    ∙ c.requires.running in
    let at : slice_get (dues a.plan (events_in a.state)) c.requires.due.0
    ≡ Some c.args.due = subst
    (λ (v : Seen g.row.D.Denot g.row.J.Denot g.row.B.Denot). slice_get (dues v.plan v.history)
    c.requires.due.0
    ≡ Some c.args.due) (sym c.self.view_is) c.requires.due.1 in
    let turn : HasTurn (seen_in a) = subst (λ (v : Seen g.row.D.Denot g.row.J.Denot g.row.B.Denot). HasTurn v)
    (sym c.self.view_is) c.requires.turn in
    let can = due_here f e a c.self.invariant runs c.requires.due.0 c.args.due at in
    let did = c.in-Ok.ensures in
    kept_turned f e a c.self.invariant runs c.requires.due.0 c.args.due at turn.0 c.do_due.new.state
    c.do_due.new.watch (did.becomes a.plan can) (did.watches a.plan can) did.counted

pub invariant_of-self-in-Err : goal.invariant_of-self-in-Err
invariant_of-self-in-Err g c =
    let f = g.D.Disk.face in
    let e = (ears g.J.EffortJudge.heard g.J.EffortJudge.verdict g.B.Bell.rung g.B.Bell.limit) in
    let a = c.self.inside in
    let runs : a.stopped
    ≡ None = ap (λ (v : Seen g.row.D.Denot g.row.J.Denot g.row.B.Denot). v.stopped) c.self.view_is
    ∙ c.requires.running in
    let at : slice_get (dues a.plan (events_in a.state)) c.requires.due.0
    ≡ Some c.args.due = subst
    (λ (v : Seen g.row.D.Denot g.row.J.Denot g.row.B.Denot). slice_get (dues v.plan v.history)
    c.requires.due.0
    ≡ Some c.args.due) (sym c.self.view_is) c.requires.due.1 in
    let did = c.in-Err.ensures in
    let had = did.stops a.plan (due_here f e a c.self.invariant runs c.requires.due.0 c.args.due at) in
    let halts = halts_at f e a c.self.invariant runs c.do_due.new.state c.do_due.new.watch had.next had.may
    had.stops had.left (did.counted.ids ∙ c.self.invariant.sites) in
    kept_faulted f e a c.self.invariant runs c.do_due.new.state c.do_due.new.watch c.in-Err.stop did.err did.counted
    halts a.out

pub returns-in-Ok-clause-takes : goal.returns-in-Ok-clause-takes
returns-in-Ok-clause-takes g c =
    let f = g.D.Disk.face in
    let e = (ears g.J.EffortJudge.heard g.J.EffortJudge.verdict g.B.Bell.rung g.B.Bell.limit) in
    let a = c.self.inside in
    let runs : a.stopped
    ≡ None = ap (λ (v : Seen g.row.D.Denot g.row.J.Denot g.row.B.Denot). v.stopped) c.self.view_is
    ∙ c.requires.running in
    let at : slice_get (dues a.plan (events_in a.state)) c.requires.due.0
    ≡ Some c.args.due = subst
    (λ (v : Seen g.row.D.Denot g.row.J.Denot g.row.B.Denot). slice_get (dues v.plan v.history)
    c.requires.due.0
    ≡ Some c.args.due) (sym c.self.view_is) c.requires.due.1 in
    let turn : HasTurn (seen_in a) = subst (λ (v : Seen g.row.D.Denot g.row.J.Denot g.row.B.Denot). HasTurn v)
    (sym c.self.view_is) c.requires.turn in
    let can = due_here f e a c.self.invariant runs c.requires.due.0 c.args.due at in
    subst
    (λ (v : Seen g.row.D.Denot g.row.J.Denot g.row.B.Denot). TakesTurn (IsEventOf c.args.due) v
    (seen_in (record a { state = c.do_due.new.state; watch = c.do_due.new.watch; turns = a.turns + 1 })))
    c.self.view_is
    (turn_taken f e a c.self.invariant runs c.requires.due.0 c.args.due at turn c.do_due.new.state
    c.do_due.new.watch (c.in-Ok.ensures.becomes a.plan can))
