use Rattle.std.proofs.Common.{◌<◌, ◌≤◌, ◌-◌, ◌∙◌, length, refl, arith}
use Rattle.lks_base.specs.declared.limits.TheConstants.{MOST_EVENTS}
use Rattle.lks_base.specs.declared.events.Event.TheVariants.{Crash}
use Rattle.lks_world.proofs.Keeping.{room_kept, full_kept, room_left, extends_same, extends_kept}
use Rattle.lks_world.proofs.StateLaws.{became_crash, crashed, same_hosts}
use Rattle.lks_world.specs.States.{world_in}
use Rattle.lks_world.proofs.adding.add_crash.Goals as goal

pub returns-in_ok-crash-clause-becomes : goal.returns-in_ok-crash-clause-becomes
returns-in_ok-crash-clause-becomes g c = λ plan is honest.
    let f = g.D.Disk.face in
    let s = c.args.state.now in
    let t = c.crash.new.state in
    let did = c.in_ok-crash.ensures in
    let room : 0 < MOST_EVENTS - length s.history.items = omega (arith, c.if-room-gt0.true, c.room.ensures) in
    room_kept f plan s t (Crash c.args.peer) room
    (became_crash f plan s t c.args.peer is (room_left f s room) honest
    (did.world ∙ crashed (world_in f s) c.args.peer) did.history did.pending (same_hosts f s t did.sites)
    did.pool)

pub returns-else-room-gt0-clause-becomes : goal.returns-else-room-gt0-clause-becomes
returns-else-room-gt0-clause-becomes g c = λ plan is honest.
    let full : MOST_EVENTS - length c.args.state.now.history.items
    ≤ 0 = omega (arith, c.if-room-gt0.false, c.room.ensures) in
    full_kept g.D.Disk.face plan c.args.state.now (Crash c.args.peer) full is

pub returns-in_ok-crash-clause-extends : goal.returns-in_ok-crash-clause-extends
returns-in_ok-crash-clause-extends g c =
    λ plan is honest. extends_kept g.D.Disk.face plan c.args.state.now c.crash.new.state (Crash c.args.peer)
    (returns-in_ok-crash-clause-becomes g c plan is honest)

pub returns-in_err-crash-clause-extends : goal.returns-in_err-crash-clause-extends
returns-in_err-crash-clause-extends g c =
    λ plan is honest. extends_same g.D.Disk.face plan c.args.state.now c.crash.new.state.history.items is
    c.in_err-crash.ensures.err

pub returns-else-room-gt0-clause-extends : goal.returns-else-room-gt0-clause-extends
returns-else-room-gt0-clause-extends g c =
    λ plan is honest. extends_same g.D.Disk.face plan c.args.state.now c.args.state.now.history.items is refl
