use Rattle.std.proofs.Common.{◌<◌, ◌≤◌, ◌-◌, length, refl, arith}
use Rattle.lks_base.specs.declared.limits.TheConstants.{MOST_EVENTS}
use Rattle.lks_base.specs.declared.events.Event.TheVariants.{Tick}
use Rattle.lks_world.proofs.Keeping.{room_kept, full_kept, room_left, extends_same, extends_kept, can_tick}
use Rattle.lks_world.proofs.StateLaws.{became_tick}
use Rattle.lks_world.proofs.adding.add_ticks.Goals as goal

pub returns-in_ok-tick-clause-becomes : goal.returns-in_ok-tick-clause-becomes
returns-in_ok-tick-clause-becomes g c = λ plan is.
    let room : 0
    < MOST_EVENTS - length c.args.state.now.history.items = omega (arith, c.if-room-gt0.true, c.room.ensures) in
    room_kept g.D.Disk.face plan c.args.state.now c.tick.new.state (Tick c.args.by) room
    (became_tick g.D.Disk.face plan c.args.state.now c.tick.new.state c.args.by is
    (room_left g.D.Disk.face c.args.state.now room) c.requires.some c.requires.few c.in_ok-tick.ensures.world
    c.in_ok-tick.ensures.history c.in_ok-tick.ensures.pending c.in_ok-tick.ensures.sites
    c.in_ok-tick.ensures.pool)

pub returns-else-room-gt0-clause-becomes : goal.returns-else-room-gt0-clause-becomes
returns-else-room-gt0-clause-becomes g c = λ plan is.
    let full : MOST_EVENTS - length c.args.state.now.history.items
    ≤ 0 = omega (arith, c.if-room-gt0.false, c.room.ensures) in
    full_kept g.D.Disk.face plan c.args.state.now (Tick c.args.by) full is

pub tick-requires-clause-fits : goal.tick-requires-clause-fits
tick-requires-clause-fits g c = λ κs lives.
    let room : 0
    < MOST_EVENTS - length c.args.state.now.history.items = omega (arith, c.if-room-gt0.true, c.room.ensures) in
    can_tick g.D.Disk.face c.requires.state.0 c.args.state.now c.args.by c.requires.state.1 room c.requires.few

pub returns-in_ok-tick-clause-extends : goal.returns-in_ok-tick-clause-extends
returns-in_ok-tick-clause-extends g c =
    λ plan is. extends_kept g.D.Disk.face plan c.args.state.now c.tick.new.state (Tick c.args.by)
    (returns-in_ok-tick-clause-becomes g c plan is)

pub returns-in_err-tick-clause-extends : goal.returns-in_err-tick-clause-extends
returns-in_err-tick-clause-extends g c =
    λ plan is. extends_same g.D.Disk.face plan c.args.state.now c.tick.new.state.history.items is
    c.in_err-tick.ensures.err

pub returns-else-room-gt0-clause-extends : goal.returns-else-room-gt0-clause-extends
returns-else-room-gt0-clause-extends g c =
    λ plan is. extends_same g.D.Disk.face plan c.args.state.now c.args.state.now.history.items is refl
