use Rattle.std.proofs.Common.{◌<◌, ◌≤◌, ◌-◌, length, refl, arith}
use Rattle.lks_base.specs.declared.limits.TheConstants.{MOST_EVENTS}
use Rattle.lks_base.specs.declared.events.Event.TheVariants.{Lose}
use Rattle.lks_world.proofs.Keeping.{room_kept, full_kept, room_left, extends_same, extends_kept}
use Rattle.lks_world.proofs.StateLaws.{became_lose}
use Rattle.lks_world.proofs.adding.add_loss.Goals as goal

pub returns-in_ok-lose-clause-becomes : goal.returns-in_ok-lose-clause-becomes
returns-in_ok-lose-clause-becomes g c = λ plan is sent.
    let room : 0
    < MOST_EVENTS - length c.args.state.now.history.items = omega (arith, c.if-room-gt0.true, c.room.ensures) in
    room_kept g.D.Disk.face plan c.args.state.now c.lose.new.state (Lose c.args.envelope) room
    (became_lose g.D.Disk.face plan c.args.state.now c.lose.new.state c.args.envelope is
    (room_left g.D.Disk.face c.args.state.now room) sent c.in_ok-lose.ensures.world c.in_ok-lose.ensures.history
    c.in_ok-lose.ensures.pending c.in_ok-lose.ensures.sites c.in_ok-lose.ensures.pool)

pub returns-else-room-gt0-clause-becomes : goal.returns-else-room-gt0-clause-becomes
returns-else-room-gt0-clause-becomes g c = λ plan is sent.
    let full : MOST_EVENTS - length c.args.state.now.history.items
    ≤ 0 = omega (arith, c.if-room-gt0.false, c.room.ensures) in
    full_kept g.D.Disk.face plan c.args.state.now (Lose c.args.envelope) full is

pub returns-in_ok-lose-clause-extends : goal.returns-in_ok-lose-clause-extends
returns-in_ok-lose-clause-extends g c =
    λ plan is sent. extends_kept g.D.Disk.face plan c.args.state.now c.lose.new.state (Lose c.args.envelope)
    (returns-in_ok-lose-clause-becomes g c plan is sent)

pub returns-in_err-lose-clause-extends : goal.returns-in_err-lose-clause-extends
returns-in_err-lose-clause-extends g c =
    λ plan is sent. extends_same g.D.Disk.face plan c.args.state.now c.lose.new.state.history.items is
    c.in_err-lose.ensures.err

pub returns-else-room-gt0-clause-extends : goal.returns-else-room-gt0-clause-extends
returns-else-room-gt0-clause-extends g c =
    λ plan is sent. extends_same g.D.Disk.face plan c.args.state.now c.args.state.now.history.items is refl
