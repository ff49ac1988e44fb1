use Rattle.std.proofs.Common.{◌<◌, ◌≤◌, ◌-◌, ℕ, List, length, get_or, refl, subst, arith}
use Rattle.lks_base.specs.declared.limits.TheConstants.{MOST_EVENTS}
use Rattle.lks_base.specs.declared.events.Event.TheVariants.{Forge}
use Rattle.lks_world.proofs.Keeping.{envelope_left, room_kept, full_kept, room_left, extends_same, extends_kept}
use Rattle.lks_world.proofs.StateLaws.{became_forge}
use Rattle.lks_world.proofs.adding.add_forgery.Goals as goal

pub forge-requires-clause-few : goal.forge-requires-clause-few
forge-requires-clause-few g c =
    λ κs lives. envelope_left g.D.Disk.face c.requires.state.0 c.args.state.now c.requires.state.1

pub returns-in_ok-forge-clause-becomes : goal.returns-in_ok-forge-clause-becomes
returns-in_ok-forge-clause-becomes g c = λ plan is corrupt known few.
    let room : 0
    < MOST_EVENTS - length c.args.state.now.history.items = omega (arith, c.if-room-gt0.true, c.room.ensures) in
    room_kept g.D.Disk.face plan c.args.state.now c.forge.new.state (Forge c.args.from c.args.to c.args.bytes) room
    (became_forge g.D.Disk.face plan c.args.state.now c.forge.new.state c.args.from c.args.to c.args.bytes is
    (room_left g.D.Disk.face c.args.state.now room)
    (record {
      corrupt = corrupt;
      known = known;
      few = few;
      are = λ i. subst (λ (bs : List ℕ). get_or bs i 0 < 256) c.as_slice.ensures (c.are_bytes.ensures i);
    })
    c.in_ok-forge.ensures.world c.in_ok-forge.ensures.history c.in_ok-forge.ensures.pending
    c.in_ok-forge.ensures.sites c.in_ok-forge.ensures.pool)

pub returns-else-room-gt0-clause-becomes : goal.returns-else-room-gt0-clause-becomes
returns-else-room-gt0-clause-becomes g c = λ plan is corrupt known few.
    let full : MOST_EVENTS - length c.args.state.now.history.items
    ≤ 0 = omega (arith, c.if-room-gt0.false, c.room.ensures) in
    full_kept g.D.Disk.face plan c.args.state.now (Forge c.args.from c.args.to c.args.bytes) full is

pub returns-in_ok-forge-clause-extends : goal.returns-in_ok-forge-clause-extends
returns-in_ok-forge-clause-extends g c =
    λ plan is corrupt known few. extends_kept g.D.Disk.face plan c.args.state.now c.forge.new.state
    (Forge c.args.from c.args.to c.args.bytes) (returns-in_ok-forge-clause-becomes g c plan is corrupt known few)

pub returns-in_err-forge-clause-extends : goal.returns-in_err-forge-clause-extends
returns-in_err-forge-clause-extends g c =
    λ plan is corrupt known few. extends_same g.D.Disk.face plan c.args.state.now c.forge.new.state.history.items is
    c.in_err-forge.ensures.err

pub returns-else-room-gt0-clause-extends : goal.returns-else-room-gt0-clause-extends
returns-else-room-gt0-clause-extends g c =
    λ plan is corrupt known few. extends_same g.D.Disk.face plan c.args.state.now c.args.state.now.history.items is
    refl
