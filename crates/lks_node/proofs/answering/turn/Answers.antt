use Rattle.std.proofs.Common.{◌≡◌, ◌+◌, ℕ, List, Some, subst, arith}
use Rattle.std.specs.Prelude.{Option, Ok}
use Rattle.lks_node.specs.Telling.{Begins, IsFoundNext}
use Rattle.lks_node.specs.declared.orders.Order.{Order}
use Rattle.lks_node.proofs.Turning.{turned, halted}
use Rattle.lks_node.proofs.answering.turn.Goals as goal

pub returns-clause-turns : goal.returns-clause-turns
returns-clause-turns g c = λ aus copies p at.
    turned g.D.Disk.face (g.J.EffortJudge.verdict c.args.judge.now) c.args.plan.now c.args.node.now.host.peer.own
    aus copies p c.in-Ok-Some.order
    _ _ _ _ c.answer.new.self (g.J.EffortJudge.heard c.answer.new.judge) (λ bytes told.
    subst
    (λ (id : ℕ). (more : List ℕ) × Begins c.args.plan.now id bytes c.in-Ok-Some.order more
    × (g.S.Source.left c.next_order.new.source ≡ Some more)) c.id.ensures
    (subst
    (λ (r : Option Order). IsFoundNext c.args.plan.now c.id.result (c.args.place + 1) bytes
    (g.S.Source.left c.next_order.new.source) (Ok r)) c.in-Ok-Some.field-0-is
    (c.in-Ok-Some.ensures.found bytes told))) (λ told.
    let end = (at.stands (c.answer.ensures.stays.told.1 told)).disk.end in
    let room = c.room.ensures in
    omega (arith, end, room, c.if-room-lt-BATCH_ROOM.false)) c.answer.result (c.answer.ensures.goes aus copies p
    at) (c.answer.ensures.replies aus copies p at)

pub returns-clause-halts : goal.returns-clause-halts
returns-clause-halts g c = λ aus copies p at.
    halted g.D.Disk.face (g.J.EffortJudge.verdict c.args.judge.now) c.args.plan.now c.args.node.now.host.peer.own
    aus copies p c.in-Ok-Some.order
    _ (g.S.Source.left c.next_order.new.source) _ _ c.answer.new.self (g.J.EffortJudge.heard c.answer.new.judge)
    (λ bytes told.
    subst
    (λ (id : ℕ). (more : List ℕ) × Begins c.args.plan.now id bytes c.in-Ok-Some.order more
    × (g.S.Source.left c.next_order.new.source ≡ Some more)) c.id.ensures
    (subst
    (λ (r : Option Order). IsFoundNext c.args.plan.now c.id.result (c.args.place + 1) bytes
    (g.S.Source.left c.next_order.new.source) (Ok r)) c.in-Ok-Some.field-0-is
    (c.in-Ok-Some.ensures.found bytes told))) (λ told.
    let end = (at.stands (c.answer.ensures.stays.told.1 told)).disk.end in
    let room = c.room.ensures in
    omega (
      arith,
      end,
      room,
      c.if-room-lt-BATCH_ROOM.false,
    )) c.args.place c.answer.result c.requires.place (c.answer.ensures.stops aus
    copies p at)
