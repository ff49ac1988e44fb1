use Rattle.std.proofs.Common.{rules}
use Rattle.lks_farm.proofs.Gathering.{gather_more, gather_start}
use Rattle.lks_farm.proofs.farms.Farm.gather.Goals as goal

pub loop-seat-init : goal.loop-seat-init
loop-seat-init c =
    let hands = c.into_hands-jobs.ensures in (
      tt,
      tt,
      gather_start c.args.self.now.name c.into_hands-jobs.result.0 c.into_hands-jobs.result.1 c.remove.result
          c.into_iter-seat-iterator.result.rest.items c.args.seats.items c.requires c.remove.ensures.value
          (search rules)
          hands.tables.0 hands.tables.1 hands.jobs hands.results hands.counted hands.part,
    )

pub loop-seat-preserved : goal.loop-seat-preserved
loop-seat-preserved c =
    let hands = c.into_hands-more.ensures in (
      tt,
      tt,
      gather_more c.args.self.now.name c.loop-seat.jobs c.join.new.hand c.loop-seat.results
          c.join-in-loop-seat.new.hand c.into_hands-more.result.0 c.into_hands-more.result.1 c.in-Some.seat
          c.next.new.self.rest.items
          c.loop-seat.seat-iterator.rest.items c.args.seats.items c.loop-seat.invariant.2 c.in-Some.ensures.steps.0
          hands.jobs hands.results c.join.ensures.same c.join-in-loop-seat.ensures.same c.join.ensures.both
          c.join-in-loop-seat.ensures.both
          hands.counted,
    )
