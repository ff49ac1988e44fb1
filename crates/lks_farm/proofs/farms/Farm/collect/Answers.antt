use Rattle.std.proofs.Common.{ap, ◌∙◌}
use Rattle.lks_farm.specs.Seats.{FarmName, SeatSeen}
use Rattle.lks_farm.proofs.Holding.{pool_if}
use Rattle.lks_farm.proofs.farms.Farm.collect.Goals as goal

pub returns-clause-pool : goal.returns-clause-pool
returns-clause-pool g c =
    pool_if c.pop.result c.seat.inside.results.knows c.pop.new.hand.knows c.args.self.now.name.pool
    (c.seat.invariant.same_pool ∙ ap (λ (s : SeatSeen). s.badge.farm.pool) c.seat.view_is
    ∙ ap (λ (f : FarmName). f.pool) c.requires.of) c.pop.ensures.some
