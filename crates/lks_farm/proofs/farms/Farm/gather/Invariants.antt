use Rattle.lks_farm.proofs.Gathering.{Gathering}
use Rattle.lks_farm.proofs.farms.Farm.gather.Given as goal

abbrev pub invariant-loop-seat : goal.invariant-loop-seat
invariant-loop-seat l =
    (goal.iterator-loop-seat).can_next l.seat-iterator ×
    (goal.iterator-loop-seat).is_finite l.seat-iterator ×
    Gathering l.self.name l.jobs l.results l.seat-iterator.rest.items l.fn.seats.items
