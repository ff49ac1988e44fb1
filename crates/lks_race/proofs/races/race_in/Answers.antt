use Rattle.std.proofs.Common.{arith, length, sym, subst}
use Rattle.std.specs.Prelude.{All, drop}
use Rattle.lks_farm.specs.Seats.{AreSeatsOf}
use Rattle.lks_race.proofs.Going.{free_seats, seats_back}
use Rattle.lks_race.specs.Racing.{IsSeat}
use Rattle.lks_race.proofs.races.race_in.Goals as goal

pub each_seat-requires-clause-free : goal.each_seat-requires-clause-free
each_seat-requires-clause-free g c κs within =
    subst (All (IsSeat c.args.set.farm.name)) (sym c.as_mut_slice.ensures.value)
    (free_seats c.args.set.farm.name 0 c.args.set.seats.items c.requires.set.fresh)

pub returns-clause-all : goal.returns-clause-all
returns-clause-all g c =
    let after = c.each_seat.new.seats in
    subst (AreSeatsOf c.args.set.farm.name)
    (sym
    (seats_back c.args.set.seats.len after (drop (length after) c.args.set.seats.items)
    (omega (arith, c.each_seat.auto.seats, c.as_mut_slice.ensures.len))))
    c.each_seat.ensures
