use Rattle.std.proofs.Common.{sym, ap, ◌∙◌}
use Rattle.lks_farm.specs.Seats.{SeatSeen}
use Rattle.lks_farm.proofs.Seating.{seats_kept}
use Rattle.lks_race.proofs.races.each_seat.Goals as goal

pub returns : goal.returns
returns g c =
    seats_kept c.args.farm.now.name c.args.seats.now c.for_each_mut.new.s c.requires.all c.for_each_mut.auto.s
    (λ i d lt.
    let at = (c.for_each_mut.ensures i d lt).1 in
    ap (λ (s : SeatSeen). s.badge) (sym at.left) ∙ at.call ∙ ap (λ (s : SeatSeen). s.badge) at.argument_is)
