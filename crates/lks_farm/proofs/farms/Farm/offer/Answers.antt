use Rattle.std.proofs.Common.{◌≡◌, List, ℕ, sym, refl, ap, ◌∙◌, subst}
use Rattle.lks_farm.specs.declared.jobs.JobNumber.{JobNumber}
use Rattle.lks_farm.specs.Entries.{IsOf, under}
use Rattle.lks_farm.specs.Seats.{FarmName, SeatSeen}
use Rattle.lks_farm.proofs.Holding.{keeps_offer}
use Rattle.lks_farm.proofs.farms.Farm.offer.Goals as goal

pub push-requires-clause-pool : goal.push-requires-clause-pool
push-requires-clause-pool g c =
    let same : c.seat.inside.jobs.knows.pool
    ≡ c.args.self.now.name.pool = ap (λ (s : SeatSeen). s.badge.farm.pool) c.seat.view_is
    ∙ ap (λ (f : FarmName). f.pool) c.requires.of in
    let number : JobNumber = record { seat = c.seat.inside.number; count = c.seat.inside.offers } in
    subst (λ (p : List ℕ). IsOf p (under number c.args.job)) (sym same) c.requires.pool

pub invariant_of-seat : goal.invariant_of-seat
invariant_of-seat g c = keeps_offer _ _ _ _ _ _ _ c.seat.invariant c.in-Ok.ensures.ok refl
