use Rattle.std.proofs.Common.{◌≡◌, None, List, ℕ, ap, ◌∙◌, subst}
use Rattle.lks_farm.specs.Entries.{IsOf, entry_of}
use Rattle.lks_farm.specs.Seats.{FarmName, SeatSeen}
use Rattle.lks_farm.proofs.Holding.{keeps_take, none_is, seen_take}
use Rattle.lks_farm.proofs.farms.Farm.take.Goals as goal

pub invariant_of-seat-2 : goal.invariant_of-seat-2
invariant_of-seat-2 g c =
    let free : c.args.seat.now.held ≡ None = none_is c.args.seat.now.held c.requires.free in
    let got = c.in_ok-taken.ensures.some in
    keeps_take _ _ _ _ _ _ (entry_of c.in_ok-taken.taken) c.seat.invariant
    (ap (λ (s : SeatSeen). s.held) c.seat.view_is ∙ free) got.0 got.1

pub returns-clause-some : goal.returns-clause-some
returns-clause-some g c =
    seen_take c.seat.inside.number c.seat.inside.jobs c.pop.new.hand c.seat.inside.results
    (entry_of c.in_ok-taken.taken) c.args.seat.now c.seat.view_is c.in_ok-taken.ensures.same
    c.in_ok-taken.ensures.some.0 c.seat.invariant.taken
    (none_is c.args.seat.now.held c.requires.free)

pub returns-clause-pool : goal.returns-clause-pool
returns-clause-pool g c =
    let same : c.seat.inside.jobs.knows.pool
    ≡ c.args.self.now.name.pool = ap (λ (s : SeatSeen). s.badge.farm.pool) c.seat.view_is
    ∙ ap (λ (f : FarmName). f.pool) c.requires.of in
    subst (λ (p : List ℕ). IsOf p (entry_of c.in_ok-taken.taken)) same c.in_ok-taken.ensures.some.1
