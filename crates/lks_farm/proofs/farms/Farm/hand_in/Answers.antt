use Rattle.std.proofs.Common.{◌≡◌, Some, List, ℕ, sym, ap, ◌∙◌, subst}
use Rattle.lks_farm.specs.Entries.{IsOf, entry_done}
use Rattle.lks_farm.specs.Seats.{SeatSeen, held_by}
use Rattle.lks_farm.proofs.Holding.{keeps_hand_in, seen_hand_in}
use Rattle.lks_farm.proofs.farms.Farm.hand_in.Goals as goal

pub push-requires-clause-pool : goal.push-requires-clause-pool
push-requires-clause-pool g c =
    let e = entry_done c.args.done in
    let held : held_by c.seat.inside.jobs.knows c.seat.inside.results.knows
    ≡ Some e = ap (λ (s : SeatSeen). s.held) c.seat.view_is ∙ c.requires.held in
    subst (λ (p : List ℕ). IsOf p e) (sym c.seat.invariant.same_pool) (c.seat.invariant.of e held)

pub invariant_of-seat-2 : goal.invariant_of-seat-2
invariant_of-seat-2 g c =
    keeps_hand_in _ _ _ _ _ _ (entry_done c.args.done) c.seat.invariant
    (ap (λ (s : SeatSeen). s.held) c.seat.view_is ∙ c.requires.held) c.in_ok-push.ensures.ok

pub returns-clause-ok : goal.returns-clause-ok
returns-clause-ok g c =
    seen_hand_in c.seat.inside.number c.seat.inside.jobs c.seat.inside.results c.push.new.hand
    (entry_done c.args.done) c.args.seat.now c.seat.view_is c.in_ok-push.ensures.same c.in_ok-push.ensures.ok
    c.seat.invariant.taken c.requires.held
