use Rattle.std.proofs.Common.{◌≡◌, None}
use Rattle.lks_rule_trials.proofs.farm.session.Given as goal

abbrev pub invariant-loop : goal.invariant-loop
invariant-loop g l =
    (goal.iterator-loop g).can_next l.iterator' × (goal.iterator-loop g).is_finite l.iterator'
    × (l.seat.badge ≡ l.fn.seat.badge)
    × (l.seat.held ≡ None)
