use Rattle.lks_farm.proofs.Piling.{AreGathered}
use Rattle.lks_farm.proofs.piles.Pile.into_results.Given as goal

-- so many results are there, and the places of the rest are left
abbrev pub invariant-loop-place : goal.invariant-loop-place
invariant-loop-place g l =
    (goal.iterator-loop-place g).can_next l.place-iterator ×
    (goal.iterator-loop-place g).is_finite l.place-iterator ×
    AreGathered g.N.Batch.asked l.all.items l.place-iterator.rest.items
