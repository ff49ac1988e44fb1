use Rattle.std.proofs.Common.{◌≡◌, [], All, drop, take}
use Rattle.lks_evidence.specs.Held.{IsHeldFrom}
use Rattle.lks_evidence.specs.Search.{each, first_at}
use Rattle.lks_evidence.proofs.examining.first_of_shelf.Given as goal

abbrev pub invariant-loop-i : goal.invariant-loop-i
invariant-loop-i l = record {
  doubt : each (first_at l.plan l.shelf) (take l.i l.journal) (drop l.i l.journal)
      ≡ each (first_at l.plan l.shelf) [] l.journal;
  held : All (IsHeldFrom l.plan.aus l.journal l.i) l.held.items;
}
