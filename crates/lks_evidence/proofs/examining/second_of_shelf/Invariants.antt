use Rattle.std.proofs.Common.{◌≡◌, [], drop, take}
use Rattle.lks_evidence.specs.Marks.{IsMark}
use Rattle.lks_evidence.specs.Recounts.{IsRecountIf}
use Rattle.lks_evidence.specs.Search.{each, second_at}
use Rattle.lks_evidence.proofs.examining.second_of_shelf.Given as goal

abbrev pub invariant-loop-i : goal.invariant-loop-i
invariant-loop-i l = record {
  doubt : each (second_at l.plan l.set l.shelf) (take l.i l.journal) (drop l.i l.journal)
      ≡ each (second_at l.plan l.set l.shelf) [] l.journal;
  last : IsRecountIf l.plan l.set l.shelf.peer (take l.i l.journal) l.last;
  mark : IsMark (take l.i l.journal) l.mark;
}
