use Rattle.std.proofs.Common.{◌≡◌, take}
use Rattle.std.specs.List.{flat_map}
use Rattle.lks_report.specs.Scans.{own_notes}
use Rattle.lks_report.proofs.scans.notes_of.Given as goal

abbrev pub invariant-loop-entry : goal.invariant-loop-entry
invariant-loop-entry l = l.notes.items ≡ flat_map (own_notes l.peer) (take l.entry-index l.history)
