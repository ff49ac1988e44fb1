use Rattle.std.proofs.Common.{◌≡◌, ◌++◌, drop}
use Rattle.lks_world.proofs.copies.copy_notes.Given as goal

abbrev pub invariant-loop-note : goal.invariant-loop-note
invariant-loop-note l = l.copy.items ++ drop l.note-index l.notes ≡ l.notes
