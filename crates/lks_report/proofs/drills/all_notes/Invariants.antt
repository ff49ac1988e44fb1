use Rattle.std.proofs.Common.{◌≡◌, take}
use Rattle.std.specs.List.{flat_map}
use Rattle.lks_report.proofs.drills.all_notes.Given as goal

abbrev pub invariant-loop-entry : goal.invariant-loop-entry
invariant-loop-entry l = l.notes.items ≡ flat_map (λ e. e.notes) (take l.entry-index l.history)
