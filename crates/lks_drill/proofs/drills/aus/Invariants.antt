use Rattle.std.proofs.Common.{◌≡◌, ◌-◌, map}
use Rattle.std.specs.List.{range_with_len}
use Rattle.lks_drill.specs.Drill.{au_of_drill}
use Rattle.lks_drill.proofs.drills.aus.Given as goal

abbrev pub invariant-loop-id : goal.invariant-loop-id
invariant-loop-id l = l.aus.items ≡ map au_of_drill (range_with_len 1 (l.id - 1))
