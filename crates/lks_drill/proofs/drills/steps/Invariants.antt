use Rattle.std.proofs.Common.{◌≡◌, ◌-◌}
use Rattle.std.specs.List.{range_with_len, flat_map}
use Rattle.lks_drill.specs.Drill.{audits_of}
use Rattle.lks_drill.proofs.drills.steps.Given as goal

abbrev pub invariant-loop-peer : goal.invariant-loop-peer
invariant-loop-peer l = l.steps.items ≡ flat_map audits_of (range_with_len 1 (l.peer - 1))
