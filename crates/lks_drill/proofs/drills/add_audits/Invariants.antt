use Rattle.std.proofs.Common.{◌≡◌, ◌-◌, ◌++◌}
use Rattle.std.specs.List.{range_with_len, flat_map}
use Rattle.lks_drill.specs.Drill.{audit_of}
use Rattle.lks_drill.proofs.drills.add_audits.Given as goal

abbrev pub invariant-loop-au : goal.invariant-loop-au
invariant-loop-au l = l.steps.items ≡ l.fn.steps.items ++ flat_map (audit_of l.peer) (range_with_len 1 (l.au - 1))
