use Rattle.std.proofs.Common.{◌≡◌, ◌++◌, take}
use Rattle.std.specs.List.{flat_map}
use Rattle.lks_print.specs.Scripts.{copy_line}
use Rattle.lks_print.proofs.plans.put_copies.Given as goal

abbrev pub invariant-loop-copy : goal.invariant-loop-copy
invariant-loop-copy l = l.out.items ≡ l.fn.out.items ++ flat_map (copy_line l.peer) (take l.copy-index l.copies)
