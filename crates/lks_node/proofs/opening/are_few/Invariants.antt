use Rattle.std.proofs.Common.{◌≡◌, ◌+◌, length, take}
use Rattle.std.specs.Prelude.{sum_by}
use Rattle.lks_node.specs.declared.opening.TheConstants.{MOST_BYTES}
use Rattle.lks_node.proofs.opening.are_few.Given as goal

abbrev pub invariant-loop-body : goal.invariant-loop-body
invariant-loop-body l = l.room + sum_by length (take l.body-index l.bodies) ≡ MOST_BYTES
