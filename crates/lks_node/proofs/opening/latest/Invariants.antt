use Rattle.std.proofs.Common.{◌≡◌, drop}
use Rattle.std.specs.Prelude.{max}
use Rattle.lks_law.specs.Behind.{latest_tick}
use Rattle.lks_node.proofs.opening.latest.Given as goal

abbrev pub invariant-loop-r : goal.invariant-loop-r
invariant-loop-r l = max l.found (latest_tick (drop l.r-index l.records)) ≡ latest_tick l.records
