use Rattle.std.proofs.Common.{◌≡◌, drop}
use Rattle.std.specs.Prelude.{max}
use Rattle.lks_law.specs.Behind.{latest_tick}
use Rattle.lks_host.proofs.naming.latest_with.Given as goal

abbrev pub invariant-loop-r : goal.invariant-loop-r
invariant-loop-r l = max l.found (latest_tick (drop l.r-index l.records)) ≡ max l.tick (latest_tick l.records)
