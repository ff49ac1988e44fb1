use Rattle.std.proofs.Common.{◌≡◌, drop}
use Rattle.lks_law.specs.Behind.{tick_or}
use Rattle.lks_host.proofs.naming.tick_named.Given as goal

abbrev pub invariant-loop-r : goal.invariant-loop-r
invariant-loop-r l = tick_or l.tick (drop l.r-index l.records) ≡ tick_or l.tick l.records
