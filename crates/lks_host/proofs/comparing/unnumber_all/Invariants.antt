use Rattle.lks_host.proofs.Lacking.{LackTo}
use Rattle.lks_host.proofs.comparing.unnumber_all.Given as goal

abbrev pub invariant-loop-r : goal.invariant-loop-r
invariant-loop-r l = LackTo l.initial.records l.records l.r-index
