use Rattle.std.proofs.Common.{◌≡◌, take}
use Rattle.std.specs.Prelude.{map}
use Rattle.lks_poller.specs.declared.stages.Nomination.{Nomination}
use Rattle.lks_audit.proofs.samples.copy_nominees.Given as goal

abbrev pub invariant-loop-nomination : goal.invariant-loop-nomination
invariant-loop-nomination l =
    l.nominated.items ≡ map (λ (n : Nomination). n.nominees) (take l.nomination-index l.nominations)
