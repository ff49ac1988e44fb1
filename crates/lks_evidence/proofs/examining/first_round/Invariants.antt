use Rattle.std.proofs.Common.{◌≡◌, [], drop, take}
use Rattle.lks_evidence.specs.Search.{each, first_of_shelf}
use Rattle.lks_evidence.proofs.examining.first_round.Given as goal

abbrev pub invariant-loop-k : goal.invariant-loop-k
invariant-loop-k l =
    each (first_of_shelf l.plan) (take l.k l.set) (drop l.k l.set) ≡ each (first_of_shelf l.plan) [] l.set
