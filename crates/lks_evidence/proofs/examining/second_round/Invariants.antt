use Rattle.std.proofs.Common.{◌≡◌, [], drop, take}
use Rattle.lks_evidence.specs.Search.{each, second_of_shelf}
use Rattle.lks_evidence.proofs.examining.second_round.Given as goal

abbrev pub invariant-loop-k : goal.invariant-loop-k
invariant-loop-k l =
    each (second_of_shelf l.plan l.set) (take l.k l.set) (drop l.k l.set)
    ≡ each (second_of_shelf l.plan l.set) [] l.set
