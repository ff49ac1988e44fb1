use Rattle.std.proofs.Common.{◌≡◌, drop}
use Rattle.lks_evidence.specs.Rules.{first_twice}
use Rattle.lks_evidence.proofs.polls.first_twice.Given as goal

abbrev pub invariant-loop-i : goal.invariant-loop-i
invariant-loop-i l = first_twice (drop l.i l.votes) ≡ first_twice l.votes
