use Rattle.std.proofs.Common.{◌≡◌, take}
use Rattle.lks_evidence.proofs.hashing.same_front.Given as goal

abbrev pub invariant-loop-i : goal.invariant-loop-i
invariant-loop-i l = take l.i l.a ≡ take l.i l.b
