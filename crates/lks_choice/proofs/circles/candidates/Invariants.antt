use Rattle.std.proofs.Common.{◌≡◌, take}
use Rattle.lks_choice.specs.Circles.{candidates}
use Rattle.lks_choice.proofs.circles.candidates.Given as goal

abbrev pub invariant-loop-p : goal.invariant-loop-p
invariant-loop-p l = l.those.items ≡ candidates l.own l.inner l.circle (take l.p-index l.nominees)
