use Rattle.lks_outside.specs.Bells.{heard_of}
use Rattle.lks_outside.proofs.Ringing.{RangTo}
use Rattle.lks_outside.proofs.desks.ring_each.Given as goal

abbrev pub invariant-loop-bell : goal.invariant-loop-bell
invariant-loop-bell g l =
    RangTo (heard_of g.B.Bell.rung g.B.Bell.limit) l.a l.initial.bell-items l.bell-items l.bell-index
