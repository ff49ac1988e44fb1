use Rattle.std.proofs.Common.{◌≡◌, [], take, drop}
use Rattle.lks_base.specs.Checking.{each, copy_fault}
use Rattle.lks_base.proofs.checking.check_copies.Given as goal

abbrev pub invariant-loop-i : goal.invariant-loop-i
invariant-loop-i l =
    each (copy_fault l.aus) (take l.i l.copies) (drop l.i l.copies) ≡ each (copy_fault l.aus) [] l.copies
