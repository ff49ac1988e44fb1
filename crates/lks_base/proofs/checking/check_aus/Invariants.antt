use Rattle.std.proofs.Common.{◌≡◌, [], take, drop}
use Rattle.lks_base.specs.Checking.{each, au_fault}
use Rattle.lks_base.proofs.checking.check_aus.Given as goal

abbrev pub invariant-loop-i : goal.invariant-loop-i
invariant-loop-i l = each au_fault (take l.i l.aus) (drop l.i l.aus) ≡ each au_fault [] l.aus
