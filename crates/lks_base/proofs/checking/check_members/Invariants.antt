use Rattle.std.proofs.Common.{◌≡◌, [], take, drop}
use Rattle.lks_base.specs.Checking.{each, member_fault}
use Rattle.lks_base.proofs.checking.check_members.Given as goal

abbrev pub invariant-loop-i : goal.invariant-loop-i
invariant-loop-i l =
    each (member_fault l.peers l.own) (take l.i l.ids) (drop l.i l.ids) ≡ each (member_fault l.peers l.own) [] l.ids
