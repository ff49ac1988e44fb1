use Rattle.std.proofs.Common.{◌≡◌, take}
use Rattle.lks_disk.specs.Ranges.{counting}
use Rattle.lks_disk.proofs.ranges.count_up.Given as goal

abbrev pub invariant-loop-i : goal.invariant-loop-i
invariant-loop-i l = take l.i l.range ≡ counting l.choice l.i
