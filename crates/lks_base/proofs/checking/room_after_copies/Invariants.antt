use Rattle.std.proofs.Common.{◌≡◌, ◌+◌, drop}
use Rattle.lks_base.specs.Checking.{bytes_of_copies}
use Rattle.lks_base.proofs.checking.room_after_copies.Given as goal

abbrev pub invariant-loop-copy : goal.invariant-loop-copy
invariant-loop-copy l = l.fn.room + bytes_of_copies (drop l.copy-index l.copies) ≡ l.room + bytes_of_copies l.copies
