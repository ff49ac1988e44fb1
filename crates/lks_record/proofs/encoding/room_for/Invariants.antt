use Rattle.std.proofs.Common.{◌≤◌, length, take}
use Rattle.lks_record.specs.Spelling.{batch_spelling}
use Rattle.lks_record.proofs.encoding.room_for.Given as goal

abbrev pub invariant-loop-item : goal.invariant-loop-item
invariant-loop-item l = l.bytes ≤ length (batch_spelling (take l.item-index l.list))
