use Rattle.std.proofs.Common.{◌≡◌, ℕ, ◌<◌, ◌++◌, length, take, get_or}
use Rattle.std.specs.Int.{w16, to_be_bytes}
use Rattle.std.specs.List.{flat_map}
use Rattle.lks_base.specs.declared.records.Record.{Record}
use Rattle.lks_record.specs.Spelling.{spelling, IsSized}
use Rattle.lks_record.proofs.encoding.put_batch.Given as goal

abbrev pub invariant-loop-item : goal.invariant-loop-item
invariant-loop-item l =
    (l.out.items
    ≡ l.fn.out.items ++ (to_be_bytes w16 (length l.list) ++ flat_map spelling (take l.item-index l.list)))
    × ((k : ℕ) (d : Record) → k < l.item-index → IsSized (get_or l.list k d))
