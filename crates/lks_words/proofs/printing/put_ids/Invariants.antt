use Rattle.std.proofs.Common.{◌≡◌, ◌++◌, take}
use Rattle.std.specs.Fmt.{decimal}
use Rattle.lks_words.specs.Printing.{behind}
use Rattle.lks_words.proofs.printing.put_ids.Given as goal

abbrev pub invariant-loop-id : goal.invariant-loop-id
invariant-loop-id l = l.out.items ≡ l.fn.out.items ++ behind 32 decimal (take l.id-index l.ids)
