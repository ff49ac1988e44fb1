use Rattle.std.proofs.Common.{◌≡◌, reverse, vec_len}
use Rattle.lks_disk.specs.Crash.{AllFit, all_undone}
use Rattle.lks_disk.proofs.contents.undo_all.Given as goal

abbrev pub invariant-back : goal.invariant-back
invariant-back l =
    AllFit (reverse l.calls.items) l.bytes.items
    × (all_undone (reverse l.calls.items) l.bytes.items
    ≡ all_undone (reverse l.initial.calls.items) l.initial.bytes.items)

abbrev pub decreases-back : goal.decreases-back
decreases-back l = vec_len l.calls
