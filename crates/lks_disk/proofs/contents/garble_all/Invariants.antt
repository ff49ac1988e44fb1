use Rattle.std.proofs.Common.{◌≡◌, length, reverse, vec_len}
use Rattle.lks_disk.specs.Crash.{all_garbled}
use Rattle.lks_disk.proofs.Images.{AllWithin}
use Rattle.lks_disk.proofs.contents.garble_all.Given as goal

abbrev pub invariant-back : goal.invariant-back
invariant-back l =
    AllWithin (reverse l.calls.items) (length l.bytes.items)
    × (all_garbled l.choice (reverse l.calls.items) l.bytes.items
    ≡ all_garbled l.choice (reverse l.initial.calls.items) l.initial.bytes.items)

abbrev pub decreases-back : goal.decreases-back
decreases-back l = vec_len l.calls
