use Rattle.std.proofs.Common.{◌≡◌, ◌++◌, length, take}
use Rattle.std.specs.Int.{w16, to_be_bytes}
use Rattle.std.specs.List.{flat_map}
use Rattle.lks_field.proofs.writing.put_hashes.Given as goal

abbrev pub invariant-loop-hash : goal.invariant-loop-hash
invariant-loop-hash l =
    l.out.items
    ≡ l.fn.out.items ++ (to_be_bytes w16 (length l.hashes) ++ flat_map (λ h. h) (take l.hash-index l.hashes))
