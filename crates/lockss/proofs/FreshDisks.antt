-- Fresh disks, one after another.
use Rattle.std.proofs.Common.{◌≡◌, subst, zero, suc, List, [], ◌∷◌, ◌++◌, All}
use Rattle.std.proofs.lemmas.List.Elements.{All-nil, All-cons, All-append}
use Rattle.lks_disk.specs.Face.{Face}
use Rattle.lks_disk.specs.Fuse.{Starts}
use Rattle.lks_disk.specs.declared.memory.MemDisk.{MemDisk}
use Rattle.lks_world.specs.Held.{IsFresh, AreFresh}

pub fresh_more : {D : Type 0} (f : Face D) (disks : List D) (d : D) → AreFresh f disks → IsFresh f d
    → AreFresh f (disks ++ d ∷ [])
fresh_more f [] d all fresh zero e at = let same : d ≡ e = cc in subst (IsFresh f) same fresh
fresh_more f [] d all fresh (suc place) e at = absurd cc
fresh_more f (x ∷ xs) d all fresh zero e at = all 0 e at
fresh_more f (x ∷ xs) d all fresh (suc place) e at = fresh_more f xs d (λ i y is. all (suc i) y is) fresh place e at

-- a disk of which no call fails
abbrev pub NeverFails : MemDisk → Type 0
NeverFails disk = Starts [] [] disk.control

pub none_fails : All NeverFails []
none_fails = All-nil NeverFails

pub one_more_never_fails : (disks : List MemDisk) (disk : MemDisk) → All NeverFails disks → NeverFails disk
    → All NeverFails (disks ++ disk ∷ [])
one_more_never_fails disks disk all one =
    All-append NeverFails disks (disk ∷ []) all (All-cons NeverFails disk [] one none_fails)
