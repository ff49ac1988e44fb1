-- Fresh disks, one after another.
use Rattle.std.proofs.Common.{◌≡◌, subst, zero, suc, List, [], ◌∷◌, ◌++◌}
use Rattle.lks_disk.specs.Face.{Face}
use Rattle.lks_world.specs.Held.{IsFresh, AreFresh}

pub fresh_more : {D : Type 0} (f : Face D) (disks : List D) (d : D) → AreFresh f disks → IsFresh f d
    → AreFresh f (disks ++ d ∷ [])
fresh_more f [] d all fresh zero e at = let same : d ≡ e = cc in subst (IsFresh f) same fresh
fresh_more f [] d all fresh (suc place) e at = absurd cc
fresh_more f (x ∷ xs) d all fresh zero e at = all 0 e at
fresh_more f (x ∷ xs) d all fresh (suc place) e at = fresh_more f xs d (λ i y is. all (suc i) y is) fresh place e at
