-- The two laws of the moments of a disk in memory.
use Rattle.std.specs.Prelude.{◌≡◌, ℕ, zero, suc, ◌-◌, List, [], ◌∷◌, length}
use Rattle.std.proofs.Common.{inl, subst, arith}
use Rattle.lks_disk.specs.Crash.{Kept, IsImage, WasImage, may_leave, moment, left_since}
use Rattle.lks_disk.specs.declared.calls.Call.{Call}

is_now : (n : ℕ) (calls : List Call) (x c : List ℕ) → IsImage calls x c → WasImage n calls x c
is_now zero calls x c now = now
is_now (suc n) [] x c now = now
is_now (suc n) (call ∷ calls) x c now = inl now

pub counts_now : (k : Kept) (t : ℕ) (c : List ℕ) → may_leave k c → left_since k t c
counts_now k t c now = is_now (length k.calls - t) k.calls k.bytes c now

no_time : (n : ℕ) → n - n ≡ 0
no_time n = omega arith

pub only_now : (k : Kept) (c : List ℕ) → left_since k (moment k) c → may_leave k c
only_now k c left = subst (λ (n : ℕ). WasImage n k.calls k.bytes c) (no_time (length k.calls)) left
