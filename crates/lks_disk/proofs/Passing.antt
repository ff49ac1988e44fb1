-- Each call that passes is one of those that the fuse lets pass.
use Rattle.std.proofs.Common.{◌≡◌, ◌+◌, ◌∙◌, ap, ℕ, zero, suc, true, refl, arith}
use Rattle.std.specs.Prelude.{Err}
use Rattle.lks_disk.specs.Device.{FuseTold, Fused, Passed}
use Rattle.lks_disk.specs.declared.disks.DiskFail.TheVariants.{Cut}

left_behind : (n : ℕ) (old new : FuseTold) → old.set ≡ true → Passed n old new → new.left + n ≡ old.left
left_behind zero old new set passed = let same = ap (λ (t : FuseTold). t.left) passed in omega (arith, same)
left_behind (suc n) old new set passed =
    let one : passed.0.left + 1 ≡ old.left = passed.1.passes set in
    let rest = left_behind n passed.0 new (passed.1.stays_set ∙ set) passed.2 in
    omega (arith, one, rest)

pub burns_behind : (n : ℕ) (first mid last : FuseTold) → first.set ≡ true → first.left ≡ first.calls
    → Passed n first mid → Fused {T = Unit {0}} mid last (Err Cut) → n ≡ first.calls
burns_behind n first mid last set whole passed cut =
    let all = left_behind n first mid set passed in
    let none = (cut.cut refl).1 in
    omega (arith, all, none, whole)
