-- A frame is no longer than the bytes that it was read from.
use Rattle.std.proofs.Common.{◌≡◌, ℕ, ◌≤◌, ltb, List, length, take, drop, Ok, ap, arith, length-drop}
use Rattle.std.specs.Int.{w32, from_be_bytes}
use Rattle.lks_field.specs.declared.fault.FieldFault.TheVariants.{Short}
use Rattle.lks_field.specs.Reading.{number_at, bytes_at, sized_at}
use Rattle.lks_field.proofs.Takes.{bind_ok, guard_ok}

pub sized_shorter : (bytes : List ℕ) (found : List ℕ × List ℕ) → sized_at (number_at w32) bytes ≡ Ok found
    → length found.1 ≤ length bytes
unfolding sized_at
sized_shorter bytes found e =
    let a = bind_ok (number_at w32 bytes) (λ n. bytes_at n.0 n.1) found e in
    let size = guard_ok (ltb (length bytes) 4) Short (from_be_bytes w32 (take 4 bytes), drop 4 bytes) a.0 a.1 in
    let body = guard_ok (ltb (length a.0.1) a.0.0) Short (take a.0.0 a.0.1, drop a.0.0 a.0.1) found a.2 in
    let first : length (drop 4 bytes) ≡ length a.0.1 = ap (λ (f : ℕ × List ℕ). length f.1) size.1 in
    let second : length (drop a.0.0 a.0.1) ≡ length found.1 = ap (λ (f : List ℕ × List ℕ). length f.1) body.1 in
    omega (arith, length-drop 4 bytes, length-drop a.0.0 a.0.1, first, second)
