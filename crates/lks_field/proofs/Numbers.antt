-- Big-endian numbers as fields.
use Rattle.std.proofs.Common.{◌≡◌, ℕ, zero, suc, ◌^◌, ◌<◌, ◌≤◌, false, eqb, ltb, List, [], ◌∷◌, ◌++◌, length, take}
use Rattle.std.proofs.Common.{drop, Ok, refl, sym, subst, arith}
use Rattle.std.specs.Int.{Width, w16, w32, byte_len, from_be_bytes, to_be_bytes}
use Rattle.std.proofs.lemmas.Bool.{ltb-false, le-ltb}
use Rattle.std.proofs.lemmas.List.{take_at, drop_at, take-append-drop, length-append, length-take}
use Rattle.std.proofs.lemmas.Nat.{be_bytes_2, be_bytes_4, from_be_bytes-to_be_bytes_2, from_be_bytes-to_be_bytes_4}
use Rattle.lks_field.specs.declared.fault.FieldFault.{FieldFault}
use Rattle.lks_field.specs.declared.fault.FieldFault.TheVariants.{Short, Value}
use Rattle.lks_field.specs.Reading.{byte_at, number_at, upto_at}
use Rattle.lks_field.specs.Spelling.{flag}
use Rattle.lks_field.proofs.Steps.{Reader, guarded_field}
use Rattle.lks_field.proofs.Takes.{IsBytes, IsBytes-take, IsBytes-drop, Takes, IsField, guard_ok, field_as, byte_field}

pub record IsWide (w : Width) (limit : ℕ) : Type 0 where
  pub len : (n : ℕ) → length (to_be_bytes w n) ≡ byte_len w
  pub back : (bytes : List ℕ) → length bytes ≡ byte_len w → IsBytes bytes
      → to_be_bytes w (from_be_bytes w bytes) ≡ bytes
  pub again : (n : ℕ) → n < limit → from_be_bytes w (to_be_bytes w n) ≡ n
  pub below : (bytes : List ℕ) → IsBytes bytes → from_be_bytes w bytes < limit

wide16 : IsWide w16 (2 ^ 16)
wide16 = record {
  len = λ n. refl;
  back = λ bytes len fits. be_bytes_2 bytes _ len fits refl;
  again = λ n lt. from_be_bytes-to_be_bytes_2 n lt;
  below = λ bytes fits. omega (arith, fits 0, fits 1);
}

wide32 : IsWide w32 (2 ^ 32)
wide32 = record {
  len = λ n. refl;
  back = λ bytes len fits. be_bytes_4 bytes _ len fits refl;
  again = λ n lt. from_be_bytes-to_be_bytes_4 n lt;
  below = λ bytes fits. omega (arith, fits 0, fits 1, fits 2, fits 3);
}

number_field : (w : Width) (limit : ℕ) → IsWide w limit → IsField (number_at w) (to_be_bytes w) (λ n. n < limit)
number_field w limit wide = record { takes = takes; again = again }
  where
    takes : (bytes : List ℕ) (x : ℕ × List ℕ) → IsBytes bytes → number_at w bytes ≡ Ok x
        → Takes bytes (to_be_bytes w x.0) x.1 × (x.0 < limit)
    takes bytes x fits e =
        let front = take (byte_len w) bytes in
        let g = guard_ok (ltb (length bytes) (byte_len w)) Short
        (from_be_bytes w (take (byte_len w) bytes), drop (byte_len w) bytes) x e in
        let long : byte_len w ≤ length bytes = ltb-false _ _ g.0 in
        let back : to_be_bytes w (from_be_bytes w (take (byte_len w) bytes))
        ≡ take (byte_len w) bytes = wide.back (take (byte_len w) bytes)
        (omega (arith, length-take (byte_len w) bytes)) (IsBytes-take (byte_len w) bytes fits) in
        let made : Takes bytes (to_be_bytes w (from_be_bytes w (take (byte_len w) bytes)))
        (drop (byte_len w) bytes) = record {
          parts = rw back (sym (take-append-drop (byte_len w) bytes));
          rest_fits = IsBytes-drop (byte_len w) bytes fits;
        } in
        subst (λ (y : ℕ × List ℕ). Takes bytes (to_be_bytes w y.0) y.1 × (y.0 < limit)) g.1
        (made, wide.below (take (byte_len w) bytes) (IsBytes-take (byte_len w) bytes fits))

    again : (n : ℕ) (rest : List ℕ) → n < limit → number_at w (to_be_bytes w n ++ rest) ≡ Ok (n, rest)
    again n rest lt =
        let len = wide.len n in
        let long : ltb (length (to_be_bytes w n ++ rest)) (byte_len w)
        ≡ false = le-ltb _ _ (omega (arith, length-append (to_be_bytes w n) rest)) in
        rw (
          long,
          take_at (to_be_bytes w n) rest (byte_len w) len,
          drop_at (to_be_bytes w n) rest (byte_len w) len,
          wide.again n lt,
        ) refl

pub be16_field : IsField (number_at w16) (to_be_bytes w16) (λ n. n < 2 ^ 16)
be16_field = number_field w16 (2 ^ 16) wide16

pub be32_field : IsField (number_at w32) (to_be_bytes w32) (λ n. n < 2 ^ 32)
be32_field = number_field w32 (2 ^ 32) wide32

-- a limit below that of the field itself
upto_field : (most limit : ℕ) {reader : Reader ℕ FieldFault} {spell : ℕ → List ℕ} → most < limit
    → IsField reader spell (λ n. n < limit) → IsField (upto_at most reader) spell (λ n. n ≤ most)
unfolding upto_at
upto_field most limit lt field =
    field_as (λ n h. ltb-false most n h.1) (λ n le. (omega (arith, lt, le), le-ltb most n le))
    (guarded_field Value (λ n. ltb most n) field)

pub u8_upto : (most : ℕ) → most < 256 → IsField (upto_at most byte_at) (λ b. b ∷ []) (λ n. n ≤ most)
u8_upto most lt = upto_field most 256 lt byte_field

pub be16_upto : (most : ℕ) → most < 2 ^ 16 → IsField (upto_at most (number_at w16)) (to_be_bytes w16) (λ n. n ≤ most)
be16_upto most lt = upto_field most (2 ^ 16) lt be16_field

-- a number that is the byte of yes or no
pub flag_is : (n : ℕ) → n ≤ 1 → n ≡ flag (eqb n 1)
flag_is zero le = refl
flag_is (suc zero) le = refl
flag_is (suc (suc n)) le = absurd (omega arith)
