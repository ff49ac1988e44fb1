-- Shares of a circle.
use Rattle.std.proofs.Common.{ℕ, ◌+◌, ◌*◌, ◌<◌, arith}
use Rattle.std.specs.Int.{div_ceil}
use Rattle.std.proofs.lemmas.Grind.{div_ceil_times}
use Rattle.std.proofs.Math.Nat.{lt_of_mul-lt-mul_right}
use Rattle.lks_choice.specs.Circles.{IsLeastShare}

-- a quotient rounded up is the least share
pub div_ceil_least : (size k : ℕ) → 0 < k → IsLeastShare size k (div_ceil size k)
div_ceil_least size k some = record {
  enough = (div_ceil_times size k some).0;
  least = λ t whole.
      let below : div_ceil size k * k < (t + 1) * k = omega (arith, (div_ceil_times size k some).1, whole) in
      let less : div_ceil size k < t + 1 = lt_of_mul-lt-mul_right k below in
      omega arith;
}
