-- What a crash may leave of a write.
use Rattle.std.specs.Prelude.{ℕ, List}
use Rattle.lks_disk.specs.Device.{Torn}

-- a crash may leave bytes that it could leave before a write, torn in the write's range
pub record CanLeaveTorn (may_leave : List ℕ → Type 0) (at n : ℕ) (c : List ℕ) : Type 0 where
  pub from : List ℕ
  pub left : may_leave from
  pub torn : Torn at n from c
