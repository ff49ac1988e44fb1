-- A disk of which calls changed no byte.
use Rattle.std.specs.Prelude.{◌≡◌, ℕ, List}
use Rattle.lks_disk.specs.Face.{Face, AlwaysLeaves}

-- no byte changed, and a crash leaves only what it could leave before
pub record Stays {D : Type 0} (f : Face D) (old new : D) : Type 0 where
  pub bytes : f.seen new ≡ f.seen old
  pub crash : (c : List ℕ) → f.may_leave new c → f.may_leave old c
  -- a crash at any moment leaves what it could leave before
  pub any_moment : AlwaysLeaves f old new (f.may_leave old)
