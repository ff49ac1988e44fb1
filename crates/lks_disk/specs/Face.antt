-- What contracts say of a disk.
use Rattle.std.specs.Prelude.{◌≡◌, ◌↔◌, if◌then◌else◌, ℕ, Bool, true, false, List, Result}
use Rattle.lks_disk.specs.declared.disks.DiskFail.{DiskFail}
use Rattle.lks_disk.specs.Counts.{raised}
use Rattle.lks_disk.specs.Device.{Only, Elapses, FuseTold, Fused, SameFuse, LeavesOnly}

pub record Face (D : Type 0) : Type 1 where
  pub told : D → Type 0  -- the bytes are told. A clause on bytes says something where they are.
  pub seen : D → List ℕ  -- the bytes that a read gives
  pub may_leave : D → List ℕ → Type 0  -- what a crash at this moment may leave
  pub moment : D → ℕ  -- the moment, as a number that doesn't fall
  -- what a crash at some moment from that one on might have left, during a call or between two
  pub left_since : D → ℕ → List ℕ → Type 0
  pub faults : D → ℕ  -- how often the disk has failed
  pub burns : D → ℕ  -- how many fuses have burned
  pub cuts : D → ℕ  -- how often the power was cut
  pub fused : D → Bool  -- a fuse is set
  pub burned : D → Bool  -- the fuse that is set has burned
  pub left : D → ℕ  -- how many calls of `write_at` and `sync` the fuse still lets pass
  -- how many of them the fuse was set to let pass, or the one that the last power cut ended where no fuse is set
  pub calls : D → ℕ
  pub choice : D → ℕ  -- which of the outcomes of a crash a power cut leaves, or the last one left where no fuse is set

-- a call changed nothing of what a read gives and a crash leaves
pub record Same {D : Type 0} (f : Face D) (old new : D) : Type 0 where
  pub tells : f.told old ↔ f.told new
  pub bytes : f.seen new ≡ f.seen old
  pub leaves : (c : List ℕ) → f.may_leave new c → f.may_leave old c
  pub left : (c : List ℕ) → f.may_leave old c → f.may_leave new c
  pub time : f.moment new ≡ f.moment old
  pub past : (t : ℕ) (c : List ℕ) → f.left_since new t c → f.left_since old t c
  pub since : (t : ℕ) (c : List ℕ) → f.left_since old t c → f.left_since new t c

-- time went on in a call
abbrev pub Passes : {D : Type 0} → Face D → D → D → Type 0
Passes f old new = Elapses (f.moment old) (f.moment new) (f.left_since old) (f.left_since new) (f.may_leave new)

-- a crash at any moment of the calls leaves bytes that have P
abbrev pub AlwaysLeaves : {D : Type 0} → Face D → D → D → (List ℕ → Type 0) → Type 0
AlwaysLeaves f old new P = LeavesOnly f.moment f.left_since old new P

-- the fuse and the power of a disk
abbrev pub fuse_of : {D : Type 0} → Face D → D → FuseTold
fuse_of f disk =
    record {
      set = f.fused disk;
      burned = f.burned disk;
      left = f.left disk;
      calls = f.calls disk;
      choice = f.choice disk;
      burns = f.burns disk;
      cuts = f.cuts disk;
    }

-- what a write or a sync did to them
abbrev pub Burns : {D T : Type 0} → Face D → D → D → Result T DiskFail → Type 0
Burns f old new result = Fused (fuse_of f old) (fuse_of f new) result

-- what another call did to it
abbrev pub KeepsFuse : {D T : Type 0} → Face D → D → D → Result T DiskFail → Type 0
KeepsFuse f old new result = SameFuse (fuse_of f old) (fuse_of f new) result

-- a fuse was set: so many calls pass, and then the choice says what is left
pub record HasFuse {D : Type 0} (f : Face D) (calls choice : ℕ) (old new : D) : Type 0 where
  pub same : Same f old new
  pub fused : f.fused new ≡ true
  pub whole : f.burned new ≡ false
  pub left : f.left new ≡ calls
  pub allowed : f.calls new ≡ calls
  pub chosen : f.choice new ≡ choice
  pub faults : f.faults new ≡ f.faults old
  pub burns : f.burns new ≡ f.burns old
  pub cuts : f.cuts new ≡ f.cuts old

-- the power was cut, once more: what is there is what a crash may have left, by the choice of the fuse, nothing is
-- pending, and no fuse is set
pub record HasLost {D : Type 0} (f : Face D) (old new : D) : Type 0 where
  pub left : f.may_leave old (f.seen new)
  pub durable : Only (f.seen new) (f.may_leave new)
  pub allowed : f.calls new ≡ (if f.fused old then f.calls old else 0)
  pub chosen : f.choice new ≡ (if f.fused old then f.choice old else 0)
  pub unfused : f.fused new ≡ false
  pub whole : f.burned new ≡ false
  pub faults : f.faults new ≡ f.faults old
  pub burns : f.burns new ≡ f.burns old
  pub cuts : f.cuts new ≡ raised (f.cuts old)
