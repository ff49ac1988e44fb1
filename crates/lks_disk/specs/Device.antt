-- What the calls of a disk do to its bytes, and what a crash may do between two syncs.
use Rattle.std.specs.Prelude.{◌≡◌, ◌⊎◌, ℕ, zero, suc, Bool, true, false, ◌+◌, ◌-◌, ◌≤◌, max, min, List, ◌++◌, length}
use Rattle.std.specs.Prelude.{take, drop, Result, Ok, Err, OnOk, IsErrOf}
use Rattle.lks_disk.specs.Counts.{Rose, raised}
use Rattle.lks_disk.specs.declared.disks.DiskFail.{DiskFail}
use Rattle.lks_disk.specs.declared.disks.DiskFail.TheVariants.{Failed, Cut, Memory}

-- new is old with these bytes at this offset
abbrev pub Holds : List ℕ → ℕ → List ℕ → List ℕ → Type 0
Holds old at bytes new = new ≡ take at old ++ bytes ++ drop (at + length bytes) old

-- after a write of n bytes that a crash or a failure cut short: any bytes in the range and past the old end, the same
-- elsewhere
pub record Torn (at n : ℕ) (old new : List ℕ) : Type 0 where
  pub before : take at new ≡ take at old
  pub after : drop (at + n) new ≡ drop (at + n) old
  pub no_shorter : length old ≤ length new
  pub no_longer : length new ≤ max (length old) (at + n)

-- the bytes after a write with this answer
abbrev pub Wrote : {T : Type 0} → List ℕ → ℕ → List ℕ → List ℕ → Result T DiskFail → Type 0
Wrote old at piece new (Ok _) = Holds old at piece new
Wrote old at piece new (Err Failed) = Torn at (length piece) old new
Wrote old at piece new (Err Cut) = Torn at (length piece) old new
Wrote old at piece new (Err Memory) = new ≡ old

-- a read gave as much of the buffer as there are bytes from this offset on
pub record ReadAt (bytes : List ℕ) (at n : ℕ) (old new : List ℕ) : Type 0 where
  pub count : n ≡ min (length old) (length bytes - at)
  pub buffer : new ≡ take n (drop at bytes) ++ drop n old

-- each new outcome of a crash is an old outcome after a step
abbrev pub Follows : (List ℕ → List ℕ → Type 0) → (List ℕ → Type 0) → (List ℕ → Type 0) → Type 0
Follows step old new = (c : List ℕ) → new c → (d : List ℕ) × old d × step d c

-- a crash leaves this and nothing else
abbrev pub Only : List ℕ → (List ℕ → Type 0) → Type 0
Only bytes outcomes = (c : List ℕ) → outcomes c → c ≡ bytes

-- Time goes on: a crash since t might have left what it might have left before, or what it may leave now.
pub record Elapses (before now : ℕ) (past since : ℕ → List ℕ → Type 0) (may_leave : List ℕ → Type 0) : Type 0 where
  pub later : before ≤ now
  pub nothing_else : (t : ℕ) (c : List ℕ) → t ≤ before → since t c → past t c ⊎ may_leave c
  pub keeps : (t : ℕ) (c : List ℕ) → t ≤ before → past t c → since t c

-- a crash at any moment since old leaves bytes that have P
pub record LeavesOnly {D : Type 0} (moment : D → ℕ) (left_since : D → ℕ → List ℕ → Type 0) (old new : D)
    (P : List ℕ → Type 0) : Type 0 where
  pub later : moment old ≤ moment new
  pub each : (c : List ℕ) → left_since new (moment old) c → P c
  -- for a run that began earlier
  pub before : (t : ℕ) (c : List ℕ) → t ≤ moment old → left_since new t c → left_since old t c ⊎ P c

-- `Failed` is answered only where the count of faults rose in the call. It never falls, and it rises with no other
-- answer: no fault is passed over.
pub record HasCause {T : Type 0} (before now : ℕ) (result : Result T DiskFail) : Type 0 where
  pub later : before ≤ now
  pub failed : IsErrOf result Failed → Rose before now
  pub ok : OnOk result (now ≡ before)
  pub cut : IsErrOf result Cut → now ≡ before
  pub memory : IsErrOf result Memory → now ≡ before

-- the call takes no memory
abbrev pub NoMemory : {T : Type 0} → Result T DiskFail → Type 0
NoMemory result = IsErrOf result Memory → ⊥

-- the fuse and the power as a disk tells of them
pub record FuseTold : Type 0 where
  pub set : Bool  -- one is set
  pub burned : Bool  -- it has burned
  pub left : ℕ  -- the calls that it still lets pass
  pub calls : ℕ  -- the calls that it was set to let pass
  pub choice : ℕ  -- which outcome of a crash it leaves
  pub burns : ℕ  -- how many have burned so far
  pub cuts : ℕ  -- how often the power was cut so far

-- the call was cut off, or refused for want of memory before
abbrev pub IsCutOff : {T : Type 0} → Result T DiskFail → Type 0
IsCutOff (Ok _) = ⊥
IsCutOff (Err Failed) = ⊥
IsCutOff (Err Cut) = Unit {0}
IsCutOff (Err Memory) = Unit {0}

-- what a write or a sync does to the fuse
pub record Fused {T : Type 0} (old new : FuseTold) (result : Result T DiskFail) : Type 0 where
  pub stays_set : new.set ≡ old.set
  pub same_calls : new.calls ≡ old.calls
  pub same_choice : new.choice ≡ old.choice
  pub same_cuts : new.cuts ≡ old.cuts
  -- a call that passes is one of those that are left
  pub passes : OnOk result (old.set ≡ true → new.left + 1 ≡ old.left)
  pub lower : new.left ≤ old.left
  pub memory : IsErrOf result Memory → new.left ≡ old.left
  pub cut : IsErrOf result Cut → (old.set ≡ true) × (old.left ≡ 0) × (new.burned ≡ true)
  -- where it lets nothing pass, the call is cut off
  pub spent : old.set ≡ true → old.left ≡ 0 → IsCutOff result
  pub stays_burned : old.burned ≡ true → new.burned ≡ true
  pub later : old.burns ≤ new.burns
  -- the count rises with the call that burns it, and with no other
  pub burn : old.burned ≡ false → new.burned ≡ true → new.burns ≡ raised old.burns
  pub ends : old.burned ≡ false → new.burned ≡ true → IsErrOf result Cut
  pub no_burn : new.burned ≡ old.burned → new.burns ≡ old.burns
  pub unburned : OnOk result (new.burns ≡ old.burns)
  pub unset : old.set ≡ false → new.burns ≡ old.burns

-- so many writes and syncs one after another, each of which was answered `Ok`
abbrev pub Passed : ℕ → FuseTold → FuseTold → Type 0
Passed zero old new = new ≡ old
Passed (suc n) old new = (mid : FuseTold) × Fused {T = Unit {0}} old mid (Ok tt) × Passed n mid new

-- a call that is no write and no sync leaves the fuse, and is cut off exactly where it has burned
pub record SameFuse {T : Type 0} (old new : FuseTold) (result : Result T DiskFail) : Type 0 where
  pub same : new ≡ old
  pub gone : old.burned ≡ true → IsCutOff result
  pub cut : IsErrOf result Cut → (old.set ≡ true) × (old.burned ≡ true)
