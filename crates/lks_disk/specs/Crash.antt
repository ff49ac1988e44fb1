-- What a crash leaves of a disk in memory: its bytes, and its writes and syncs with what undoes them, newest first.
use Rattle.std.specs.Prelude.{◌≡◌, ◌⊎◌, ◌==◌, ℕ, zero, suc, Bool, true, false, ◌-◌, ◌<◌, List, [], ◌∷◌, length, take}
use Rattle.std.specs.Prelude.{drop, if◌then◌else◌, Result, Err}
use Rattle.lks_disk.specs.Device.{Holds, Torn}
use Rattle.lks_disk.specs.Ranges.{replaced, counting, Fits}
use Rattle.lks_disk.specs.declared.disks.DiskFail.{DiskFail}
use Rattle.lks_disk.specs.declared.disks.DiskFail.TheVariants.{Memory}
use Rattle.lks_disk.specs.declared.controls.Fate.{Fate}
use Rattle.lks_disk.specs.declared.controls.Fate.TheVariants.{Passes, Fails, Burns, Ends}
use Rattle.lks_disk.specs.declared.calls.Call.{Call}
use Rattle.lks_disk.specs.declared.calls.Call.TheVariants.{Written, Synced}

-- the bytes and the calls
pub record Kept : Type 0 where
  pub bytes : List ℕ
  pub calls : List Call

-- the bytes before a call, from those after it
abbrev pub undone : Call → List ℕ → List ℕ
undone (Written at n over) x = replaced at n over x
undone Synced x = x

-- a crash may leave c: each write since the last sync is there, or torn over what was there before it
abbrev pub IsImage : List Call → List ℕ → List ℕ → Type 0
IsImage [] x c = c ≡ x
IsImage (Synced ∷ calls) x c = c ≡ x
IsImage (Written at n over ∷ calls) x c =
    (c ≡ x) ⊎ ((d : List ℕ) × IsImage calls (replaced at n over x) d × Torn at n d c)

-- a crash now, or before one of the last so many calls, may leave c
abbrev pub WasImage : ℕ → List Call → List ℕ → List ℕ → Type 0
WasImage zero calls x c = IsImage calls x c
WasImage (suc n) [] x c = IsImage [] x c
WasImage (suc n) (call ∷ calls) x c = IsImage (call ∷ calls) x c ⊎ WasImage n calls (undone call x) c

abbrev pub may_leave : Kept → List ℕ → Type 0
may_leave k c = IsImage k.calls k.bytes c

abbrev pub moment : Kept → ℕ
moment k = length k.calls

abbrev pub left_since : Kept → ℕ → List ℕ → Type 0
left_since k t c = WasImage (length k.calls - t) k.calls k.bytes c

-- a write waits for a sync
abbrev pub is_pending : List Call → Bool
is_pending [] = false
is_pending (Synced ∷ calls) = false
is_pending (Written at n over ∷ calls) = true

-- so do the writes since the last sync
abbrev pub AllFit : List Call → List ℕ → Type 0
AllFit [] x = Unit {0}
AllFit (Synced ∷ calls) x = Unit {0}
AllFit (Written at n over ∷ calls) x = Fits at n over x × AllFit calls (replaced at n over x)

-- each write since the last sync undone, from the last to the first
abbrev pub all_undone : List Call → List ℕ → List ℕ
all_undone [] x = x
all_undone (Synced ∷ calls) x = x
all_undone (Written at n over ∷ calls) x = all_undone calls (replaced at n over x)

-- each one's range counting up, from the last to the first
abbrev pub all_garbled : ℕ → List Call → List ℕ → List ℕ
all_garbled c [] x = x
all_garbled c (Synced ∷ calls) x = x
all_garbled c (Written at n over ∷ calls) x = all_garbled c calls (replaced at n (counting c n) x)

-- what a power cut leaves by this choice
abbrev pub left_by : ℕ → List Call → List ℕ → List ℕ
left_by choice calls x =
    if choice == 0
    then all_undone calls x
    else (if choice == 1 then x else all_garbled choice calls x)

-- what is so of the bytes, the calls and the flag that says whether a write waits
pub record IsSound (bytes : List ℕ) (calls : List Call) (pending : Bool) (count capacity : ℕ) : Type 0 where
  pub waits : pending ≡ is_pending calls
  pub room : pending ≡ true → count < capacity
  pub fit : AllFit calls bytes

-- a write logged
pub record IsWritten (at : ℕ) (piece : List ℕ) (old new : Kept) : Type 0 where
  pub bytes : Holds old.bytes at piece new.bytes
  pub calls : new.calls ≡ Written at (length piece) (take (length piece) (drop at old.bytes)) ∷ old.calls

-- a sync is kept where a write waits for it
abbrev pub synced : List Call → List Call
synced calls = if is_pending calls then Synced ∷ calls else calls

-- the bytes and calls after a write with this fate: one that fails or is cut off leaves nothing, one that burns the
-- fuse is done
abbrev pub Writes : Fate → ℕ → List ℕ → Kept → Kept → Type 0
Writes Passes at piece old new = IsWritten at piece old new
Writes Burns at piece old new = IsWritten at piece old new
Writes Fails at piece old new = new ≡ old
Writes Ends at piece old new = new ≡ old

abbrev pub WritesBy : Fate → ℕ → List ℕ → Kept → Kept → Result (Unit {0}) DiskFail → Type 0
WritesBy fate at piece old new (Err Memory) = new ≡ old
WritesBy fate at piece old new result = Writes fate at piece old new

-- after a sync with this fate
abbrev pub synced_by : Fate → Kept → Kept
synced_by Passes k = record k { calls = synced k.calls }
synced_by fate k = k
