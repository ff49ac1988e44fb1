-- A journal to which a body is added, or was to be.
use Rattle.std.specs.Prelude.{◌≡◌, ◌⊎◌, ◌<◌, ◌+◌, ℕ, List, ◌∷◌, ◌++◌, length, take, drop, Result, Ok, Err, OnOk}
use Rattle.std.specs.Prelude.{IsErrOf}
use Rattle.lks_disk.specs.Counts.{raised}
use Rattle.lks_disk.specs.Face.{Face, AlwaysLeaves}
use Rattle.lks_field.specs.Frames.{frame, HoldsBodies}
use Rattle.lks_journal.specs.Settled.{IsSettled}
use Rattle.lks_journal.specs.declared.faults.JournalFault.{JournalFault}
use Rattle.lks_journal.specs.declared.faults.JournalFault.TheVariants.{Cut, Memory}
use Rattle.lks_journal.specs.declared.journals.Journal.{Journal}

-- the bodies from before, or those from after
abbrev pub HoldsEither : List (List ℕ) → List (List ℕ) → List ℕ → Type 0
HoldsEither before after file = HoldsBodies before file ⊎ HoldsBodies after file

-- what stood before the closed gate, then the frame and a closed gate in that place, and behind it nothing that didn't
-- stand there
abbrev pub IsFramed : List ℕ → ℕ → List ℕ → List ℕ → Type 0
IsFramed body end old new = new ≡ take end old ++ frame body ++ 0 ∷ drop (end + 6 + length body) old

-- where the bodies end after an append of so many bytes
abbrev pub end_after : Result (Unit {0}) JournalFault → ℕ → ℕ → ℕ
end_after (Ok _) end size = end + 5 + size
end_after (Err fault) end size = end

-- and how many there are
abbrev pub count_after : Result (Unit {0}) JournalFault → ℕ → ℕ
count_after (Ok _) count = raised count
count_after (Err fault) count = count

-- From these bodies a call went to those: at `Ok` they are there, and else one of the two, now and after a crash at any
-- moment of it.
pub record KeepsOrAdds {D : Type 0} (f : Face D) (old new : Journal D) (before after : List (List ℕ))
    (result : Result (Unit {0}) JournalFault) : Type 0 where
  pub ok : OnOk result (IsSettled f new after)
  pub memory : IsErrOf result Memory → IsSettled f new before
  pub crash : (c : List ℕ) → f.may_leave new.disk c → HoldsEither before after c
  pub any_moment : AlwaysLeaves f old.disk new.disk (HoldsEither before after)
  -- cut off in its first two calls of the disk, it leaves the bodies from before alone
  pub early : IsErrOf result Cut → f.left old.disk < 2 → (c : List ℕ) → f.may_leave new.disk c → HoldsBodies before c
