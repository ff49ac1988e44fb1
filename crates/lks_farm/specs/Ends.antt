-- What stands where when a farm is closed.
use Rattle.std.specs.Prelude.{◌≡◌, ℕ, ◌+◌, ◌≤◌, Bool, ◌==◌, ◌&&◌, List, [], ◌∷◌, ◌++◌, cond, map, IsPermutation}
use Rattle.lks_farm.specs.declared.jobs.JobNumber.{JobNumber}
use Rattle.lks_farm.specs.declared.farms.FarmEnd.{FarmEnd}
use Rattle.lks_farm.specs.declared.entries.NumberedJob.{NumberedJob}
use Rattle.lks_farm.specs.Entries.{entry_of, entry_done}
use Rattle.lks_farm.specs.Seats.{SeatSeen, all_offered, all_collected, all_held}

abbrev pub has_number : JobNumber → NumberedJob → Bool
has_number n e = (e.number.seat == n.seat) && (e.number.count == n.count)

-- how often the number stands in the list
abbrev pub times : JobNumber → List NumberedJob → ℕ
times n [] = 0
times n (e ∷ es) = cond (has_number n e) 1 0 + times n es

-- Each number that was offered by way of a seat was offered once and stands in one place, with the job that was offered
-- under it: it was collected, or its result is left, or its job is left, or a seat holds it. Nothing else stands there.
pub record IsClosed (seats : List SeatSeen) (left : FarmEnd) : Type 0 where
  pub once : (n : JobNumber) → times n (all_offered seats) ≤ 1
  pub one_place : (n : JobNumber)
      → ((times n (all_collected seats) + times n (map entry_done left.done.items))
      + times n (map entry_of left.jobs.items))
      + times n (all_held seats)
      ≡ times n (all_offered seats)
  pub same_jobs : IsPermutation (all_offered seats)
      (((all_collected seats ++ map entry_done left.done.items) ++ map entry_of left.jobs.items) ++ all_held seats)
