-- A farm and its seats, as contracts see them.
use Rattle.std.specs.Prelude.{◌≡◌, ◌==◌, ℕ, ◌+◌, ◌<◌, ◌≤◌, Option, None, Some, List, [], ◌∷◌, ◌++◌, All, cond, length}
use Rattle.std.specs.Prelude.{map, flat_map, option_map, option_to_list, slice_get}
use Rattle.atomic_table.specs.Seated.{TableId}
use Rattle.lks_farm.specs.declared.jobs.JobNumber.{JobNumber}
use Rattle.lks_farm.specs.declared.entries.NumberedJob.{NumberedJob}
use Rattle.lks_farm.specs.declared.rule.View.{View}
use Rattle.lks_farm.specs.Entries.{IsOf}
use Rattle.lks_farm.specs.Sharing.{view_knowing}

-- a queue: which it is, and for how many items it has room
pub record QueueSeen : Type 0 where
  pub table : TableId
  pub room : ℕ

-- a pass of a queue: of which, and its view
pub record HandSeen : Type 0 where
  pub table : TableId
  pub knows : View

-- which farm it is: its two queues and its pool
pub record FarmName : Type 0 where
  pub jobs : TableId
  pub results : TableId
  pub pool : List ℕ

pub record FarmSeen : Type 0 where
  pub name : FarmName
  pub room : ℕ

-- what no call changes of a seat: its farm, its number there, and its parts of each queue
pub record Badge : Type 0 where
  pub farm : FarmName
  pub number : ℕ
  pub parts : ℕ

-- the entries that were offered, handed in and collected by way of the seat, and the one that it holds
pub record SeatSeen : Type 0 where
  pub badge : Badge
  pub offered : List NumberedJob
  pub handed : List NumberedJob
  pub collected : List NumberedJob
  pub held : Option NumberedJob

-- the entries that were taken: those handed in, and the one that is held
abbrev pub taken_of : SeatSeen → List NumberedJob
taken_of s = s.handed ++ option_to_list s.held

-- the view of the seat's pass on the queue of jobs, and on that of results
abbrev pub jobs_view : SeatSeen → View
jobs_view s = view_knowing s.badge.parts s.badge.farm.pool s.offered (taken_of s)

abbrev pub results_view : SeatSeen → View
results_view s = view_knowing s.badge.parts s.badge.farm.pool s.handed s.collected

-- the number under which the seat's next job goes
abbrev pub next_number : SeatSeen → JobNumber
next_number s = record { seat = s.badge.number; count = length s.offered }

abbrev pub number_held : SeatSeen → Option JobNumber
number_held s = option_map (λ (e : NumberedJob). e.number) s.held

-- all entries of these seats
abbrev pub all_offered : List SeatSeen → List NumberedJob
all_offered seats = flat_map (λ (s : SeatSeen). s.offered) seats

abbrev pub all_handed : List SeatSeen → List NumberedJob
all_handed seats = flat_map (λ (s : SeatSeen). s.handed) seats

abbrev pub all_taken : List SeatSeen → List NumberedJob
all_taken seats = flat_map taken_of seats

abbrev pub all_collected : List SeatSeen → List NumberedJob
all_collected seats = flat_map (λ (s : SeatSeen). s.collected) seats

abbrev pub all_held : List SeatSeen → List NumberedJob
all_held seats = flat_map (λ (s : SeatSeen). option_to_list s.held) seats

-- the parts of these seats, added up
abbrev pub all_parts : List Badge → ℕ
all_parts [] = 0
all_parts (b ∷ bs) = b.parts + all_parts bs

-- how many of them have this number
abbrev pub seats_with : ℕ → List Badge → ℕ
seats_with n [] = 0
seats_with n (b ∷ bs) = cond (b.number == n) 1 0 + seats_with n bs

abbrev pub badges_of : List SeatSeen → List Badge
badges_of seats = map (λ (s : SeatSeen). s.badge) seats

-- these are all seats of the farm
pub record AreAll (farm : FarmName) (badges : List Badge) : Type 0 where
  pub each : All (λ (b : Badge). b.farm ≡ farm) badges
  pub parts : all_parts badges ≡ 128
  pub numbers : (n : ℕ) → seats_with n badges ≤ 1

abbrev pub AreSeatsOf : FarmName → List SeatSeen → Type 0
AreSeatsOf farm seats = AreAll farm (badges_of seats)

-- the seat with this number, before anything was done by way of it
abbrev pub fresh : FarmName → ℕ → ℕ → SeatSeen
fresh farm number parts = record {
  badge = record { farm = farm; number = number; parts = parts };
  offered = [];
  handed = [];
  collected = [];
  held = None;
}

-- such seats, numbered from k
abbrev pub AreFresh : FarmName → ℕ → List SeatSeen → Type 0
AreFresh farm k [] = Unit {0}
AreFresh farm k (s ∷ ss) = (s ≡ fresh farm k s.badge.parts) × AreFresh farm (k + 1) ss

-- the entries have the numbers of this seat, counted from k
abbrev pub AreCounted : ℕ → ℕ → List NumberedJob → Type 0
AreCounted seat k [] = Unit {0}
AreCounted seat k (e ∷ es) = (e.number ≡ record { seat = seat; count = k }) × AreCounted seat (k + 1) es

-- the entry that a seat holds: the one that was got from the queue of jobs and not yet put into that of results
abbrev pub held_by : View → View → Option NumberedJob
held_by jobs results = slice_get jobs.got (length results.put)

-- what a seat stores agrees with the views of its two passes
pub record Keeps (number offers : ℕ) (holds : Option JobNumber) (jobs results : View) : Type 0 where
  pub some_part : 0 < jobs.parts
  pub same_parts : results.parts ≡ jobs.parts
  pub same_pool : results.pool ≡ jobs.pool
  pub count : offers ≡ length jobs.put
  pub counted : AreCounted number 0 jobs.put
  pub taken : jobs.got ≡ results.put ++ option_to_list (held_by jobs results)
  pub held : holds ≡ option_map (λ (e : NumberedJob). e.number) (held_by jobs results)
  pub of : (e : NumberedJob) → held_by jobs results ≡ Some e → IsOf jobs.pool e

-- the seat as contracts see it, by its number and its two passes
abbrev pub seat_seen : ℕ → HandSeen → HandSeen → SeatSeen
seat_seen number jobs results = record {
  badge =
      record {
        farm = record { jobs = jobs.table; results = results.table; pool = jobs.knows.pool };
        number = number;
        parts = jobs.knows.parts;
      };
  offered = jobs.knows.put;
  handed = results.knows.put;
  collected = results.knows.got;
  held = held_by jobs.knows results.knows;
}
