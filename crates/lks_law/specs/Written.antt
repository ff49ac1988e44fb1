-- What is true of each record of a journal that the rules made, and of the journal before it.
use Rattle.std.specs.Prelude.{◌≡◌, ◌==◌, ℕ, Bool, true, false, Some, None, is_some, option_map, List, [], ◌∷◌, ◌++◌}
use Rattle.std.specs.List.{list_any, list_all}
use Rattle.lks_base.specs.declared.records.Record.{Record}
use Rattle.lks_base.specs.declared.records.Record.TheVariants.{Deposit, PollOpened, Nominated, OuterOpened, VoteIn}
use Rattle.lks_base.specs.declared.records.Record.TheVariants.{Shut, Asked, RepairBad, Replaced, Closed, Overdue}
use Rattle.lks_base.specs.declared.records.Record.TheVariants.{Joined, Committed, Voted, Served, Ended, Tuned}
use Rattle.lks_law.specs.Journal.{said_by, deposit_of, is_closed, is_running, unanswered_request}
use Rattle.lks_law.specs.Sessions.{join_of, commitment_of, hashes_of_vote, is_session, may_work, version_now}

-- whether the record is what the peer began with
abbrev pub is_deposit : Record → Bool
is_deposit r = is_some (said_by r).deposit

-- whether the record names the peer's own poll n
abbrev pub is_of : ℕ → Record → Bool
is_of n (Deposit au blocks) = false
is_of n (PollOpened number au nonce inner tick limits kind) = number == n
is_of n (Nominated number voter nominees) = number == n
is_of n (OuterOpened number outer) = number == n
is_of n (VoteIn number voter hashes) = number == n
is_of n (Shut number) = number == n
is_of n (Asked number block voter) = number == n
is_of n (RepairBad number block voter) = number == n
is_of n (Replaced number au block bytes) = number == n
is_of n (Closed number outcome tick) = number == n
is_of n (Overdue au tick) = false
is_of n (Joined poll au tick low repairs) = false
is_of n (Committed poll nonce version kind) = false
is_of n (Voted poll hashes) = false
is_of n (Served poll block) = false
is_of n (Ended poll) = false
is_of n (Tuned quorum minority repairs) = false

-- Deposits come first; no record names a poll before it is opened; a poll asks while it runs, and it is closed once,
-- when it waits for nothing. A poll of another is joined once, on a held AU; while its session is open the peer commits
-- once, to the newest version, votes once after that, and gives blocks after its vote.
abbrev pub MayFollow : List Record → Record → Type 0
MayFollow before (Deposit au blocks) = list_all is_deposit before ≡ true
MayFollow before (PollOpened number au nonce inner tick limits kind) = list_any (is_of number) before ≡ false
MayFollow before (Nominated number voter nominees) = Unit {0}
MayFollow before (OuterOpened number outer) = Unit {0}
MayFollow before (VoteIn number voter hashes) = Unit {0}
MayFollow before (Shut number) = Unit {0}
MayFollow before (Asked number block voter) = is_running number before ≡ true
MayFollow before (RepairBad number block voter) = Unit {0}
MayFollow before (Replaced number au block bytes) = Unit {0}
MayFollow before (Closed number outcome tick) =
    (is_closed number before ≡ false) × (unanswered_request number before ≡ None)
MayFollow before (Overdue au tick) = Unit {0}
MayFollow before (Joined poll au tick low repairs) =
    (join_of poll before ≡ None) × (is_some (deposit_of au before) ≡ true)
MayFollow before (Committed poll nonce version kind) =
    (is_session poll before ≡ true) × (commitment_of poll before ≡ None)
    × (option_map (λ j. version_now j.au before) (join_of poll before) ≡ Some version)
MayFollow before (Voted poll hashes) = may_work poll before ≡ true
MayFollow before (Served poll block) = (is_session poll before ≡ true) × (is_some (hashes_of_vote poll before) ≡ true)
MayFollow before (Ended poll) = is_session poll before ≡ true
MayFollow before (Tuned quorum minority repairs) = Unit {0}

-- each of these records may follow those before it
abbrev pub AreWritten : List Record → List Record → Type 0
AreWritten before [] = Unit {0}
AreWritten before (r ∷ rs) = MayFollow before r × AreWritten (before ++ r ∷ []) rs
