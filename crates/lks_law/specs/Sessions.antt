-- What a journal says of the peer's part in polls of others.
use Rattle.std.specs.Prelude.{ℕ, Bool, true, false, not, ◌==◌, ◌&&◌, if◌then◌else◌, Option, Some, None, is_some}
use Rattle.std.specs.Prelude.{option_map, option_and_then, List, [], ◌∷◌, length, count_by}
use Rattle.std.specs.List.{list_any, filter_map}
use Rattle.lks_base.specs.declared.names.PollName.{PollName}
use Rattle.lks_base.specs.declared.records.Record.{Record}
use Rattle.lks_base.specs.declared.records.Record.TheVariants.{Deposit, PollOpened, Nominated, OuterOpened, VoteIn}
use Rattle.lks_base.specs.declared.records.Record.TheVariants.{Shut, Asked, RepairBad, Replaced, Closed, Overdue}
use Rattle.lks_base.specs.declared.records.Record.TheVariants.{Joined, Committed, Voted, Served, Ended, Tuned}
use Rattle.lks_law.specs.Journal.{Told, said_by, later, replacements}
use Rattle.lks_tally.specs.declared.ballots.Vote.{Vote}
pub use Rattle.lks_voter.specs.States.{Commitment}

-- how a peer joined a poll
pub record Join : Type 0 where
  pub au : ℕ
  pub tick : ℕ
  pub low : Bool  -- whether the poller's grade was low
  pub repairs : Option ℕ  -- how many blocks it may give the poller, which may be the rules' number

-- one turn of its part in a poll
pub data Turn : Type 0 where
  Joins : (join : Join) → Turn
  Commits : (commitment : Commitment) → Turn
  Votes : (hashes : List (List ℕ)) → Turn
  Serves : (block : ℕ) → Turn
  Ends : Turn

pub record Part : Type 0 where
  pub poll : PollName
  pub turn : Turn

-- whether two names are of one poll
abbrev pub is_poll : PollName → PollName → Bool
is_poll p q = p.poller == q.poller && p.number == q.number

-- what a record says of it
abbrev pub part_of : Record → Option Part
part_of (Deposit au blocks) = None
part_of (PollOpened number au nonce inner tick limits kind) = None
part_of (Nominated number voter nominees) = None
part_of (OuterOpened number outer) = None
part_of (VoteIn number voter hashes) = None
part_of (Shut number) = None
part_of (Asked number block voter) = None
part_of (RepairBad number block voter) = None
part_of (Replaced number au block bytes) = None
part_of (Closed number outcome tick) = None
part_of (Overdue au tick) = None
part_of (Joined poll au tick low repairs) =
    Some (record { poll = poll; turn = Turn.Joins (record { au = au; tick = tick; low = low; repairs = repairs }) })
part_of (Committed poll nonce version kind) =
    Some (record { poll = poll; turn = Turn.Commits (record { nonce = nonce; version = version; kind = kind }) })
part_of (Voted poll hashes) = Some (record { poll = poll; turn = Turn.Votes hashes })
part_of (Served poll block) = Some (record { poll = poll; turn = Turn.Serves block })
part_of (Ended poll) = Some (record { poll = poll; turn = Turn.Ends })
part_of (Tuned quorum minority repairs) = None

-- the poll whose part the record tells
abbrev pub poll_in : Record → Option PollName
poll_in r = option_map (λ (p : Part). p.poll) (part_of r)

abbrev pub join_by : Turn → Option Join
join_by (Turn.Joins join) = Some join
join_by (Turn.Commits commitment) = None
join_by (Turn.Votes hashes) = None
join_by (Turn.Serves block) = None
join_by Turn.Ends = None

abbrev pub commitment_by : Turn → Option Commitment
commitment_by (Turn.Joins join) = None
commitment_by (Turn.Commits commitment) = Some commitment
commitment_by (Turn.Votes hashes) = None
commitment_by (Turn.Serves block) = None
commitment_by Turn.Ends = None

abbrev pub hashes_by : Turn → Option (List (List ℕ))
hashes_by (Turn.Joins join) = None
hashes_by (Turn.Commits commitment) = None
hashes_by (Turn.Votes hashes) = Some hashes
hashes_by (Turn.Serves block) = None
hashes_by Turn.Ends = None

abbrev pub block_by : Turn → Option ℕ
block_by (Turn.Joins join) = None
block_by (Turn.Commits commitment) = None
block_by (Turn.Votes hashes) = None
block_by (Turn.Serves block) = Some block
block_by Turn.Ends = None

abbrev pub is_end : Turn → Bool
is_end (Turn.Joins join) = false
is_end (Turn.Commits commitment) = false
is_end (Turn.Votes hashes) = false
is_end (Turn.Serves block) = false
is_end Turn.Ends = true

-- what this says of the part in poll q
abbrev pub of_poll : {X : Type 0} → PollName → (Turn → Option X) → Option Part → Option X
of_poll q says None = None
of_poll q says (Some p) = option_and_then (λ x. if is_poll p.poll q then Some x else None) (says p.turn)

abbrev pub join_in : PollName → Record → Option Join
join_in q r = of_poll q join_by (part_of r)

abbrev pub commitment_in : PollName → Record → Option Commitment
commitment_in q r = of_poll q commitment_by (part_of r)

abbrev pub hashes_in : PollName → Record → Option (List (List ℕ))
hashes_in q r = of_poll q hashes_by (part_of r)

abbrev pub served_in : PollName → Record → Option ℕ
served_in q r = of_poll q block_by (part_of r)

abbrev pub ends_part : PollName → Option Part → Bool
ends_part q None = false
ends_part q (Some p) = is_poll p.poll q && is_end p.turn

abbrev pub ends : PollName → Record → Bool
ends q r = ends_part q (part_of r)

-- Sessions.

-- what the first record that has any has
abbrev pub first_in : {X : Type 0} → (Record → Option X) → List Record → Option X
first_in has [] = None
first_in has (r ∷ rs) = if is_some (has r) then has r else first_in has rs

unfoldable pub join_of : PollName → List Record → Option Join
join_of q journal = first_in (join_in q) journal

unfoldable pub commitment_of : PollName → List Record → Option Commitment
commitment_of q journal = first_in (commitment_in q) journal

unfoldable pub hashes_of_vote : PollName → List Record → Option (List (List ℕ))
hashes_of_vote q journal = first_in (hashes_in q) journal

-- the blocks that were served, in order
unfoldable pub served_blocks : PollName → List Record → List ℕ
served_blocks q journal = filter_map (served_in q) journal

unfoldable pub is_ended : PollName → List Record → Bool
is_ended q journal = list_any (ends q) journal

-- whether the session is open
unfoldable pub is_session : PollName → List Record → Bool
is_session q journal = is_some (join_of q journal) && not (is_ended q journal)

-- the poll that a record joins
abbrev pub joined_part : Option Part → Option PollName
joined_part None = None
joined_part (Some p) = if is_some (join_by p.turn) then Some p.poll else None

abbrev pub joined_in : Record → Option PollName
joined_in r = joined_part (part_of r)

-- the polls that were joined, in order
unfoldable pub joined_polls : List Record → List PollName
joined_polls journal = filter_map joined_in journal

-- the number of open sessions
unfoldable pub sessions : List Record → ℕ
sessions journal = count_by (λ q. not (is_ended q journal)) (joined_polls journal)

-- Committed, open, and not voted.

unfoldable pub may_work : PollName → List Record → Bool
may_work q journal =
    is_session q journal && is_some (commitment_of q journal) && not (is_some (hashes_of_vote q journal))

-- the poll in which a record commits
abbrev pub committed_part : Option Part → Option PollName
committed_part None = None
committed_part (Some p) = if is_some (commitment_by p.turn) then Some p.poll else None

abbrev pub committed_in : Record → Option PollName
committed_in r = committed_part (part_of r)

-- the polls in which the peer committed, in order
unfoldable pub committed_polls : List Record → List PollName
committed_polls journal = filter_map committed_in journal

-- Votes received and given, and the last admission of a peer of low grade.

abbrev pub is_vote_by : ℕ → Option (Told Vote) → Bool
is_vote_by f None = false
is_vote_by f (Some told) = told.fact.voter == f

unfoldable pub votes_received : ℕ → List Record → ℕ
votes_received f journal = count_by (λ r. is_vote_by f (said_by r).voted) journal

abbrev pub is_vote_for : ℕ → Option Part → Bool
is_vote_for f None = false
is_vote_for f (Some p) = p.poll.poller == f && is_some (hashes_by p.turn)

unfoldable pub votes_given : ℕ → List Record → ℕ
votes_given f journal = count_by (λ r. is_vote_for f (part_of r)) journal

-- the latest tick at which a peer of low grade was let join
abbrev pub low_by : Option ℕ → Turn → Option ℕ
low_by before (Turn.Joins join) = if join.low then later before join.tick else before
low_by before (Turn.Commits commitment) = before
low_by before (Turn.Votes hashes) = before
low_by before (Turn.Serves block) = before
low_by before Turn.Ends = before

abbrev pub low_part : Option ℕ → Option Part → Option ℕ
low_part before None = before
low_part before (Some p) = low_by before p.turn

abbrev pub low_from : Option ℕ → List Record → Option ℕ
low_from before [] = before
low_from before (r ∷ rs) = low_from (low_part before (part_of r)) rs

unfoldable pub last_low : List Record → Option ℕ
last_low journal = low_from None journal

-- the number of the newest version of an AU
unfoldable pub version_now : ℕ → List Record → ℕ
version_now au journal = length (replacements au journal)
