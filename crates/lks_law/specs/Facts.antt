-- What every event keeps: journals are journals of their peers, and what these say of polls.
use Rattle.std.specs.Prelude.{◌≡◌, ◌≤◌, ◌⊎◌, ℕ, true, false, Option, Some, None, List, [], ◌∷◌, ◌++◌, length, filter}
use Rattle.std.specs.Prelude.{map, slice_get}
use Rattle.std.specs.List.{range_with_len}
use Rattle.std.specs.Option.{option_to_list}
use Rattle.lks_base.specs.declared.names.HashKind.{HashKind}
use Rattle.lks_base.specs.declared.names.HashKind.TheVariants.{Sha256, Sha512_256}
use Rattle.lks_base.specs.declared.names.Limits.{Limits}
use Rattle.lks_base.specs.declared.plans.PeerPlan.{PeerPlan}
use Rattle.lks_base.specs.declared.plans.Plan.{Plan}
use Rattle.lks_base.specs.declared.reactions.Input.{Input}
use Rattle.lks_base.specs.declared.reactions.Input.TheVariants.{OpenPoll, Widen, Shut, Tally, Nudge, GiveUp, Work}
use Rattle.lks_base.specs.declared.reactions.Input.TheVariants.{Expire, Check, Tune, Got}
use Rattle.lks_base.specs.declared.records.Record.{Record}
use Rattle.lks_base.specs.declared.records.Record.TheVariants as records
use Rattle.lks_law.specs.Journal.{Opening, Request, contents_of, opening_of, is_shut, is_closed, has_asked}
use Rattle.lks_law.specs.Journal.{waiting_requests, unanswered_request, openings, opened_numbers, was_tuned}
use Rattle.lks_law.specs.Polls.{Station, limits_of, votes, inner_votes, said_at}
use Rattle.lks_law.specs.Table.{reaction}
use Rattle.lks_law.specs.World.{Standing, World, is_honest, station_of, deposits}
use Rattle.lks_message.specs.Spelling.{IsWithin}
use Rattle.lks_tally.specs.Distinct.{AreDistinct}
use Rattle.lks_tally.specs.declared.ballots.At.TheVariants as at

-- what a peer did or was told, and when
pub record Heard : Type 0 where
  pub tick : ℕ
  pub input : Input

-- a message that is heard is in its limits
abbrev pub IsHeard : Input → Type 0
IsHeard (OpenPoll au) = Unit {0}
IsHeard (Widen number) = Unit {0}
IsHeard (Shut number) = Unit {0}
IsHeard (Tally number) = Unit {0}
IsHeard (Nudge number) = Unit {0}
IsHeard (GiveUp number) = Unit {0}
IsHeard (Work poll) = Unit {0}
IsHeard (Expire poll) = Unit {0}
IsHeard Check = Unit {0}
IsHeard (Tune quorum minority repairs) = Unit {0}
IsHeard (Got from m judged) = IsWithin m

-- an opening of the second kind has its numbers
abbrev pub limits_left : HashKind → Option Limits → Option Limits
limits_left Sha256 limits = None
limits_left Sha512_256 limits = limits

-- a record as it was written before numbers could be tuned
abbrev pub unnumbered : Record → Record
unnumbered (records.Deposit au blocks) = records.Deposit au blocks
unnumbered (records.PollOpened number au nonce inner tick limits kind) =
    records.PollOpened number au nonce inner tick (limits_left kind limits) kind
unnumbered (records.Nominated number voter nominees) = records.Nominated number voter nominees
unnumbered (records.OuterOpened number outer) = records.OuterOpened number outer
unnumbered (records.VoteIn number voter hashes) = records.VoteIn number voter hashes
unnumbered (records.Shut number) = records.Shut number
unnumbered (records.Asked number block voter) = records.Asked number block voter
unnumbered (records.RepairBad number block voter) = records.RepairBad number block voter
unnumbered (records.Replaced number au block bytes) = records.Replaced number au block bytes
unnumbered (records.Closed number outcome tick) = records.Closed number outcome tick
unnumbered (records.Overdue au tick) = records.Overdue au tick
unnumbered (records.Joined poll au tick low repairs) = records.Joined poll au tick low None
unnumbered (records.Committed poll nonce version kind) = records.Committed poll nonce version kind
unnumbered (records.Voted poll hashes) = records.Voted poll hashes
unnumbered (records.Served poll block) = records.Served poll block
unnumbered (records.Ended poll) = records.Ended poll
unnumbered (records.Tuned quorum minority repairs) = records.Tuned quorum minority repairs

-- What the peer adds to this journal for what it heard is what the rules say. Before any tuning it may lack the
-- numbers.
abbrev pub AddsFor : Station → List Record → Heard → List Record → Type 0
AddsFor own journal h added =
    let records = (reaction own journal h.tick h.input).records in
    (added ≡ records) ⊎ ((was_tuned journal ≡ false) × (added ≡ map unnumbered records))

-- a journal that begins so and goes on by these, the last of which stands first
abbrev pub GoesBy : Station → List Record → List Heard → List Record → Type 0
GoesBy own begun [] journal = journal ≡ begun
GoesBy own begun (h ∷ hs) journal =
    (before : List Record) × (added : List Record) × GoesBy own begun hs before × IsHeard h.input
    × AddsFor own before h added × (journal ≡ before ++ added)

-- none is later than this tick, and none is earlier than the one before it
abbrev pub AreInOrder : ℕ → List Heard → Type 0
AreInOrder tick [] = Unit {0}
AreInOrder tick (h ∷ hs) = (h.tick ≤ tick) × AreInOrder h.tick hs

-- a journal of the peer at this tick: its deposits, and then what the rules add for whatever it did and was told
pub record IsJournalOf (own : Station) (begun : List Record) (tick : ℕ) (journal : List Record) : Type 0 where
  pub heard : List Heard
  pub in_order : AreInOrder tick heard
  pub made : GoesBy own begun heard journal

-- the honest peers of a world are those of its plan, in its order, and each has a journal of its own

abbrev pub HasJournal : Plan → ℕ → Option PeerPlan → Standing → Type 0
HasJournal plan tick None s = ⊥
HasJournal plan tick (Some p) s =
    (s.own ≡ station_of plan p) × IsJournalOf s.own (deposits plan.aus p.copies) tick s.journal

pub record HaveJournals (plan : Plan) (w : World) : Type 0 where
  pub count : length w.peers ≡ length (filter is_honest plan.peers)
  pub each : (place : ℕ) (s : Standing) → slice_get w.peers place ≡ Some s
      → HasJournal plan w.tick (slice_get (filter is_honest plan.peers) place) s

-- What a journal says of its poll n.
pub record IsPollOf (own : Station) (journal : List Record) (n : ℕ) : Type 0 where
  -- each voter's vote stands once
  pub distinct : AreDistinct (votes n journal)
  -- a poll that runs and is shut has its quorum
  pub quorum : (opening : Opening) → opening_of n journal ≡ Some opening → is_closed n journal ≡ false
      → is_shut n journal ≡ true
      → (limits_of own.rules opening).quorum ≤ length (inner_votes n opening.inner journal)
  -- so has one that asked for a repair, and it is shut
  pub asked : (opening : Opening) → opening_of n journal ≡ Some opening → has_asked n journal ≡ true
      → (is_shut n journal ≡ true)
      × ((limits_of own.rules opening).quorum ≤ length (inner_votes n opening.inner journal))
  -- at most one request is unanswered
  pub single : waiting_requests n journal ≡ option_to_list (unanswered_request n journal)
  -- while one is, the poll runs, and its votes still say that the block is lost
  pub runs : (r : Request) → unanswered_request n journal ≡ Some r
      → (is_closed n journal ≡ false) × (has_asked n journal ≡ true)
  pub lost : (opening : Opening) (r : Request) → opening_of n journal ≡ Some opening
      → unanswered_request n journal ≡ Some r
      → said_at own n opening (contents_of opening.au journal) r.block journal ≡ at.Loss

-- what a journal says of its polls: they are numbered from 1 on in the order in which they were opened, each is as
-- above, and at most one runs on an AU
pub record HasPolls (own : Station) (journal : List Record) : Type 0 where
  pub numbered : opened_numbers journal ≡ range_with_len 1 (openings journal)
  pub each : (n : ℕ) → IsPollOf own journal n
  pub alone : (m n : ℕ) (o p : Opening) → opening_of m journal ≡ Some o → opening_of n journal ≡ Some p
      → is_closed m journal ≡ false → is_closed n journal ≡ false
      → o.au ≡ p.au → m ≡ n
