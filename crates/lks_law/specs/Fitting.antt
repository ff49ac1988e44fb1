-- What the rules see to before they add a record to a state.
use Rattle.std.specs.Prelude.{◌≡◌, ◌≤◌, ◌<◌, ◌&&◌, ℕ, Bool, true, false, nat_lt, Option, None, Some, is_some, List}
use Rattle.std.specs.Prelude.{[], ◌∷◌, length, All}
use Rattle.std.specs.List.{list_all}
use Rattle.lks_base.specs.Checking.{has_member}
use Rattle.lks_base.specs.Quorums.{obeys_quorum_rule}
use Rattle.lks_base.specs.declared.limits.TheConstants.{MOST_BLOCKS, MOST_BLOCK_BYTES, MOST_CIRCLE, MOST_REPAIRS}
use Rattle.lks_base.specs.declared.names.Outcome.{Outcome}
use Rattle.lks_base.specs.declared.names.Outcome.TheVariants.{Agreed, Inquorate, Split, NoSupplier}
use Rattle.lks_base.specs.declared.records.Record.{Record}
use Rattle.lks_base.specs.declared.records.Record.TheVariants.{Deposit, PollOpened, Nominated, OuterOpened, VoteIn}
use Rattle.lks_base.specs.declared.records.Record.TheVariants.{Shut, Asked, RepairBad, Replaced, Closed, Overdue}
use Rattle.lks_base.specs.declared.records.Record.TheVariants.{Joined, Committed, Voted, Served, Ended, Tuned}
use Rattle.lks_law.specs.Polls.{Station}
use Rattle.lks_law.specs.Reacting.{verdict_of}
use Rattle.lks_law.specs.State.{Poll, Copy, State, poll_at, copy_at, blocks_at, after}
use Rattle.lks_law.specs.Taking.{Session, Pinned, Cast, Mark, Voter, cast_at}
use Rattle.lks_tally.specs.declared.ballots.Verdict.TheVariants as verdict
use Rattle.lks_voter.specs.Voting.{answer_of}
use Rattle.lks_voter.specs.declared.commitments.Serve.TheVariants.{First}

-- what is true of it, where it is there
abbrev pub Where : {X : Type 0} → Option X → (X → Type 0) → Type 0
Where None P = Unit {0}
Where (Some x) P = P x

-- how many polls and versions are numbered at most
abbrev pub most_numbered : ℕ
most_numbered = 4294967295

-- as many blocks as an AU has
abbrev pub IsCounted : List (List ℕ) → Type 0
IsCounted blocks = (1 ≤ length blocks) × (length blocks ≤ MOST_BLOCKS)

-- each of them no larger than a block may be
abbrev pub AreSmall : List (List ℕ) → Type 0
AreSmall blocks = All (λ (b : List ℕ). length b ≤ MOST_BLOCK_BYTES) blocks

-- both, as of each version of a copy
abbrev pub AreWell : List (List ℕ) → Type 0
AreWell blocks = IsCounted blocks × AreSmall blocks

-- numbers with which a poll may be opened
abbrev pub AreLegal : ℕ → ℕ → Type 0
AreLegal quorum minority = (1 ≤ quorum) × (quorum ≤ MOST_CIRCLE) × (obeys_quorum_rule quorum minority ≡ true)

-- a poll that is closed as agreed is so by its votes
abbrev pub FitsOutcome : Station → State → Poll → Outcome → Type 0
FitsOutcome own s p Agreed = verdict_of own p (blocks_at p.opening.au s.copies) ≡ verdict.Agreed
FitsOutcome own s p Inquorate = Unit {0}
FitsOutcome own s p (Split block) = Unit {0}
FitsOutcome own s p (NoSupplier block) = Unit {0}

-- a vote more of this peer, or for it, can be counted
abbrev pub has_mark_left : Mark → Bool
has_mark_left m = nat_lt m.received most_numbered && nat_lt m.given most_numbered

-- and of every peer
abbrev pub marks_left : Voter → Bool
marks_left v = list_all has_mark_left v.marks

-- a block is a new one for the poller, which may have one more
abbrev pub MayHave : ℕ → Cast → Type 0
MayHave block c = answer_of c.voted.served block c.repairs ≡ First

-- A deposit has blocks, and comes before any poll; a poll is opened on a held AU; a voter of a running one votes once,
-- with a hash for each block; a voter is asked for a block that the AU has, once voting ended and while nobody is
-- waited for; a block that the AU has is replaced; a poll of another is joined on a held AU; a new block is given while
-- more may be; and numbers in force are such that a poll may be opened with them.
abbrev pub Fits : Station → State → Record → Type 0
Fits own s (Deposit au blocks) = IsCounted blocks × (s.polls ≡ []) × AreSmall blocks
Fits own s (PollOpened number au nonce inner tick limits kind) =
    (is_some (copy_at au s.copies) ≡ true) × (length inner ≤ MOST_CIRCLE) × (s.openings < most_numbered)
Fits own s (Nominated number voter nominees) = Unit {0}
Fits own s (OuterOpened number outer) = Unit {0}
Fits own s (VoteIn number voter hashes) =
    (is_some (poll_at number s.polls) ≡ true)
    × Where (poll_at number s.polls)
    (λ p. (has_member p.voters voter ≡ false) × (length hashes ≡ length (blocks_at p.opening.au s.copies)))
    × (marks_left s.voter ≡ true)
Fits own s (Shut number) = Unit {0}
Fits own s (Asked number block voter) =
    Where (poll_at number s.polls)
    (λ p. (p.shut ≡ true) × (p.request ≡ None) × (block < length (blocks_at p.opening.au s.copies)))
Fits own s (RepairBad number block voter) = Unit {0}
Fits own s (Replaced number au block bytes) =
    Where (copy_at au s.copies) (λ c. (block < length c.blocks) × (c.version < most_numbered))
    × (length bytes ≤ MOST_BLOCK_BYTES)
Fits own s (Closed number outcome tick) = Where (poll_at number s.polls) (λ p. FitsOutcome own s p outcome)
Fits own s (Overdue au tick) = Unit {0}
Fits own s (Joined poll au tick low repairs) = is_some (copy_at au s.copies) ≡ true
Fits own s (Committed poll nonce version kind) = Unit {0}
Fits own s (Voted poll hashes) = (length hashes ≤ MOST_BLOCKS) × (marks_left s.voter ≡ true)
Fits own s (Served poll block) = Where (cast_at poll s.voter.cast) (MayHave block)
Fits own s (Ended poll) = Unit {0}
Fits own s (Tuned quorum minority repairs) = AreLegal quorum minority × (repairs ≤ MOST_REPAIRS)

-- each of these records, one after another
abbrev pub AreFitting : Station → State → List Record → Type 0
AreFitting own s [] = Unit {0}
AreFitting own s (r ∷ rs) = Fits own s r × AreFitting own (after own s r) rs

-- the request that is unanswered is for a block that the AU has
abbrev pub AsksWithin : List Copy → Poll → Type 0
AsksWithin copies p = Where p.request (λ r. r.block < length (blocks_at p.opening.au copies))

-- the AU of a session is held
abbrev pub IsOnHeld : List Copy → Session → Type 0
IsOnHeld copies x = is_some (copy_at x.joined.au copies) ≡ true

-- a version that is pinned has as many blocks as an AU has, none of them too large
abbrev pub IsPinnedWell : Pinned → Type 0
IsPinnedWell p = AreWell p.blocks

-- and its vote no more hashes
abbrev pub IsCastWell : Cast → Type 0
IsCastWell c = AreWell c.blocks × (length c.voted.hashes ≤ MOST_BLOCKS)

-- each copy has as many blocks as an AU has, none of them too large; each request of a running poll is for one of them;
-- each session is on a held AU, and what it pins is such a copy; and a poll may be opened with the numbers in force
pub record IsSound (s : State) : Type 0 where
  pub counted : All (λ (c : Copy). IsCounted c.blocks) s.copies
  pub small : All (λ (c : Copy). AreSmall c.blocks) s.copies
  pub asks : All (AsksWithin s.copies) s.polls
  pub held : All (IsOnHeld s.copies) s.voter.sessions
  pub pinned : All IsPinnedWell s.voter.pinned
  pub cast : All IsCastWell s.voter.cast
  pub legal : AreLegal s.numbers.quorum s.numbers.minority
  pub repairs : s.numbers.repairs ≤ MOST_REPAIRS

-- whether a poll, a version and a vote more can be numbered
abbrev pub has_room : State → Bool
has_room s =
    nat_lt s.openings most_numbered && list_all (λ (c : Copy). nat_lt c.version most_numbered) s.copies
    && marks_left s.voter
