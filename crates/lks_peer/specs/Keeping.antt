-- For how many blocks a peer's running polls keep running hashes, before and after each record and each step.
use Rattle.std.specs.Prelude.{◌≡◌, ◌<◌, ℕ, List, [], ◌∷◌, ◌++◌, map, Some}
use Rattle.lks_audit.specs.Kept.{Kept, kept_at, kept_before, kept_by_tally, kept_voted, without_kept}
use Rattle.lks_base.specs.declared.reactions.Input.{Input}
use Rattle.lks_base.specs.declared.reactions.Input.TheVariants.{OpenPoll, Widen, Tally, Nudge, GiveUp, Work, Expire}
use Rattle.lks_base.specs.declared.reactions.Input.TheVariants.{Check, Tune, Got}
use Rattle.lks_base.specs.declared.reactions.Input.TheVariants as input
use Rattle.lks_base.specs.declared.records.Record.{Record}
use Rattle.lks_base.specs.declared.records.Record.TheVariants.{Deposit, PollOpened, Nominated, OuterOpened, VoteIn}
use Rattle.lks_base.specs.declared.records.Record.TheVariants.{Shut, Asked, RepairBad, Replaced, Closed, Overdue}
use Rattle.lks_base.specs.declared.records.Record.TheVariants.{Joined, Committed, Voted, Served, Ended, Tuned}
use Rattle.lks_law.specs.Polls.{Station}
use Rattle.lks_law.specs.State.{Poll, State, after, poll_at}
use Rattle.lks_law.specs.Turning.{has_inner_of}

-- polls that keep nothing
abbrev pub nothing_kept : List Poll → List Kept
nothing_kept polls = map (λ (p : Poll). record { number = p.number; au = p.opening.au; count = 0 }) polls

-- What a record makes of the counts, where these polls ran before it. A poll begins with nothing kept, a vote of its
-- inner circle leaves nothing, and of an AU of which a block changed nothing is kept from that block on.
abbrev pub kept_after : List Poll → Record → List Kept → List Kept
kept_after ps (Deposit au blocks) ks = ks
kept_after ps (PollOpened number au nonce inner tick limits kind) ks =
    ks ++ record { number = number; au = au; count = 0 } ∷ []
kept_after ps (Nominated number voter nominees) ks = ks
kept_after ps (OuterOpened number outer) ks = ks
kept_after ps (VoteIn number voter hashes) ks = kept_voted number (has_inner_of (poll_at number ps) voter) ks
kept_after ps (Shut number) ks = ks
kept_after ps (Asked number block voter) ks = ks
kept_after ps (RepairBad number block voter) ks = ks
kept_after ps (Replaced number au block bytes) ks = map (kept_before au block) ks
kept_after ps (Closed number outcome tick) ks = without_kept number ks
kept_after ps (Overdue au tick) ks = ks
kept_after ps (Joined poll au tick low repairs) ks = ks
kept_after ps (Committed poll nonce version kind) ks = ks
kept_after ps (Voted poll hashes) ks = ks
kept_after ps (Served poll block) ks = ks
kept_after ps (Ended poll) ks = ks
kept_after ps (Tuned quorum minority repairs) ks = ks

-- after these records, one after another
abbrev pub kept_after_all : Station → State → List Record → List Kept → List Kept
kept_after_all own s [] ks = ks
kept_after_all own s (r ∷ rs) ks = kept_after_all own (after own s r) rs (kept_after s.polls r ks)

-- What a peer in this state makes of the counts when it decides what to add: it counts votes at a tally alone.
abbrev pub kept_deciding : Station → State → Input → List Kept → List Kept
kept_deciding own s (OpenPoll au) ks = ks
kept_deciding own s (Widen n) ks = ks
kept_deciding own s (input.Shut n) ks = ks
kept_deciding own s (Tally n) ks = kept_by_tally own s.copies n (poll_at n s.polls) ks
kept_deciding own s (Nudge n) ks = ks
kept_deciding own s (GiveUp n) ks = ks
kept_deciding own s (Work poll) ks = ks
kept_deciding own s (Expire poll) ks = ks
kept_deciding own s Check ks = ks
kept_deciding own s (Tune quorum minority repairs) ks = ks
kept_deciding own s (Got from m judged) ks = ks

-- the poll of this number runs, and keeps hashes of this block
abbrev pub KeepsBlock : ℕ → ℕ → List Kept → Type 0
KeepsBlock n b ks = (count : ℕ) × (kept_at n ks ≡ Some count) × (b < count)

-- What a step of a peer in this state makes of the counts, which adds these records. A tally that asks for a block
-- keeps its hashes, and one that adds nothing leaves all counts.
pub record Keeps (own : Station) (s : State) (i : Input) (records : List Record) (old new : List Kept) : Type 0 where
  pub after : new ≡ kept_after_all own s records (kept_deciding own s i old)
  pub asked : (n m b voter : ℕ) → i ≡ Tally n → records ≡ Asked m b voter ∷ [] → KeepsBlock n b new
  pub idle : (n : ℕ) → i ≡ Tally n → records ≡ [] → new ≡ old
