-- The state of a peer: all that its journal says to it, and what one record more makes of that.
use Rattle.std.specs.Prelude.{ℕ, true, false, ◌==◌, ◌+◌, ◌-◌, if◌then◌else◌, Option, Some, None, is_some, List, []}
use Rattle.std.specs.Prelude.{◌∷◌, ◌++◌, slice_set, length, find}
use Rattle.lks_base.specs.declared.names.Numbers.{Numbers}
use Rattle.lks_base.specs.declared.names.Outcome.TheVariants.{Agreed, Inquorate, Split, NoSupplier}
use Rattle.lks_base.specs.declared.plans.Rules.{Rules}
use Rattle.lks_base.specs.declared.records.Record.{Record}
use Rattle.lks_base.specs.declared.records.Record.TheVariants.{Deposit, PollOpened, Nominated, OuterOpened, VoteIn}
use Rattle.lks_base.specs.declared.records.Record.TheVariants.{Shut, Asked, RepairBad, Replaced, Closed, Overdue}
use Rattle.lks_base.specs.declared.records.Record.TheVariants.{Joined, Committed, Voted, Served, Ended, Tuned}
use Rattle.lks_law.specs.Journal.{Opening, Audit, is_opening, agreed_in, numbers_after, later}
use Rattle.lks_law.specs.Polls.{Station, limits_of, ballot_of}
use Rattle.lks_law.specs.References.{picked_friends}
use Rattle.lks_law.specs.Firsts.{changed_first, without_first}
use Rattle.lks_law.specs.Taking.{Voter, newcomer, voter_after}
use Rattle.lks_choice.specs.Lists.{list_after}
use Rattle.lks_tally.specs.Counting.{voters_for, voters_against}
pub use Rattle.lks_tally.specs.Running.{Nomination, Poll, begun_poll, nominated_by, first_circle, widened_to}
pub use Rattle.lks_tally.specs.Running.{voted_by, shut_now, request_sent, request_answered}

-- an AU that is held
pub record Copy : Type 0 where
  pub au : ℕ
  pub blocks : List (List ℕ)
  pub version : ℕ  -- how many blocks were replaced
  pub opened : Option ℕ  -- the latest tick at which a poll on it was opened
  pub audit : Audit

-- what a peer knows
pub record State : Type 0 where
  pub numbers : Numbers  -- those in force
  pub openings : ℕ  -- how many polls were opened
  pub copies : List Copy
  pub polls : List Poll  -- those that run, in order of their openings
  pub refs : List ℕ
  pub voter : Voter  -- its part in polls of others

-- Polls.

-- the opening with the numbers of its poll, which may be the rules'
abbrev pub settled_opening : Rules → Opening → Opening
settled_opening rules o = record o { limits = Some (limits_of rules o) }

-- the running poll of this number
abbrev pub poll_at : ℕ → List Poll → Option Poll
poll_at n ps = find (λ (p : Poll). p.number == n) ps

-- poll n changes: the first of this number
abbrev pub changed_poll : ℕ → (Poll → Poll) → List Poll → List Poll
changed_poll n f ps = changed_first (λ (p : Poll). p.number == n) f ps

-- poll n is gone: the first of this number
abbrev pub without_poll : ℕ → List Poll → List Poll
without_poll n ps = without_first (λ (p : Poll). p.number == n) ps

-- the running polls after a record
abbrev pub polls_after : Rules → Record → List Poll → List Poll
polls_after rules (Deposit au blocks) ps = ps
polls_after rules (PollOpened number au nonce inner tick limits kind) ps =
    ps
    ++ begun_poll number
    (settled_opening rules (record { au = au; nonce = nonce; inner = inner; limits = limits; kind = kind }))
    ∷ []
polls_after rules (Nominated number voter nominees) ps = changed_poll number (nominated_by voter nominees) ps
polls_after rules (OuterOpened number outer) ps = changed_poll number (widened_to outer) ps
polls_after rules (VoteIn number voter hashes) ps =
    changed_poll number (voted_by (record { voter = voter; hashes = hashes })) ps
polls_after rules (Shut number) ps = changed_poll number shut_now ps
polls_after rules (Asked number block voter) ps =
    changed_poll number (request_sent (record { block = block; voter = voter })) ps
polls_after rules (RepairBad number block voter) ps = changed_poll number request_answered ps
polls_after rules (Replaced number au block bytes) ps = changed_poll number request_answered ps
polls_after rules (Closed number outcome tick) ps = without_poll number ps
polls_after rules (Overdue au tick) ps = ps
polls_after rules (Joined poll au tick low repairs) ps = ps
polls_after rules (Committed poll nonce version kind) ps = ps
polls_after rules (Voted poll hashes) ps = ps
polls_after rules (Served poll block) ps = ps
polls_after rules (Ended poll) ps = ps
polls_after rules (Tuned quorum minority repairs) ps = ps

-- Copies.

-- the copy of an AU, if it is held
abbrev pub copy_at : ℕ → List Copy → Option Copy
copy_at au cs = find (λ (c : Copy). c.au == au) cs

-- the blocks of this copy, none where there is none
abbrev pub blocks_in : Option Copy → List (List ℕ)
blocks_in None = []
blocks_in (Some c) = c.blocks

-- the blocks of an AU, none of one that isn't held
abbrev pub blocks_at : ℕ → List Copy → List (List ℕ)
blocks_at au cs = blocks_in (copy_at au cs)

-- a copy with which the peer began
abbrev pub deposited_copy : ℕ → List (List ℕ) → Copy
deposited_copy au blocks =
    record { au = au; blocks = blocks; version = 0; opened = None; audit = record { tick = 0; noted = false } }

-- a poll on it was opened
abbrev pub opened_at : ℕ → Copy → Copy
opened_at tick c = record c { opened = later c.opened tick }

-- a block was replaced
abbrev pub replaced_in : ℕ → List ℕ → Copy → Copy
replaced_in block bytes c = record c { blocks = slice_set c.blocks block bytes; version = c.version + 1 }

-- a poll on it was agreed
abbrev pub agreed_at : ℕ → Copy → Copy
agreed_at tick c = record c { audit = record { tick = tick; noted = false } }

-- it was noted as overdue
abbrev pub noted_overdue : Copy → Copy
noted_overdue c = record c { audit = record { tick = c.audit.tick; noted = true } }

-- the copy of this AU changes
abbrev pub copy_changed : ℕ → (Copy → Copy) → List Copy → List Copy
copy_changed au f cs = changed_first (λ (c : Copy). c.au == au) f cs

-- the copy that the poll was on is agreed
abbrev pub agreed_on : Option Poll → ℕ → List Copy → List Copy
agreed_on None tick cs = cs
agreed_on (Some p) tick cs = copy_changed p.opening.au (agreed_at tick) cs

-- the copies after a record, given the running polls before it
abbrev pub copies_after : List Poll → Record → List Copy → List Copy
copies_after ps (Deposit au blocks) cs = if is_some (copy_at au cs) then cs else cs ++ deposited_copy au blocks ∷ []
copies_after ps (PollOpened number au nonce inner tick limits kind) cs = copy_changed au (opened_at tick) cs
copies_after ps (Nominated number voter nominees) cs = cs
copies_after ps (OuterOpened number outer) cs = cs
copies_after ps (VoteIn number voter hashes) cs = cs
copies_after ps (Shut number) cs = cs
copies_after ps (Asked number block voter) cs = cs
copies_after ps (RepairBad number block voter) cs = cs
copies_after ps (Replaced number au block bytes) cs = copy_changed au (replaced_in block bytes) cs
copies_after ps (Closed number Agreed tick) cs = agreed_on (poll_at number ps) tick cs
copies_after ps (Closed number Inquorate tick) cs = cs
copies_after ps (Closed number (Split block) tick) cs = cs
copies_after ps (Closed number (NoSupplier block) tick) cs = cs
copies_after ps (Overdue au tick) cs = copy_changed au noted_overdue cs
copies_after ps (Joined poll au tick low repairs) cs = cs
copies_after ps (Committed poll nonce version kind) cs = cs
copies_after ps (Voted poll hashes) cs = cs
copies_after ps (Served poll block) cs = cs
copies_after ps (Ended poll) cs = cs
copies_after ps (Tuned quorum minority repairs) cs = cs

-- The reference list.

-- the inner voters of a poll against these blocks at the last one
abbrev pub leavers : Station → Poll → List (List ℕ) → List ℕ
leavers own p blocks =
    voters_against (ballot_of own p.number p.opening (length blocks)) p.inner_votes blocks (length blocks - 1)

-- the outer voters for them there
abbrev pub comers : Station → Poll → List (List ℕ) → List ℕ
comers own p blocks =
    voters_for (ballot_of own p.number p.opening (length blocks)) p.outer_votes blocks (length blocks - 1)

-- This poll is agreed: who was against leaves the list, then who joins and who is picked comes to its end.
abbrev pub refs_agreed : Station → List ℕ → List Copy → Option Poll → List ℕ
refs_agreed own refs cs None = refs
refs_agreed own refs cs (Some p) =
    list_after own.id refs (leavers own p (blocks_at p.opening.au cs)) (comers own p (blocks_at p.opening.au cs))
    (picked_friends own p.number)

-- the list once this poll is agreed, if one is
abbrev pub refs_if : Station → State → Option ℕ → List ℕ
refs_if own s None = s.refs
refs_if own s (Some n) = refs_agreed own s.refs s.copies (poll_at n s.polls)

-- the list after a record
abbrev pub refs_after : Station → State → Record → List ℕ
refs_after own s r = refs_if own s (agreed_in r)

-- The state.

-- after a record
unfoldable pub after : Station → State → Record → State
after own s r =
    record {
      numbers = numbers_after s.numbers r;
      openings = if is_opening r then s.openings + 1 else s.openings;
      copies = copies_after s.polls r s.copies;
      polls = polls_after own.rules r s.polls;
      refs = refs_after own s r;
      voter = voter_after own.rules (λ au. blocks_at au s.copies) r s.voter;
    }

-- after these records, one after another
abbrev pub after_all : Station → State → List Record → State
after_all own s [] = s
after_all own s (r ∷ rs) = after_all own (after own s r) rs

-- of a peer with no records
abbrev pub blank : Station → State
blank own =
    record {
      numbers = record { quorum = own.rules.quorum; minority = own.rules.minority; repairs = own.rules.repairs };
      openings = 0;
      copies = [];
      polls = [];
      refs = own.refs;
      voter = newcomer;
    }

-- what a journal says to its peer
unfoldable pub state_of : Station → List Record → State
state_of own journal = after_all own (blank own) journal
