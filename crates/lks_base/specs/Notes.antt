-- What a note says of its peer's copies and polls.
use Rattle.std.specs.Prelude.{ℕ, Bool, Option, Some, None}
use Rattle.lks_base.specs.declared.entries.Note.{Note}
use Rattle.lks_base.specs.declared.entries.Note.TheVariants.{Opened, Nominated, Outer, VoteIn, Shut, Asked, RepairBad}
use Rattle.lks_base.specs.declared.entries.Note.TheVariants.{Replaced, Closed, Overdue, Joined, Committed, Voted}
use Rattle.lks_base.specs.declared.entries.Note.TheVariants.{Served, Ended, Tuned}
use Rattle.lks_base.specs.declared.names.Outcome.{Outcome}

-- a poll that was opened
pub record OpenedPoll : Type 0 where
  pub number : ℕ
  pub au : ℕ

-- a vote that came in: its poll, and whether it is of the inner circle
pub record VoteCame : Type 0 where
  pub number : ℕ
  pub inner : Bool

-- how a poll ended
pub record Ending : Type 0 where
  pub number : ℕ
  pub outcome : Outcome

-- at most one of these; of a replaced block, and of what is overdue, the AU
pub record Noted : Type 0 where
  pub opened : Option OpenedPoll
  pub voted : Option VoteCame
  pub replaced : Option ℕ
  pub closed : Option Ending
  pub overdue : Option ℕ

abbrev pub nothing : Noted
nothing = record { opened = None; voted = None; replaced = None; closed = None; overdue = None }

abbrev pub noted : Note → Noted
noted (Opened number au) = record nothing { opened = Some (record { number = number; au = au }) }
noted (Nominated number voter) = nothing
noted (Outer number count) = nothing
noted (VoteIn number voter inner) = record nothing { voted = Some (record { number = number; inner = inner }) }
noted (Shut number) = nothing
noted (Asked number block voter) = nothing
noted (RepairBad number block voter) = nothing
noted (Replaced number au block size) = record nothing { replaced = Some au }
noted (Closed number outcome) = record nothing { closed = Some (record { number = number; outcome = outcome }) }
noted (Overdue au) = record nothing { overdue = Some au }
noted (Joined poll au low) = nothing
noted (Committed poll version) = nothing
noted (Voted poll) = nothing
noted (Served poll block) = nothing
noted (Ended poll) = nothing
noted (Tuned quorum minority repairs) = nothing
