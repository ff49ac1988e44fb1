-- What is true of the circles of polls.
use Rattle.std.specs.Prelude.{◌≡◌, ◌≢◌, ◌≤◌, ℕ, false, Some, List, length, take, slice_get, All, AllPairs}
use Rattle.lks_base.specs.Checking.{has_member}
use Rattle.lks_base.specs.declared.records.Record.{Record}
use Rattle.lks_base.specs.declared.records.Record.TheVariants.{Deposit, PollOpened, Nominated, OuterOpened, VoteIn}
use Rattle.lks_base.specs.declared.records.Record.TheVariants.{Shut, Asked, RepairBad, Replaced, Closed, Overdue}
use Rattle.lks_base.specs.declared.records.Record.TheVariants.{Joined, Committed, Voted, Served, Ended, Tuned}
use Rattle.lks_law.specs.Journal.{Opening, opening_of}
use Rattle.lks_law.specs.Polls.{Station}
use Rattle.lks_law.specs.References.{reference_list}
use Rattle.lks_law.specs.World.{Standing}
use Rattle.lks_choice.specs.Lists.{IsReferenceList}

-- a sample of at most so many peers other than `own`, none of them twice
pub record IsSample (own most : ℕ) (circle : List ℕ) : Type 0 where
  pub few : length circle ≤ most
  pub once : AllPairs ◌≢◌ circle
  pub others : All (λ p. p ≢ own) circle

-- the circle that a record has is a sample, and no peer of an outer circle stands in the inner one
abbrev pub IsCircle : Station → List Record → Record → Type 0
IsCircle own before (PollOpened number au nonce inner tick limits kind) = IsSample own.id own.rules.inner inner
IsCircle own before (OuterOpened number outer) =
    IsSample own.id own.rules.outer outer
    × ((o : Opening) → opening_of number before ≡ Some o → All (λ p. has_member o.inner p ≡ false) outer)
IsCircle own before (Deposit au blocks) = Unit {0}
IsCircle own before (Nominated number voter nominees) = Unit {0}
IsCircle own before (VoteIn number voter hashes) = Unit {0}
IsCircle own before (Shut number) = Unit {0}
IsCircle own before (Asked number block voter) = Unit {0}
IsCircle own before (RepairBad number block voter) = Unit {0}
IsCircle own before (Replaced number au block bytes) = Unit {0}
IsCircle own before (Closed number outcome tick) = Unit {0}
IsCircle own before (Overdue au tick) = Unit {0}
IsCircle own before (Joined poll au tick low repairs) = Unit {0}
IsCircle own before (Committed poll nonce version kind) = Unit {0}
IsCircle own before (Voted poll hashes) = Unit {0}
IsCircle own before (Served poll block) = Unit {0}
IsCircle own before (Ended poll) = Unit {0}
IsCircle own before (Tuned quorum minority repairs) = Unit {0}

-- each circle of a journal is one
abbrev pub HaveCircles : Station → List Record → Type 0
HaveCircles own journal = (i : ℕ) (r : Record) → slice_get journal i ≡ Some r → IsCircle own (take i journal) r

-- the peer's reference list names it not, and nobody twice, and so do its circles, which are no larger than the rules
-- say
pub record Samples (s : Standing) : Type 0 where
  pub list : IsReferenceList s.own.id (reference_list s.own s.journal)
  pub circles : HaveCircles s.own s.journal
