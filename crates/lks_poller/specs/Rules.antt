-- How far a poll is, and what a session answers, by the rules of a running poll.
use Rattle.std.specs.Prelude.{◌≡◌, ◌<◌, ℕ, true, false, ◌-◌, if◌then◌else◌, Option, is_some, List, slice_set}
use Rattle.lks_base.specs.declared.names.Outcome.TheVariants as outcome
use Rattle.lks_tally.specs.Counting.{verdict_at, voters_against, voters_for}
use Rattle.lks_tally.specs.Running.{first_unasked, follows, is_request, supplied_by}
use Rattle.lks_tally.specs.declared.ballots.At.{At}
use Rattle.lks_tally.specs.declared.ballots.At.TheVariants as at
use Rattle.lks_tally.specs.declared.ballots.Verdict.{Verdict}
use Rattle.lks_tally.specs.declared.ballots.Verdict.TheVariants.{Inquorate, Agreed, Loss, Split}
use Rattle.lks_poller.specs.Polling.{Polled}
use Rattle.lks_poller.specs.Running.{poll_of}
use Rattle.lks_poller.specs.declared.stages.Answer.{Answer}
use Rattle.lks_poller.specs.declared.stages.Answer.TheVariants.{Replace, Bad, NotAsked}
use Rattle.lks_poller.specs.declared.stages.Next.{Next}
use Rattle.lks_poller.specs.declared.stages.Next.TheVariants.{Close, Ask}
use Rattle.lks_poller.specs.declared.stages.Stage.{Stage}
use Rattle.lks_poller.specs.declared.stages.Stage.TheVariants as stage

-- how far a poll is
abbrev pub stage_of : Polled → Stage
stage_of s =
    if s.closed then stage.Closed
    else (if s.suppliers.waiting then stage.Asking
    else (if s.shut then stage.Shut else (if is_some s.outer then stage.Widened else stage.Inviting)))

-- what is true of a poll at this stage
abbrev pub IsAt : Polled → Stage → Type 0
IsAt s stage.Inviting = (s.shut ≡ false) × (is_some s.outer ≡ false)
IsAt s stage.Widened = (s.shut ≡ false) × (is_some s.outer ≡ true)
IsAt s stage.Shut = (s.shut ≡ true) × (s.closed ≡ false) × (s.suppliers.waiting ≡ false)
IsAt s stage.Asking = (s.suppliers.waiting ≡ true) × (s.shut ≡ true) × (s.closed ≡ false)
IsAt s stage.Closed = s.closed ≡ true

-- the first of the inner voters against the copy at b, in order of their votes, that wasn't asked for it
abbrev pub candidate : Polled → List (List ℕ) → ℕ → Option ℕ
candidate s blocks b = first_unasked (poll_of s) b (voters_against s.tally.ballot s.tally.votes blocks b)

-- what follows from a verdict on these blocks
abbrev pub next_of : Polled → Verdict → List (List ℕ) → Next
next_of s v blocks = follows Close (Close outcome.Inquorate) (λ b. supplied_by Close Ask b (candidate s blocks b)) v

-- whoever is asked is asked for one of so many blocks
abbrev pub AsksWithin : ℕ → Next → Type 0
AsksWithin count (Close outcome) = Unit {0}
AsksWithin count (Ask b voter) = b < count

-- the running hashes of the block at which the copy lost are kept
abbrev pub IsKept : Verdict → ℕ → Type 0
IsKept Inquorate kept = Unit {0}
IsKept Agreed kept = Unit {0}
IsKept (Loss b) kept = b < kept
IsKept (Split b) kept = Unit {0}

-- what the inner votes say at b of the copy with these bytes there
abbrev pub said_on_block : Polled → ℕ → List ℕ → List (List ℕ) → At
said_on_block s b bytes blocks =
    verdict_at s.tally.limits.minority s.tally.ballot s.tally.votes (slice_set blocks b bytes) b

-- the answer to a block with which the votes say this of the copy
abbrev pub judgment : At → Answer
judgment at.Win = Replace
judgment at.Loss = Bad
judgment at.Split = Bad

-- A repair answers the request to its sender for its block. It is taken where the votes are for the copy with it.
abbrev pub answer_of : Polled → ℕ → ℕ → List ℕ → List (List ℕ) → Answer
answer_of s from b bytes blocks =
    if is_request b from (poll_of s).request then judgment (said_on_block s b bytes blocks) else NotAsked

-- the outer voters that are for the copy at its last block
abbrev pub outer_for : Polled → List (List ℕ) → List ℕ
outer_for s blocks = voters_for s.tally.ballot s.outer_votes blocks (s.tally.ballot.count - 1)
