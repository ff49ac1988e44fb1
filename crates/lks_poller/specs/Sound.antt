-- What is true of each poll that its poller runs.
use Rattle.std.specs.Prelude.{◌≡◌, ◌<◌, ◌≤◌, ℕ, Bool, true, false, ◌||◌, Some, length}
use Rattle.lks_base.specs.Checking.{has_member}
use Rattle.lks_base.specs.declared.limits.TheConstants.{MOST_CIRCLE}
use Rattle.lks_choice.specs.Asking.{awaited_request}
use Rattle.lks_tally.specs.Distinct.{AreDistinct}
use Rattle.lks_tally.specs.Keeping as keeping
use Rattle.lks_tally.specs.Keeping.{IsReserved}
use Rattle.lks_poller.specs.Polling.{Polled}

-- whether one of the votes is of this peer
abbrev pub is_voter : Polled → ℕ → Bool
is_voter s v = keeping.has_vote_of s.tally.votes v || keeping.has_vote_of s.outer_votes v

-- An inner circle that is no larger than a circle may be, with room for its votes; votes of distinct voters, each
-- counted exactly where its voter is an inner one; voters that are those of the votes. Blocks are asked for once voting
-- ended, and are among those that the AU has.
pub record IsSound (s : Polled) : Type 0 where
  pub few : length s.inner ≤ MOST_CIRCLE
  pub reserved : IsReserved s.tally
  pub blocks : 1 ≤ s.tally.ballot.count
  pub distinct : AreDistinct s.tally.votes
  pub of_inner : (v : ℕ) → keeping.has_vote_of s.tally.votes v ≡ true → has_member s.inner v ≡ true
  pub of_outer : (v : ℕ) → keeping.has_vote_of s.outer_votes v ≡ true → has_member s.inner v ≡ false
  pub noted : (v : ℕ) → has_member s.voters v ≡ is_voter s v
  pub over : s.closed ≡ true → s.shut ≡ true
  pub asking : s.suppliers.waiting ≡ true → s.shut ≡ true
  pub within : (b v : ℕ) → awaited_request s.suppliers ≡ Some (b, v) → b < s.tally.ballot.count
