-- How the polls that a peer keeps are seen, and the peer.
use Rattle.std.specs.Prelude.{◌≡◌, ◌<◌, ◌==◌, ℕ, true, false, if◌then◌else◌, Some, List, length, map, get_or, All}
use Rattle.std.specs.List.{position}
use Rattle.lks_base.specs.Checking.{has_member}
use Rattle.lks_law.specs.Fitting.{Where}
use Rattle.lks_law.specs.Polls.{Station}
use Rattle.lks_law.specs.Reacting.{verdict_of}
use Rattle.lks_law.specs.State.{Poll, Copy, poll_at, blocks_at}
use Rattle.lks_audit.specs.Copied.{copies_of}
use Rattle.lks_audit.specs.declared.copies.Held.{Held}
use Rattle.lks_audit.specs.Counted.{IsCountedOn}
use Rattle.lks_poller.specs.Polling.{Polled}
pub use Rattle.lks_poller.specs.Running.{request_of, nomination_of, poll_of}
use Rattle.lks_tally.specs.Keeping.{hashes_forgotten}
use Rattle.lks_tally.specs.declared.ballots.Verdict.TheVariants as verdict

-- the polls
abbrev pub polls_of : List Polled → List Poll
polls_of sessions = map poll_of sessions

-- The running poll of this number, if there is one, hasn't this peer's vote, and its AU has as many blocks as there are
-- hashes.
unfoldable pub MayVote : ℕ → ℕ → List (List ℕ) → List Polled → Type 0
MayVote n voter hashes sessions =
    (i : ℕ) (d : Polled) → position (λ (s : Polled). s.tally.ballot.poll.number == n) sessions ≡ Some i
    → (has_member (get_or sessions i d).voters voter ≡ false)
    × (length hashes ≡ (get_or sessions i d).tally.ballot.count)

-- It is shut, waits for nobody, and its AU has this block.
unfoldable pub MayAsk : ℕ → ℕ → List Polled → Type 0
MayAsk n block sessions =
    (i : ℕ) (d : Polled) → position (λ (s : Polled). s.tally.ballot.poll.number == n) sessions ≡ Some i
    → ((get_or sessions i d).shut ≡ true) × ((get_or sessions i d).suppliers.waiting ≡ false)
    × (block < (get_or sessions i d).tally.ballot.count)

-- the hashes of an AU from block b on are forgotten
abbrev pub forgetting : ℕ → ℕ → Polled → Polled
forgetting au b s = if s.tally.ballot.au == au then record s { tally = hashes_forgotten b s.tally } else s

-- a poll of this peer that runs, over the copy that is held
abbrev pub IsOn : ℕ → List Copy → Polled → Type 0
IsOn id copies s = IsCountedOn id (blocks_at s.tally.ballot.au copies) s

-- whatever copies the polls run over, they still do
unfoldable pub RunsOn : List Polled → List Polled → Type 0
RunsOn old new = (id : ℕ) (copies : List Copy) → All (IsOn id copies) old → All (IsOn id copies) new

-- the running poll of this number, if there is one, is agreed
unfoldable pub AreAgreed : Station → ℕ → List Copy → List Poll → Type 0
AreAgreed own n copies polls =
    Where (poll_at n polls) (λ p. verdict_of own p (blocks_at p.opening.au copies) ≡ verdict.Agreed)

-- whatever polls run over the copies, they run over these too
unfoldable pub RunOver : List Held → List Held → Type 0
RunOver old new =
    (id : ℕ) (sessions : List Polled) → All (IsOn id (copies_of old)) sessions
    → All (IsOn id (copies_of new)) sessions
