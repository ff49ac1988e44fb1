-- For how many blocks each running poll keeps the running hashes of its votes.
use Rattle.std.specs.Prelude.{ℕ, Bool, ◌==◌, if◌then◌else◌, min, Option, None, Some, option_map, List, length, map}
use Rattle.std.specs.Prelude.{find}
use Rattle.lks_law.specs.Polls.{Station}
use Rattle.lks_law.specs.Reacting.{verdict_of}
use Rattle.lks_law.specs.Firsts.{changed_first, without_first}
use Rattle.lks_law.specs.State.{Copy, Poll, blocks_at}
use Rattle.lks_poller.specs.Polling.{Polled}
use Rattle.lks_tally.specs.Keeping.{kept_after}
use Rattle.lks_tally.specs.Running.{may_tally}

-- a running poll's number and AU, and for how many blocks, from the first one on, its running hashes are kept
pub record Kept : Type 0 where
  pub number : ℕ
  pub au : ℕ
  pub count : ℕ

abbrev pub kept_in : Polled → Kept
kept_in s = record { number = s.tally.ballot.poll.number; au = s.tally.ballot.au; count = s.tally.kept }

-- those of all polls
abbrev pub kept_of : List Polled → List Kept
kept_of sessions = map kept_in sessions

-- the count of the running poll of this number
abbrev pub kept_at : ℕ → List Kept → Option ℕ
kept_at n ks = option_map (λ (k : Kept). k.count) (find (λ (k : Kept). k.number == n) ks)

-- with another count
abbrev pub with_count : (ℕ → ℕ) → Kept → Kept
with_count f k = record k { count = f k.count }

-- the count of poll n changes
abbrev pub kept_changed : ℕ → (ℕ → ℕ) → List Kept → List Kept
kept_changed n f ks = changed_first (λ (k : Kept). k.number == n) (with_count f) ks

-- poll n is gone
abbrev pub without_kept : ℕ → List Kept → List Kept
without_kept n ks = without_first (λ (k : Kept). k.number == n) ks

-- a vote came for poll n: a vote that is counted leaves nothing kept
abbrev pub kept_voted : ℕ → Bool → List Kept → List Kept
kept_voted n inner ks = if inner then kept_changed n (λ count. 0) ks else ks

-- block b of an AU changed: nothing is kept from there on
abbrev pub kept_before : ℕ → ℕ → Kept → Kept
kept_before au b k = if k.au == au then with_count (min b) k else k

-- how many a poll keeps once its votes were counted over these blocks, where they may be
abbrev pub kept_over : Station → List (List ℕ) → Poll → ℕ → ℕ
kept_over own blocks p count = if may_tally p then kept_after (verdict_of own p blocks) count (length blocks) else count

-- over the copy that is held
abbrev pub kept_tallied : Station → List Copy → Poll → ℕ → ℕ
kept_tallied own copies p count = kept_over own (blocks_at p.opening.au copies) p count

-- the votes of poll n are counted, if it runs
abbrev pub kept_by_tally : Station → List Copy → ℕ → Option Poll → List Kept → List Kept
kept_by_tally own copies n None ks = ks
kept_by_tally own copies n (Some p) ks = kept_changed n (kept_tallied own copies p) ks
