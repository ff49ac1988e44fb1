-- What contracts see of a tally.
use Rattle.std.specs.Prelude.{◌≡◌, ℕ, ◌*◌, ◌≤◌, ◌+◌, min, max, Bool, ◌==◌, List, [], ◌∷◌, ◌++◌, length, take}
use Rattle.std.specs.List.{list_any}
use Rattle.lks_base.specs.declared.limits.TheConstants.{MOST_CIRCLE}
use Rattle.lks_base.specs.declared.names.Limits.{Limits}
use Rattle.lks_tally.specs.declared.ballots.Ballot.{Ballot}
use Rattle.lks_tally.specs.declared.ballots.Vote.{Vote}
use Rattle.lks_tally.specs.declared.ballots.Verdict.{Verdict}
use Rattle.lks_tally.specs.declared.ballots.Verdict.TheVariants.{Inquorate, Agreed, Loss, Split}
use Rattle.lks_tally.specs.Rows.{rows_of}

-- a poll's votes; for how many blocks the running hashes of all votes are kept, and these; and for how many hashes and
-- votes there is room
pub record Tallied : Type 0 where
  pub ballot : Ballot
  pub limits : Limits
  pub votes : List Vote
  pub kept : ℕ
  pub hashes : List (List ℕ)
  pub room : ℕ
  pub vote_room : ℕ

-- the hashes that are kept are those over these blocks
abbrev pub IsCacheOf : Tallied → List (List ℕ) → Type 0
IsCacheOf t blocks = t.hashes ≡ rows_of t.ballot blocks t.votes t.kept

-- there is room for as many votes as an inner circle casts at most, and for their hashes
abbrev pub IsReserved : Tallied → Type 0
IsReserved t = (MOST_CIRCLE * t.ballot.count ≤ t.room) × (MOST_CIRCLE ≤ t.vote_room)

-- no room is lost
abbrev pub KeepsRooms : Tallied → Tallied → Type 0
KeepsRooms old new = (old.room ≤ new.room) × (old.vote_room ≤ new.vote_room)

-- the same but for the rooms, which are those of u
abbrev pub roomed_as : Tallied → Tallied → Tallied
roomed_as u t = record t { room = u.room; vote_room = u.vote_room }

-- the same poll with the same numbers and votes
abbrev pub IsSame : Tallied → Tallied → Type 0
IsSame t u = (t.ballot ≡ u.ballot) × (t.limits ≡ u.limits) × (t.votes ≡ u.votes)

-- whether one of the votes is of this voter
abbrev pub has_vote_of : List Vote → ℕ → Bool
has_vote_of votes voter = list_any (λ v. v.voter == voter) votes

-- one vote more, and nothing kept
abbrev pub vote_added : Tallied → Vote → Tallied
vote_added t vote = record t { votes = t.votes ++ vote ∷ []; kept = 0; hashes = [] }

-- nothing kept from block b on
abbrev pub hashes_forgotten : ℕ → Tallied → Tallied
hashes_forgotten b t = record t { kept = min b t.kept; hashes = take (min b t.kept * length t.votes) t.hashes }

-- for how many of `count` blocks hashes are kept after a verdict
abbrev pub kept_after : Verdict → ℕ → ℕ → ℕ
kept_after Inquorate kept count = kept
kept_after Agreed kept count = count
kept_after (Loss b) kept count = max kept (b + 1)
kept_after (Split b) kept count = max kept (b + 1)
