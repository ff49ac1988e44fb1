-- The verdict of a poll, by counting the votes for and against each block of a copy.
use Rattle.std.specs.Prelude.{◌≡◌, ◌<◌, ℕ, Bool, false, not, ◌==◌, ◌+◌, ◌-◌, nat_le, if◌then◌else◌, zero, suc, Option}
use Rattle.std.specs.Prelude.{Some, None, List, length, take, slice_get, count_by, filter, map}
use Rattle.std.specs.Cmp.Lexicographic.{pointwise}
use Rattle.lks_base.specs.Kinds.{is_second}
use Rattle.lks_hash.specs.Hashes.{key_of}
use Rattle.lks_hash.specs.Running.{running}
use Rattle.lks_tally.specs.declared.ballots.Ballot.{Ballot}
use Rattle.lks_tally.specs.declared.ballots.Vote.{Vote}
use Rattle.lks_tally.specs.declared.ballots.At.{At}
use Rattle.lks_tally.specs.declared.ballots.At.TheVariants as at
use Rattle.lks_tally.specs.declared.ballots.Verdict.{Verdict}
use Rattle.lks_tally.specs.declared.ballots.Verdict.TheVariants.{Inquorate, Agreed, Loss, Split}
use Rattle.lks_tally.specs.PollRules.{is_inquorate}

-- the key under which a voter votes
abbrev pub key_for : Ballot → ℕ → List ℕ
key_for q voter = key_of (is_second q.kind) q.poll.poller q.poll.number q.nonce voter q.au q.count

-- the voter's running hash over blocks 0 to b
abbrev pub hash_at : Ballot → List (List ℕ) → ℕ → ℕ → List ℕ
hash_at q blocks b voter = running (is_second q.kind) (key_for q voter) (take (b + 1) blocks)

-- whether the hash that was found, if any, is this one
abbrev pub is_hash : Option (List ℕ) → List ℕ → Bool
is_hash None hash = false
is_hash (Some found) hash = pointwise ◌==◌ found hash

-- whether a vote is for these blocks at b: its hash there is the blocks' own
abbrev pub agrees : Ballot → List (List ℕ) → ℕ → Vote → Bool
agrees q blocks b v = is_hash (slice_get v.hashes b) (hash_at q blocks b v.voter)

-- how many votes are for these blocks at b
abbrev pub for_at : Ballot → List Vote → List (List ℕ) → ℕ → ℕ
for_at q votes blocks b = count_by (agrees q blocks b) votes

-- how many votes are against them
abbrev pub against_at : Ballot → List Vote → List (List ℕ) → ℕ → ℕ
against_at q votes blocks b = length votes - for_at q votes blocks b

-- the voters against these blocks at b, in order of their votes
abbrev pub voters_against : Ballot → List Vote → List (List ℕ) → ℕ → List ℕ
voters_against q votes blocks b = map (λ v. v.voter) (filter (λ v. not (agrees q blocks b v)) votes)

-- those for them
abbrev pub voters_for : Ballot → List Vote → List (List ℕ) → ℕ → List ℕ
voters_for q votes blocks b = map (λ v. v.voter) (filter (agrees q blocks b) votes)

-- a landslide has at most `minority` votes on the losing side
abbrev pub landslide : ℕ → ℕ → ℕ → At
landslide minority votes_for votes_against =
    if nat_le votes_against minority then at.Win else (if nat_le votes_for minority then at.Loss else at.Split)

-- what the votes say of these blocks at b
abbrev pub verdict_at : ℕ → Ballot → List Vote → List (List ℕ) → ℕ → At
verdict_at minority q votes blocks b = landslide minority (for_at q votes blocks b) (against_at q votes blocks b)

-- a block that isn't a win decides; after a win the rest does
abbrev pub decided_at : At → ℕ → Verdict → Verdict
decided_at at.Win b rest = rest
decided_at at.Loss b rest = Loss b
decided_at at.Split b rest = Split b

-- the verdict on n blocks from b on
abbrev pub first_from : ℕ → Ballot → List Vote → List (List ℕ) → ℕ → ℕ → Verdict
first_from minority q votes blocks b zero = Agreed
first_from minority q votes blocks b (suc n) =
    decided_at (verdict_at minority q votes blocks b) b (first_from minority q votes blocks (b + 1) n)

-- the verdict on the copy that has these blocks
unfoldable pub verdict_on : ℕ → ℕ → Ballot → List Vote → List (List ℕ) → Verdict
verdict_on quorum minority q votes blocks =
    if is_inquorate (length votes) quorum then Inquorate else first_from minority q votes blocks 0 (length blocks)

-- b is the first block that isn't a win, and this is what the votes say there
pub record IsFirst (minority : ℕ) (q : Ballot) (votes : List Vote) (blocks : List (List ℕ)) (said : At)
    (b : ℕ) : Type 0 where
  pub within : b < length blocks
  pub here : verdict_at minority q votes blocks b ≡ said
  pub before : (k : ℕ) → k < b → verdict_at minority q votes blocks k ≡ at.Win
