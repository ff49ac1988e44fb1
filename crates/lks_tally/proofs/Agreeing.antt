-- Which votes are for a copy, and how many.
use Rattle.std.proofs.Common.{◌≡◌, ℕ, ◌+◌, ◌<◌, true, List, length, take, Option, Some, None, refl, ap, ◌∙◌}
use Rattle.std.specs.List.{slice_get}
use Rattle.std.specs.Cmp.Lexicographic.{bytes_decides}
use Rattle.std.proofs.lemmas.Bool.{false≢true}
use Rattle.lks_base.specs.Kinds.{is_second}
use Rattle.lks_hash.specs.Running.{running, hashes_of}
use Rattle.lks_hash.proofs.RunningLaws.{hash_at as own_hash_at}
use Rattle.lks_tally.specs.declared.ballots.Ballot.{Ballot}
use Rattle.lks_tally.specs.declared.ballots.Vote.{Vote}
use Rattle.lks_tally.specs.Counting.{key_for, hash_at, is_hash, agrees}

-- a hash is there exactly where the test says so
pub is_hash_own : (hash : List ℕ) → is_hash (Some hash) hash ≡ true
is_hash_own hash = (bytes_decides hash hash).1 refl

pub is_hash_some : (found : Option (List ℕ)) (hash : List ℕ) → is_hash found hash ≡ true → found ≡ Some hash
is_hash_some None hash same = absurd (false≢true same)
is_hash_some (Some found) hash same = ap Some ((bytes_decides found hash).0 same)

-- an agreeing vote has the copy's own running hash
pub agrees_hash : (q : Ballot) (blocks : List (List ℕ)) (b : ℕ) (v : Vote) → agrees q blocks b v ≡ true
    → slice_get v.hashes b ≡ Some (hash_at q blocks b v.voter)
agrees_hash q blocks b v same = is_hash_some (slice_get v.hashes b) (hash_at q blocks b v.voter) same

pub hash_agrees : (q : Ballot) (blocks : List (List ℕ)) (b : ℕ) (v : Vote)
    → slice_get v.hashes b ≡ Some (hash_at q blocks b v.voter)
    → agrees q blocks b v ≡ true
hash_agrees q blocks b v found =
    ap (λ h. is_hash h (hash_at q blocks b v.voter)) found ∙ is_hash_own (hash_at q blocks b v.voter)

-- a vote over a copy is for each copy with the same blocks up to b
pub agrees_same : (q : Ballot) (own blocks : List (List ℕ)) (b : ℕ) (v : Vote)
    → v.hashes ≡ hashes_of (is_second q.kind) (key_for q v.voter) own
    → b < length own → take (b + 1) own ≡ take (b + 1) blocks → agrees q blocks b v ≡ true
agrees_same q own blocks b v hashes within same =
    hash_agrees q blocks b v
    (ap (λ hs. slice_get hs b) hashes ∙ own_hash_at (is_second q.kind) (key_for q v.voter) own b within
    ∙ ap (λ bs. Some (running (is_second q.kind) (key_for q v.voter) bs)) same)
