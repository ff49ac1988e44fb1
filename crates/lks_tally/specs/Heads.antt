-- The running hashes of all voters of a poll side by side, and the votes that have them.
use Rattle.std.specs.Prelude.{ℕ, ◌+◌, cond, List, [], ◌∷◌, ◌++◌, map, slice_get}
use Rattle.lks_base.specs.Kinds.{is_second}
use Rattle.lks_hash.specs.Running.{running}
use Rattle.lks_tally.specs.declared.ballots.Ballot.{Ballot}
use Rattle.lks_tally.specs.declared.ballots.Vote.{Vote}
use Rattle.lks_tally.specs.Counting.{key_for, is_hash}

-- the voters' running hashes after these blocks
abbrev pub heads : Ballot → List (List ℕ) → List Vote → List (List ℕ)
heads q blocks votes = map (λ v. running (is_second q.kind) (key_for q v.voter) blocks) votes

-- the keys of all voters: their running hashes before the first block
abbrev pub keys_of : Ballot → List Vote → List (List ℕ)
keys_of q votes = map (λ v. key_for q v.voter) votes

-- how many votes have the hash beside them at b
abbrev pub matching : ℕ → List Vote → List (List ℕ) → ℕ
matching b [] hashes = 0
matching b (v ∷ vs) [] = 0
matching b (v ∷ vs) (h ∷ hs) = cond (is_hash (slice_get v.hashes b) h) 1 0 + matching b vs hs

-- the voters of the votes that have it
abbrev pub holders : ℕ → List Vote → List (List ℕ) → List ℕ
holders b [] hashes = []
holders b (v ∷ vs) [] = []
holders b (v ∷ vs) (h ∷ hs) = cond (is_hash (slice_get v.hashes b) h) (v.voter ∷ []) [] ++ holders b vs hs

-- the voters of the votes that have not
abbrev pub others : ℕ → List Vote → List (List ℕ) → List ℕ
others b [] hashes = []
others b (v ∷ vs) [] = []
others b (v ∷ vs) (h ∷ hs) = cond (is_hash (slice_get v.hashes b) h) [] (v.voter ∷ []) ++ others b vs hs
