-- The running hashes that a tally keeps: block after block a row, in it one hash a vote.
use Rattle.std.specs.Prelude.{ℕ, ◌+◌, ◌-◌, ◌*◌, zero, suc, ◌==◌, if◌then◌else◌, List, [], ◌++◌, take, slice_index_or}
use Rattle.lks_tally.specs.declared.ballots.Ballot.{Ballot}
use Rattle.lks_tally.specs.declared.ballots.Vote.{Vote}
use Rattle.lks_tally.specs.Counting.{key_for}
use Rattle.lks_tally.specs.Heads.{heads}

-- the rows of the first n blocks
abbrev pub rows_of : Ballot → List (List ℕ) → List Vote → ℕ → List (List ℕ)
rows_of q blocks votes zero = []
rows_of q blocks votes (suc n) = rows_of q blocks votes n ++ heads q (take (n + 1) blocks) votes

-- in such rows, the running hash of the vote at place i among `width` before block b
abbrev pub head_before : Ballot → ℕ → ℕ → List (List ℕ) → ℕ → ℕ → List ℕ
head_before q voter width hashes b i =
    if b == 0 then key_for q voter else slice_index_or hashes ((b - 1) * width + i) []
