-- Which copies a tally's hashes are kept for.
use Rattle.std.proofs.Common.{◌≡◌, ℕ, zero, suc, ◌+◌, ◌*◌, ◌≤◌, min, List, ◌++◌, length, take, refl, ap, sym, ◌∙◌}
use Rattle.std.proofs.Common.{arith, add-one}
use Rattle.std.proofs.lemmas.List.{take-take}
use Rattle.lks_tally.specs.declared.ballots.Ballot.{Ballot}
use Rattle.lks_tally.specs.declared.ballots.Vote.{Vote}
use Rattle.lks_tally.specs.Heads.{heads}
use Rattle.lks_tally.specs.Keeping.{Tallied, IsCacheOf, vote_added, hashes_forgotten}
use Rattle.lks_tally.specs.Rows.{rows_of}
use Rattle.lks_tally.proofs.RowLaws.{rows_take}

-- copies with the same first blocks have the same first ones of these
pub take_fewer : (n m : ℕ) (blocks others : List (List ℕ)) → n ≤ m → take m blocks ≡ take m others
    → take n blocks ≡ take n others
take_fewer n m blocks others fewer same =
    sym (take-take n m blocks fewer) ∙ ap (take n) same ∙ take-take n m others fewer

rows_same : (q : Ballot) (votes : List Vote) (blocks others : List (List ℕ)) (n : ℕ) → take n blocks ≡ take n others
    → rows_of q blocks votes n ≡ rows_of q others votes n
rows_same q votes blocks others zero same = refl
rows_same q votes blocks others (suc n) same =
    let fewer = rows_same q votes blocks others n (take_fewer n (suc n) blocks others (omega arith) same) in
    let first : take (n + 1) blocks ≡ take (n + 1) others = rw add-one same in
    λ i. fewer i ++ heads q (first i) votes

-- so does one that just took a vote
pub cache_voted : (t : Tallied) (vote : Vote) (blocks : List (List ℕ)) → IsCacheOf (vote_added t vote) blocks
cache_voted t vote blocks = refl

-- after forgetting from block b on, a copy serves that has the same blocks before b
pub cache_forgotten : (t : Tallied) (b : ℕ) (blocks others : List (List ℕ)) → IsCacheOf t blocks
    → take b blocks ≡ take b others
    → IsCacheOf (hashes_forgotten b t) others
cache_forgotten t b blocks others cache same =
    ap (take (min b t.kept * length t.votes)) cache
    ∙ rows_take t.ballot blocks t.votes (min b t.kept) t.kept (omega arith)
    ∙ rows_same t.ballot t.votes blocks others (min b t.kept)
    (take_fewer (min b t.kept) b blocks others (omega arith) same)
