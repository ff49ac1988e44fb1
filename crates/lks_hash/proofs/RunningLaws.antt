-- What callers need of running hashes: how they grow by a block, and where each stands in a vote.
use Rattle.std.proofs.Common.{◌≡◌, ℕ, zero, suc, ◌+◌, ◌<◌, Bool, List, [], ◌∷◌, ◌++◌, length, take, Some, refl, ap}
use Rattle.std.proofs.Common.{◌∙◌, arith}
use Rattle.std.specs.List.{slice_get}
use Rattle.lks_hash.specs.Running.{linked, running, hashes_of}

-- one more block is one more link
pub running_more : (second : Bool) (key : List ℕ) (blocks : List (List ℕ)) (block : List ℕ)
    → running second key (blocks ++ block ∷ []) ≡ linked second (running second key blocks) block
running_more second key [] block = refl
running_more second key (b ∷ blocks) block = running_more second (linked second key b) blocks block

-- a chain goes on from where another one stopped
pub running_on : (second : Bool) (key : List ℕ) (front back : List (List ℕ))
    → running second key (front ++ back) ≡ running second (running second key front) back
running_on second key [] back = refl
running_on second key (b ∷ front) back = running_on second (linked second key b) front back

-- one more block is one more hash of the vote
pub hashes_more : (second : Bool) (key : List ℕ) (blocks : List (List ℕ)) (block : List ℕ)
    → hashes_of second key (blocks ++ block ∷ [])
    ≡ hashes_of second key blocks ++ linked second (running second key blocks) block ∷ []
hashes_more second key [] block = refl
hashes_more second key (b ∷ blocks) block =
    ap (λ hs. linked second key b ∷ hs) (hashes_more second (linked second key b) blocks block)

-- the hashes of more blocks begin with those of the first ones
pub hashes_on : (second : Bool) (key : List ℕ) (front back : List (List ℕ))
    → hashes_of second key (front ++ back)
    ≡ hashes_of second key front ++ hashes_of second (running second key front) back
hashes_on second key [] back = refl
hashes_on second key (b ∷ front) back =
    ap (λ hs. linked second key b ∷ hs) (hashes_on second (linked second key b) front back)

-- a vote has one hash a block
pub hashes_length : (second : Bool) (key : List ℕ) (blocks : List (List ℕ))
    → length (hashes_of second key blocks) ≡ length blocks
hashes_length second key [] = refl
hashes_length second key (b ∷ blocks) = ap suc (hashes_length second (linked second key b) blocks)

-- the hash at a block is the running hash after it
pub hash_at : (second : Bool) (key : List ℕ) (blocks : List (List ℕ)) (i : ℕ) → i < length blocks
    → slice_get (hashes_of second key blocks) i ≡ Some (running second key (take (i + 1) blocks))
hash_at second key [] i within = absurd (omega arith)
hash_at second key (b ∷ blocks) zero within = refl
hash_at second key (b ∷ blocks) (suc i) within =
    let one_on : suc (i + 1) ≡ suc i + 1 = omega arith in
    hash_at second (linked second key b) blocks i (omega arith)
    ∙ ap (λ n. Some (running second key (take n (b ∷ blocks)))) one_on

-- the first hashes are those of the first blocks
pub hashes_take : (second : Bool) (key : List ℕ) (blocks : List (List ℕ)) (i : ℕ)
    → take i (hashes_of second key blocks) ≡ hashes_of second key (take i blocks)
hashes_take second key blocks zero = refl
hashes_take second key [] (suc i) = refl
hashes_take second key (b ∷ blocks) (suc i) =
    ap (λ hs. linked second key b ∷ hs) (hashes_take second (linked second key b) blocks i)
