-- The running hashes of a vote: each is the hash of the one before it and of the bytes of a block.
use Rattle.std.specs.Prelude.{ℕ, Bool, List, [], ◌∷◌, ◌++◌}
use Rattle.lks_hash.specs.Hashes.{hash_of}

-- how far a chain has come: its kind of hash, and its last running hash, or its key where it has no block yet
pub record Progress : Type 0 where
  pub second : Bool
  pub last : List ℕ

-- one link: the hash of the running hash so far and the next block
abbrev pub linked : Bool → List ℕ → List ℕ → List ℕ
linked second last block = hash_of second (last ++ block)

-- the running hash after all of these blocks
abbrev pub running : Bool → List ℕ → List (List ℕ) → List ℕ
running second key [] = key
running second key (block ∷ blocks) = running second (linked second key block) blocks

-- the running hash after each of these blocks: the hashes of a vote
abbrev pub hashes_of : Bool → List ℕ → List (List ℕ) → List (List ℕ)
hashes_of second key [] = []
hashes_of second key (block ∷ blocks) = linked second key block ∷ hashes_of second (linked second key block) blocks
