-- Blocks of a pool, as contracts see references to them.
use Rattle.std.specs.Prelude.{◌≡◌, ℕ, ◌<◌, List, [], ◌∷◌, ◌++◌, length, map, slice_index_or, slice_set, All}
use Rattle.std.proofs.lemmas.List.Elements.{All-nil, All-push, All-set}

-- the pool that has the block, by the names of its slots, the block's place there, and its bytes
pub record Block : Type 0 where
  pub pool : List ℕ
  pub index : ℕ
  pub bytes : List ℕ

-- the bytes of each block, in order
abbrev pub bytes_of : List Block → List (List ℕ)
bytes_of blocks = map (λ (b : Block). b.bytes) blocks

-- the places of the blocks, in order
abbrev pub indexes_of : List Block → List ℕ
indexes_of blocks = map (λ (b : Block). b.index) blocks

-- each block is of this pool
unfoldable pub AllOf : List ℕ → List Block → Type 0
AllOf pool blocks = All (λ (b : Block). b.pool ≡ pool) blocks

-- of no block, of one more, of another in a place, and of the block in a place
pub all_none : (pool : List ℕ) → AllOf pool []
unfolding AllOf
all_none pool = All-nil (λ (b : Block). b.pool ≡ pool)

pub all_push : (pool : List ℕ) (blocks : List Block) (block : Block) → AllOf pool blocks → block.pool ≡ pool
    → AllOf pool (blocks ++ block ∷ [])
unfolding AllOf
all_push pool blocks block each of = All-push (λ (b : Block). b.pool ≡ pool) blocks block each of

pub all_set : (pool : List ℕ) (blocks : List Block) (place : ℕ) (block : Block) → AllOf pool blocks
    → block.pool ≡ pool → AllOf pool (slice_set blocks place block)
unfolding AllOf
all_set pool blocks place block each of = All-set (λ (b : Block). b.pool ≡ pool) blocks place block of each

pub all_at : (pool : List ℕ) (blocks : List Block) (place : ℕ) (block : Block) → AllOf pool blocks
    → place < length blocks → (slice_index_or blocks place block).pool ≡ pool
unfolding AllOf
all_at pool blocks place block each within = each place block within
