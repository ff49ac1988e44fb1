-- The versions of a copy and the pins on them, as contracts see them.
use Rattle.std.specs.Prelude.{◌≡◌, ℕ, ◌-◌, ◌⊎◌, Some, List, [], ◌∷◌, ◌++◌, length, slice_index_or, slice_set}
use Rattle.std.proofs.Common.{inl, inr}
use Rattle.lks_blocks.specs.Block.{Block}
use Rattle.lks_base.specs.declared.names.PollName.{PollName}
use Rattle.lks_versions.specs.declared.versions.Pin.{Pin}
use Rattle.lks_versions.specs.Pins.{pin_of}

-- the blocks of each version from 0 on, and the pins in the order in which they were made
pub record Shelf : Type 0 where
  pub lists : List (List Block)
  pub pins : List Pin

-- the number of the newest version
abbrev pub current_of : Shelf → ℕ
current_of s = length s.lists - 1

-- the blocks of a version
abbrev pub version_of : Shelf → ℕ → List Block
version_of s k = slice_index_or s.lists k []

-- the blocks of the newest version
abbrev pub newest_of : Shelf → List Block
newest_of s = version_of s (current_of s)

-- one version more, which has another block b than the newest
abbrev pub with_replaced : Shelf → ℕ → Block → Shelf
with_replaced s b block = record s { lists = s.lists ++ slice_set (newest_of s) b block ∷ [] }

-- the same, where block b is now one of this pool with these bytes
abbrev pub IsReplaced : List ℕ → Shelf → Shelf → ℕ → List ℕ → Type 0
IsReplaced pool before after b bytes =
    (block : Block) × (block.pool ≡ pool) × (block.bytes ≡ bytes) × (after ≡ with_replaced before b block)

-- the version is the newest, or a session pins it
abbrev pub IsKept : Shelf → ℕ → Type 0
IsKept s k = (k ≡ current_of s) ⊎ ((poll : PollName) × (pin_of poll s.pins ≡ Some k))

pub kept_newest : (s : Shelf) (k : ℕ) → k ≡ current_of s → IsKept s k
kept_newest s k is = inl is

pub kept_pinned : (s : Shelf) (k : ℕ) (poll : PollName) → pin_of poll s.pins ≡ Some k → IsKept s k
kept_pinned s k poll is = inr (poll, is)

-- where the first block stands in its pool
abbrev pub first_index : List Block → ℕ
first_index [] = 0
first_index (b ∷ bs) = b.index
