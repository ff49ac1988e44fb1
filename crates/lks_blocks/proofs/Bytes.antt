-- The bytes of lists of blocks: of as many blocks, of one more, of another in a place, and of the block in a place.
use Rattle.std.proofs.Common.{◌≡◌, ℕ, ◌<◌, Some, List, [], ◌∷◌, ◌++◌, length, ap, ◌∙◌}
use Rattle.std.specs.Prelude.{option_map, slice_get, slice_index_or, slice_set}
use Rattle.std.proofs.lemmas.List.{length-map, map-set, map_push, get_or-map}
use Rattle.std.proofs.lemmas.Option.{slice_get-map, slice_get-get_or}
use Rattle.lks_blocks.specs.Block.{Block, bytes_of}

pub bytes_count : (blocks : List Block) → length (bytes_of blocks) ≡ length blocks
bytes_count blocks = length-map blocks (λ (b : Block). b.bytes)

pub bytes_push : (blocks : List Block) (block : Block)
    → bytes_of (blocks ++ block ∷ []) ≡ bytes_of blocks ++ block.bytes ∷ []
bytes_push blocks block = map_push (λ (b : Block). b.bytes) blocks block

pub bytes_set : (blocks : List Block) (place : ℕ) (block : Block)
    → bytes_of (slice_set blocks place block) ≡ slice_set (bytes_of blocks) place block.bytes
bytes_set blocks place block = map-set (λ (b : Block). b.bytes) blocks place block

pub bytes_at : (blocks : List Block) (place : ℕ) (block : Block) (other : List ℕ) → place < length blocks
    → slice_index_or (bytes_of blocks) place other ≡ (slice_index_or blocks place block).bytes
bytes_at blocks place block other within = get_or-map (λ (b : Block). b.bytes) blocks place block other within

pub bytes_got : (blocks : List Block) (place : ℕ) (block : Block) → place < length blocks
    → slice_get (bytes_of blocks) place ≡ Some (slice_index_or blocks place block).bytes
bytes_got blocks place block within =
    slice_get-map (λ (b : Block). b.bytes) blocks place
    ∙ ap (option_map (λ (b : Block). b.bytes)) (slice_get-get_or blocks place block within)
