-- The sizes of copies: damaged or not, one has 128 blocks of 512 bytes.
use Rattle.std.proofs.Common.{◌≡◌, ◌*◌, ◌∙◌, ap, refl, ℕ, zero, suc, Bool, true, false, List, [], ◌∷◌, map, length}
use Rattle.std.proofs.Common.{set, arith}
use Rattle.std.specs.Prelude.{◌&&◌, nat_le, if◌then◌else◌}
use Rattle.std.specs.List.{list_all, range_with_len}
use Rattle.std.proofs.lemmas.List.{length-replicate, length-set}
use Rattle.std.proofs.lemmas.List.Sums.{sum_by-cons}
use Rattle.lks_base.specs.Checking.{are_short, bytes_of_blocks}
use Rattle.lks_draw.specs.Words.{Drawn}
use Rattle.lks_drill.specs.Drill.{block_of, whole_copy, is_damaged, blocks_of}
use Rattle.lks_drill.proofs.Drawing.{whole_has_128}

-- each block has 512 bytes
abbrev AreSized : List (List ℕ) → Type 0
AreSized [] = Unit {0}
AreSized (block ∷ blocks) = (length block ≡ 512) × AreSized blocks

sized_block : (byte : ℕ) → length (block_of byte) ≡ 512
unfolding block_of
sized_block byte = length-replicate 512 byte

sized_map : (bytes : List ℕ) → AreSized (map block_of bytes)
sized_map [] = tt
sized_map (byte ∷ bytes) = (sized_block byte, sized_map bytes)

sized_whole : AreSized whole_copy
unfolding whole_copy
sized_whole = sized_map (range_with_len 0 128)

-- one block in the place of another
sized_set : (blocks : List (List ℕ)) (at : ℕ) (block : List ℕ) → length block ≡ 512 → AreSized blocks
    → AreSized (set blocks at block)
sized_set [] at block new old = old
sized_set (b ∷ bs) zero block new old = (new, old.1)
sized_set (b ∷ bs) (suc at) block new old = (old.0, sized_set bs at block new old.1)

pub either : {X : Type 0} (P : X → Type 0) (test : Bool) (x y : X) → P x → P y → P (if test then x else y)
either P true x y at_x at_y = at_x
either P false x y at_x at_y = at_y

sized_copy : (peer : ℕ) (d : Drawn) → AreSized (blocks_of peer d)
unfolding blocks_of
sized_copy peer d =
    either AreSized (is_damaged d) _ _ (sized_set whole_copy _ _ (sized_block _) sized_whole) sized_whole

-- a copy has 128 blocks
pub copy_has_128 : (peer : ℕ) (d : Drawn) → length (blocks_of peer d) ≡ 128
unfolding blocks_of
copy_has_128 peer d =
    either (λ (blocks : List (List ℕ)). length blocks ≡ 128) (is_damaged d) _ _
    (length-set whole_copy _ _ ∙ whole_has_128) whole_has_128

short_blocks : (blocks : List (List ℕ)) → AreSized blocks → list_all (λ b. nat_le (length b) 16384) blocks ≡ true
short_blocks [] sized = refl
short_blocks (b ∷ bs) sized =
    ap (λ n. nat_le n 16384 && list_all (λ b. nat_le (length b) 16384) bs) sized.0 ∙ short_blocks bs sized.1

-- no block of a copy is too long
pub short_copy : (peer : ℕ) (d : Drawn) → are_short (blocks_of peer d) ≡ true
unfolding are_short
short_copy peer d = short_blocks (blocks_of peer d) (sized_copy peer d)

bytes_of_sized : (blocks : List (List ℕ)) → AreSized blocks → bytes_of_blocks blocks ≡ 512 * length blocks
bytes_of_sized [] sized = refl
bytes_of_sized (b ∷ bs) sized =
    let first = sized.0 in
    let rest = bytes_of_sized bs sized.1 in
    sum_by-cons length b bs ∙ omega (arith, first, rest)

-- the bytes of a copy
pub copy_bytes : (peer : ℕ) (d : Drawn) → bytes_of_blocks (blocks_of peer d) ≡ 65536
copy_bytes peer d = bytes_of_sized (blocks_of peer d) (sized_copy peer d) ∙ ap (λ n. 512 * n) (copy_has_128 peer d)
