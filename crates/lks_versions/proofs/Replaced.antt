-- The newest version after a replacement, and the bytes of its blocks.
use Rattle.std.proofs.Common.{◌≡◌, ℕ, ◌-◌, List, [], ◌∷◌, ◌++◌, length, get_or, ap, refl, ◌∙◌, length-append, arith}
use Rattle.std.specs.Prelude.{slice_set}
use Rattle.std.proofs.lemmas.List.{get_or-append_right}
use Rattle.lks_blocks.specs.Block.{Block, bytes_of}
use Rattle.lks_blocks.proofs.Bytes.{bytes_set}
use Rattle.lks_versions.specs.Shelf.{Shelf, newest_of, with_replaced}

last_of : (lists : List (List Block)) (list : List Block)
    → get_or (lists ++ list ∷ []) (length (lists ++ list ∷ []) - 1) [] ≡ list
last_of lists list =
    let last : ℕ = length (lists ++ list ∷ []) - 1 in
    let here : last - length lists ≡ 0 = omega (arith, length-append lists (list ∷ [])) in
    get_or-append_right lists (list ∷ []) (length lists) last [] refl
    (omega (arith, length-append lists (list ∷ [])))
    ∙ ap (λ k. get_or (list ∷ []) k []) here

pub newest_replaced : (s : Shelf) (b : ℕ) (block : Block)
    → newest_of (with_replaced s b block) ≡ slice_set (newest_of s) b block
newest_replaced s b block = last_of s.lists (slice_set (newest_of s) b block)

pub bytes_replaced : (old new : Shelf) (b : ℕ) (block : Block) (bytes : List ℕ) → new ≡ with_replaced old b block
    → block.bytes ≡ bytes
    → bytes_of (newest_of new) ≡ slice_set (bytes_of (newest_of old)) b bytes
bytes_replaced old new b block bytes is same =
    ap (λ s. bytes_of (newest_of s)) is ∙ ap bytes_of (newest_replaced old b block)
    ∙ bytes_set (newest_of old) b block ∙ ap (slice_set (bytes_of (newest_of old)) b) same
