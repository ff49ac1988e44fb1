-- A version that may be asked for is there, and has as many blocks as each.
use Rattle.std.proofs.Common.{◌≡◌, ℕ, ◌<◌, ◌≤◌, inl, inr, List, [], ◌∷◌, length, ap, ◌∙◌, subst, sym, length-set, arith}
use Rattle.std.specs.Prelude.{slice_index_or, slice_set}
use Rattle.lks_blocks.specs.Block.{Block}
use Rattle.lks_versions.specs.declared.versions.Pin.{Pin}
use Rattle.lks_versions.specs.Shelf.{Shelf, IsKept}
use Rattle.lks_versions.specs.Whole.{IsWhole, IsCounted, deposit_of}
use Rattle.lks_versions.proofs.PinLaws.{pin_of-within}

kept_in : (s : Shelf) (k : ℕ) → IsKept s k → 0 < length s.lists → IsWhole s.lists s.pins → k < length s.lists
kept_in s k (inl is) some whole = omega arith
kept_in s k (inr pinned) some whole = pin_of-within pinned.0 (length s.lists) k s.pins whole.there pinned.1

pub kept_within : (s : Shelf) (k : ℕ) (deposit : List Block) (later : List (List Block)) (pins : List Pin)
    → record { lists = deposit ∷ later; pins = pins } ≡ s
    → IsKept s k → IsWhole (deposit ∷ later) pins → k ≤ length later
kept_within s k deposit later pins is kept whole =
    let seen : Shelf = record { lists = deposit ∷ later; pins = pins } in
    let within : k
    < length (deposit ∷ later) = kept_in seen k (subst (λ s. IsKept s k) (sym is) kept) (omega arith) whole in
    omega arith

-- each version has as many blocks as the deposit
pub count_at : (lists : List (List Block)) (pins : List Pin) (k : ℕ) (list : List Block) → IsWhole lists pins
    → k < length lists → list ≡ slice_index_or lists k [] → length list ≡ length (deposit_of lists)
count_at lists pins k list whole within is = ap length is ∙ whole.same k [] within

pub counted_at : (lists : List (List Block)) (pins : List Pin) (k : ℕ) (list : List Block) → IsWhole lists pins
    → k < length lists → list ≡ slice_index_or lists k [] → IsCounted list
counted_at lists pins k list whole within is =
    let same = count_at lists pins k list whole within is in
    (omega (arith, same, whole.counted.0), omega (arith, same, whole.counted.1))

-- a list with another block in a place
pub count_set : (lists : List (List Block)) (pins : List Pin) (k : ℕ) (list after : List Block) (b : ℕ)
    (block : Block)
    → IsWhole lists pins → k < length lists
    → list ≡ slice_index_or lists k [] → after ≡ slice_set list b block → length after ≡ length (deposit_of lists)
count_set lists pins k list after b block whole within is set =
    ap length set ∙ length-set list b block ∙ count_at lists pins k list whole within is
