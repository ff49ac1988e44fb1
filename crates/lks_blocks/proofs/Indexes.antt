-- Lists of references that differ in an index.
use Rattle.std.proofs.Common.{◌≡◌, ◌≢◌, ℕ, ◌<◌, List, length, get_or, ap, sym, ◌∙◌, false, arith}
use Rattle.std.specs.Prelude.{IsTrue, ◌↔◌}
use Rattle.std.proofs.lemmas.List.{get_or-map}
use Rattle.lks_blocks.specs.Block.{Block, indexes_of}

-- where one index differs, the lists of indexes do
pub indexes_differ : (a b : List Block) (i : ℕ) (x y : Block) → i < length a → length a ≡ length b
    → x ≡ get_or a i x → y ≡ get_or b i y → x.index ≢ y.index
    → IsTrue false ↔ (indexes_of a ≡ indexes_of b)
indexes_differ a b i x y within lengths at_a at_b differ =
    let index : Block → ℕ = λ block. block.index in
    let of_a : get_or (indexes_of a) i 0 ≡ x.index = get_or-map index a i x 0 within ∙ ap index (sym at_a) in
    let of_b : get_or (indexes_of b) i 0
    ≡ y.index = get_or-map index b i y 0 (omega (arith, lengths)) ∙ ap index (sym at_b) in
    (λ no. absurd cc, λ same. absurd (differ (sym of_a ∙ ap (λ list. get_or list i 0) same ∙ of_b)))
