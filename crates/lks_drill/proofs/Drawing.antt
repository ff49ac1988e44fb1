-- Copies that are drawn one after another.
use Rattle.std.proofs.Common.{◌≡◌, ◌+◌, ◌-◌, ◌*◌, ◌≤◌, ◌∙◌, ap, sym, refl, ℕ, zero, suc, [], ◌∷◌, map, length, arith}
use Rattle.std.proofs.lemmas.List.FromFn.{length-map-range_with_len}
use Rattle.lks_draw.specs.Words.{Drawn, draw_after}
use Rattle.lks_draw.proofs.Places.{moved_on}
use Rattle.lks_drill.specs.Drill.{au_numbers, block_of, whole_copy, holding_of, after_copy, draw_before, draw_of}
use Rattle.lks_drill.specs.Drill.{copies_of}

-- a copy has 128 blocks
pub whole_has_128 : length whole_copy ≡ 128
unfolding whole_copy
whole_has_128 = length-map-range_with_len block_of 0 128

pub moved_twice : (d : Drawn) → draw_after (draw_after d 1) 1 ≡ draw_after d 2
moved_twice d = moved_on d 1 1

pub none_before : (d : Drawn) → draw_before d 0 ≡ d
unfolding draw_before
none_before d = refl

one_more : (d : Drawn) (n : ℕ) → draw_before d (suc n) ≡ after_copy (draw_before d n)
unfolding draw_before
one_more d n = refl

-- the draw behind one copy more
pub draw_to : (d : Drawn) (i : ℕ) → 1 ≤ i → draw_before d (i + 1 - 1) ≡ after_copy (draw_before d (i - 1))
draw_to d i some =
    let more : i + 1 - 1 ≡ suc (i - 1) = omega arith in
    ap (draw_before d) more ∙ one_more d (i - 1)

draw_on : (d : Drawn) (m n : ℕ) → draw_before (draw_before d m) n ≡ draw_before d (m + n)
draw_on d m zero =
    let same : m ≡ m + zero = omega arith in
    none_before (draw_before d m) ∙ ap (draw_before d) same
draw_on d m (suc n) =
    let more : suc (m + n) ≡ m + suc n = omega arith in
    one_more (draw_before d m) n ∙ ap after_copy (draw_on d m n) ∙ sym (one_more d (m + n)) ∙ ap (draw_before d) more

-- the draw behind the copies of one peer more
pub draw_past : (d e : Drawn) (peer : ℕ) → 1 ≤ peer → e ≡ draw_before d (2 * (peer - 1))
    → draw_before e 2 ≡ draw_before d (2 * (peer + 1 - 1))
draw_past d e peer some is =
    let more : 2 * (peer - 1) + 2 ≡ 2 * (peer + 1 - 1) = omega arith in
    ap (λ e. draw_before e 2) is ∙ draw_on d (2 * (peer - 1)) 2 ∙ ap (draw_before d) more

-- the copies of a peer, from the draw before them
pub copies_drawn : (seed peer : ℕ) (d : Drawn) → d ≡ draw_before (draw_of seed) (2 * (peer - 1))
    → map (λ au. holding_of peer au (draw_before d (au - 1))) au_numbers ≡ copies_of seed peer
unfolding copies_of
copies_drawn seed peer d is =
    let at : (n : ℕ) → draw_before d n ≡ draw_before (draw_of seed) (2 * (peer - 1) + n) =
    λ n. ap (λ e. draw_before e n) is ∙ draw_on (draw_of seed) (2 * (peer - 1)) n in
    ap (λ e. holding_of peer 1 e ∷ holding_of peer 2 (draw_before d 1) ∷ []) (at 0)
    ∙ ap (λ e. holding_of peer 1 (draw_before (draw_of seed) (2 * (peer - 1) + 0)) ∷ holding_of peer 2 e ∷ []) (at 1)
