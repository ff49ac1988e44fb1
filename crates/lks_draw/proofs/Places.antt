-- Places of words: a stream repeats, and a word is below 2 ^ 32.
use Rattle.std.proofs.Common.{sym, zero, suc, add-zero, zero-add, ◌≡◌, ℕ, ◌+◌, ◌%◌, ◌^◌, ◌<◌, List, ap, ◌∙◌, arith}
use Rattle.std.proofs.Common.{lit<}
use Rattle.std.proofs.Math.Nat.{mod-mod, mod-add-mod, mod-lt, div-lt_iff_lt-mul, mul-lt-mul_of_pos_right, mul_comm}
use Rattle.rand_chacha.specs.Block.{block_word}
use Rattle.rand_chacha.specs.ChaCha.{word_at}
use Rattle.lks_draw.specs.Words.{Drawn, words_of, place_after, draw_after, scaled_word}

-- some words on, and some more
place_on : (place i j : ℕ) → place_after (place_after place i) j ≡ place_after place (i + j)
place_on place zero j = ap (place_after place) (sym (zero-add j))
place_on place (suc i) zero = ap (place_after place) (sym (add-zero (suc i)))
place_on place (suc i) (suc j) =
    let sums : place + suc i + suc j ≡ place + suc (suc i + j) = omega arith in
    let count : suc (suc i + j) ≡ suc i + suc j = omega arith in
    mod-add-mod (place + suc i) (2 ^ 68) (suc j) ∙ ap (λ p. p % 2 ^ 68) sums ∙ ap (place_after place) count

pub moved_on : (d : Drawn) (i j : ℕ) → draw_after (draw_after d i) j ≡ draw_after d (i + j)
moved_on d i j = ap (λ p. record d { place = p }) (place_on d.place i j)

-- where a stream has gone round, its place is that of the count of words
pub place_same : (place words : ℕ) → place_after place words % 2 ^ 68 ≡ (place + words) % 2 ^ 68
place_same place zero = ap (λ p. p % 2 ^ 68) (sym (add-zero place))
place_same place (suc words) = mod-mod (place + suc words) (2 ^ 68)

-- the word after so many words
pub word_moved : (d : Drawn) (i : ℕ) → words_of (draw_after d i).key (draw_after d i).place
    ≡ words_of d.key (d.place + i)
unfolding words_of
word_moved d i = ap (word_at 10 d.key 0) (place_same d.place i)

-- a word is one of 32 bits
pub word_fits : (key : List ℕ) (place : ℕ) → words_of key place < 2 ^ 32
unfolding words_of block_word
word_fits key place = mod-lt _ (lit< tt)

-- what is drawn below n is below n
pub scaled_below : (word n : ℕ) → word < 2 ^ 32 → 0 < n → scaled_word word n < n
scaled_below word n fits some =
    (div-lt_iff_lt-mul {k = 2 ^ 32} (lit< tt)).1
    (omega (arith, mul-lt-mul_of_pos_right fits some, mul_comm n (2 ^ 32)))
