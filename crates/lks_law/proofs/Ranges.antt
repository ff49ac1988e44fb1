-- Runs of numbers.
use Rattle.std.proofs.Common.{◌≡◌, ◌+◌, ◌∙◌, ap, ℕ, zero, suc, [], ◌∷◌, ◌++◌, arith}
use Rattle.std.specs.List.{range_with_len}

pub range_last : (a n j : ℕ) → a + n ≡ j → range_with_len a (n + 1) ≡ range_with_len a n ++ j ∷ []
range_last a zero j e = let i : a ≡ j = omega (arith, e) in ap (λ x. x ∷ []) i
range_last a (suc n) j e =
    let more : suc n + 1 ≡ suc (n + 1) = omega arith in
    let at : a + 1 + n ≡ j = omega (arith, e) in
    ap (range_with_len a) more ∙ ap (λ xs. a ∷ xs) (range_last (a + 1) n j at)

pub range_parts : (a m n : ℕ) → range_with_len a (m + n) ≡ range_with_len a m ++ range_with_len (a + m) n
range_parts a zero n =
    let none : zero + n ≡ n = omega arith in
    let at : a ≡ a + zero = omega arith in
    ap (range_with_len a) none ∙ ap (λ b. range_with_len b n) at
range_parts a (suc m) n =
    let more : suc m + n ≡ suc (m + n) = omega arith in
    let at : a + 1 + m ≡ a + suc m = omega arith in
    ap (range_with_len a) more
    ∙ ap (λ xs. a ∷ xs) (range_parts (a + 1) m n ∙ ap (λ b. range_with_len (a + 1) m ++ range_with_len b n) at)
