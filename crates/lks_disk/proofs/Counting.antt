-- Bytes that count up, one after another.
use Rattle.std.proofs.Common.{◌≡◌, ℕ, suc, ◌+◌, ◌%◌, ◌<◌, List, [], ◌∷◌, ◌++◌, length, take, set, sym, ◌∙◌, ap, arith}
use Rattle.std.proofs.Math.Nat.{mod-add-mod}
use Rattle.std.proofs.lemmas.List.{take_more_set}
use Rattle.lks_disk.specs.Ranges.{counting}

counting_more : (c n : ℕ) → counting c (n + 1) ≡ counting c n ++ (c + n) % 256 ∷ []
counting_more c n = let one : n + 1 ≡ suc n = omega arith in ap (λ (k : ℕ). counting c k) one

-- the byte at the next place is put there
pub counts_up : (c i : ℕ) (range : List ℕ) → i < length range → take i range ≡ counting c i
    → take (i + 1) (set range i ((c % 256 + i) % 256)) ≡ counting c (i + 1)
counts_up c i range within so_far =
    take_more_set range i ((c % 256 + i) % 256) within
    ∙ (λ j. so_far j ++ mod-add-mod c 256 i j ∷ [])
    ∙ sym (counting_more c i)
