-- Which words ask for what.
use Rattle.std.specs.Prelude.{ℕ, List, [], ◌∷◌, Option, None, option_map}
use Rattle.lks_words.specs.Numbers.{number_in}

-- the number of a peer of 16 bits in decimal, and a path that isn't empty
abbrev pub with_path : List ℕ → List ℕ → Option (ℕ × List ℕ)
with_path peer [] = None
with_path peer (c ∷ cs) = option_map (λ id. (id, c ∷ cs)) (number_in 65535 peer)

abbrev pub asked_in : List (List ℕ) → Option (ℕ × List ℕ)
asked_in [] = None
asked_in (peer ∷ []) = None
asked_in (peer ∷ path ∷ []) = with_path peer path
asked_in (peer ∷ path ∷ more ∷ others) = None
