-- Numbers behind a space each are words behind a space each.
use Rattle.std.proofs.Common.{◌≡◌, ℕ, List, [], ◌∷◌, ◌++◌, map, refl, ap}
use Rattle.std.specs.Fmt.{decimal}
use Rattle.lks_words.specs.Printing.{behind}
use Rattle.lks_words.specs.Steps.{spaced}

pub ids_spaced : (ids : List ℕ) → behind 32 decimal ids ≡ spaced (map decimal ids)
ids_spaced [] = refl
ids_spaced (id ∷ ids) = ap (λ (text : List ℕ). (32 ∷ decimal id) ++ text) (ids_spaced ids)
