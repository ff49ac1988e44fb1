-- Two blocks.
use Rattle.std.specs.Prelude.{ℕ, List, [], ◌∷◌}

abbrev pub pair : List (List ℕ)
pair = (65 ∷ []) ∷ (66 ∷ []) ∷ []
