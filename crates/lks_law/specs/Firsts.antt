-- Lists of which one element changes, or goes: the first that passes a test.
use Rattle.std.specs.Prelude.{Bool, if◌then◌else◌, List, [], ◌∷◌}

abbrev pub changed_first : {X : Type 0} → (X → Bool) → (X → X) → List X → List X
changed_first is f [] = []
changed_first is f (x ∷ xs) = if is x then f x ∷ xs else x ∷ changed_first is f xs

abbrev pub without_first : {X : Type 0} → (X → Bool) → List X → List X
without_first is [] = []
without_first is (x ∷ xs) = if is x then xs else x ∷ without_first is xs
