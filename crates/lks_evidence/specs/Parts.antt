-- Parts of a set of journals.
use Rattle.std.specs.Prelude.{◌≡◌, ◌⊎◌, List, [], ◌∷◌}
use Rattle.lks_evidence.specs.declared.findings.Shelf.{Shelf}

-- some shelves of a set, in its order
abbrev pub IsPart : List Shelf → List Shelf → Type 0
IsPart [] set = Unit {0}
IsPart (s ∷ part) [] = ⊥
IsPart (s ∷ part) (t ∷ set) = ((s ≡ t) × IsPart part set) ⊎ IsPart (s ∷ part) set
