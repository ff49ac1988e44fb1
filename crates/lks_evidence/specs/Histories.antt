-- The shelves of a world.
use Rattle.std.specs.Prelude.{◌≡◌, List, [], ◌∷◌}
use Rattle.lks_law.specs.World.{Standing}
use Rattle.lks_evidence.specs.declared.findings.Shelf.{Shelf}

-- a shelf for each honest peer, in their order, with its journal
abbrev pub AreShelvesOf : List Standing → List Shelf → Type 0
AreShelvesOf [] [] = Unit {0}
AreShelvesOf [] (s ∷ set) = ⊥
AreShelvesOf (t ∷ peers) [] = ⊥
AreShelvesOf (t ∷ peers) (s ∷ set) = (s.peer ≡ t.own.id) × (s.list.items ≡ t.journal) × AreShelvesOf peers set
