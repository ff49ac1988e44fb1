-- The journals of a world's honest peers, as they are printed and read.
use Rattle.std.specs.Prelude.{◌≡◌, List, [], ◌∷◌, map}
use Rattle.lks_gather.specs.Framed.{Spells}
use Rattle.lks_gather.specs.Sets.{Book}
use Rattle.lks_gather.specs.Texts.{Filed, file_of}
use Rattle.lks_law.specs.World.{Standing}

-- for each honest peer, in their order, the bodies of batches that put together are its journal
abbrev pub AreFiledFor : List Standing → List Filed → Type 0
AreFiledFor [] [] = Unit {0}
AreFiledFor [] (f ∷ journals) = ⊥
AreFiledFor (t ∷ peers) [] = ⊥
AreFiledFor (t ∷ peers) (f ∷ journals) =
    (f.peer ≡ t.own.id) × Spells (file_of f.bodies) t.journal × AreFiledFor peers journals

abbrev pub book_of : Standing → Book
book_of t = record { peer = t.own.id; list = t.journal }

-- the peers and their journals
abbrev pub books_of : List Standing → List Book
books_of peers = map book_of peers
