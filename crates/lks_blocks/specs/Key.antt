-- What tells one pool from another: the names of its slots.
use Rattle.std.specs.Prelude.{◌≡◌, ℕ, zero, suc, List, [], ◌∷◌, slice_index_or, refl}
use Rattle.boxcar.specs.Slot.{Named}
use Rattle.boxcar.specs.Table.{Shelves, id_at}

-- the names of slots, in order
abbrev pub names : List Named → List ℕ
names [] = []
names (s ∷ ss) = s.id ∷ names ss

-- the names of the slots of a vector
abbrev pub key_of : Shelves → List ℕ
key_of s = names s.buckets

-- a slot's name stands at the slot's place
pub id_at_names : (ss : List Named) (k : ℕ) → id_at ss k ≡ slice_index_or (names ss) k 0
id_at_names [] k = refl
id_at_names (s ∷ ss) zero = refl
id_at_names (s ∷ ss) (suc k) = id_at_names ss k
