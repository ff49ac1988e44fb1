-- How the fields that several crates have are spelled.
use Rattle.std.specs.Prelude.{ℕ, Bool, true, false, List, [], ◌∷◌, ◌++◌, length}
use Rattle.std.specs.List.{flat_map}
use Rattle.std.specs.Int.{w16, to_be_bytes}

-- the byte of yes or no
abbrev pub flag : Bool → ℕ
flag false = 0
flag true = 1

-- the second kind of hash has a byte, the first none
abbrev pub kind_bytes : Bool → List ℕ
kind_bytes false = []
kind_bytes true = 2 ∷ []

-- numbers behind their count, a byte
abbrev pub number_bytes : List ℕ → List ℕ
number_bytes numbers = length numbers ∷ flat_map (to_be_bytes w16) numbers

-- hashes behind their count
abbrev pub hash_bytes : List (List ℕ) → List ℕ
hash_bytes hashes = to_be_bytes w16 (length hashes) ++ flat_map (λ h. h) hashes

-- bytes behind their length
abbrev pub sized_bytes : List ℕ → List ℕ
sized_bytes bytes = to_be_bytes w16 (length bytes) ++ bytes
