-- The blocks that a block number can name.
use Rattle.std.specs.Prelude.{ℕ, List, take}

-- how many blocks a number of 16 bits can name
unfoldable pub most_numbered : ℕ
most_numbered = 65535

abbrev pub first_blocks : List (List ℕ) → List (List ℕ)
first_blocks blocks = take most_numbered blocks
