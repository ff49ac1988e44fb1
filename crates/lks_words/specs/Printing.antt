-- How values are printed.
use Rattle.std.specs.Prelude.{ℕ, Bool, true, false, List, [], ◌∷◌, ◌++◌, codes}
use Rattle.std.specs.List.{flat_map}
use Rattle.hex.specs.Hex.{encode_lower}
use Rattle.lks_base.specs.declared.names.HashKind.{HashKind}
use Rattle.lks_base.specs.declared.names.HashKind.TheVariants.{Sha256, Sha512_256}

-- texts behind one more mark each
abbrev pub behind : {X : Type 0} → ℕ → (X → List ℕ) → List X → List ℕ
behind mark text xs = flat_map (λ x. mark ∷ text x) xs

-- bytes in lower-case hex, none as a hyphen
abbrev pub hex_or_hyphen : List ℕ → List ℕ
hex_or_hyphen [] = codes "-"
hex_or_hyphen (byte ∷ bytes) = encode_lower (byte ∷ bytes)

-- blocks, parted by commas
unfoldable pub blocks_text : List (List ℕ) → List ℕ
blocks_text [] = []
blocks_text (block ∷ blocks) = hex_or_hyphen block ++ behind 44 hex_or_hyphen blocks

-- yes or no
unfoldable pub answer_text : Bool → List ℕ
answer_text true = codes "yes"
answer_text false = codes "no"

-- what kind of peer is corrupt, or isn't
unfoldable pub kind_text : Bool → List ℕ
kind_text true = codes "corrupt"
kind_text false = codes "honest"

-- the name of a hash
unfoldable pub hash_text : HashKind → List ℕ
hash_text Sha256 = codes "sha256"
hash_text Sha512_256 = codes "sha512-256"
