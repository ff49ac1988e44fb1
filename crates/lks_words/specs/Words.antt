-- What single words say: numbers of peers, bytes in hex, blocks.
use Rattle.std.specs.Prelude.{◌≡◌, ℕ, ◌-◌, ◌==◌, Bool, true, false, nat_le, slice_index, if◌then◌else◌, List, [], ◌∷◌}
use Rattle.std.specs.Prelude.{◌++◌, length, replicate, codes, Option, Some, None, Result, Ok, Err}
use Rattle.std.specs.List.{slice_split}
use Rattle.std.specs.Str.{bytes_eq}
use Rattle.hex.specs.Hex.{decode_of}
use Rattle.lks_base.specs.declared.limits.TheConstants.{LAST_BLOCK, MOST_BLOCK_BYTES, MOST_FORGED_BYTES}
use Rattle.lks_base.specs.declared.limits.TheConstants.{MOST_PROOF_BYTES}
use Rattle.lks_base.specs.Checking.{is_within}
use Rattle.lks_base.specs.declared.names.HashKind.{HashKind}
use Rattle.lks_base.specs.declared.names.HashKind.TheVariants.{Sha256, Sha512_256}
use Rattle.lks_words.specs.declared.stops.Stop.{Stop}
use Rattle.lks_words.specs.declared.stops.Stop.TheVariants.{Bad, Memory}
use Rattle.lks_words.specs.Numbers.{◌>>=◌, number_in}

-- a function answers what the words say, unless it wants memory
abbrev pub Gives : {X : Type 0} → Result X Stop → Option X → Type 0
Gives (Ok x) said = said ≡ Some x
Gives (Err Bad) said = said ≡ None
Gives (Err Memory) said = Unit {0}

-- the same, where the answer is seen by a function of it
abbrev pub Shows : {X Y : Type 0} → (X → Y) → Result X Stop → Option Y → Type 0
Shows view (Ok x) said = said ≡ Some (view x)
Shows view (Err Bad) said = said ≡ None
Shows view (Err Memory) said = Unit {0}

-- the parts of a text between bytes of this code
abbrev pub parts : ℕ → List ℕ → List (List ℕ)
parts code text = slice_split (λ b. b == code) text

-- each word says something
unfoldable pub each_in : {X : Type 0} → (List ℕ → Option X) → List (List ℕ) → Option (List X)
each_in said [] = Some []
each_in said (word ∷ words) = do
  x ← said word
  xs ← each_in said words
  Some (x ∷ xs)

-- the number of a peer or of an AU
abbrev pub id_in : List ℕ → Option ℕ
id_in word = number_in 65535 word

-- the number of a poll
abbrev pub poll_in : List ℕ → Option ℕ
poll_in word = number_in 4294967295 word

-- the bytes, where there is one at least and at most so many
abbrev pub within : ℕ → List ℕ → Option (List ℕ)
within most bytes = if is_within 1 most (length bytes) then Some bytes else None

-- 1 to so many bytes in hex
unfoldable pub hex_in : ℕ → List ℕ → Option (List ℕ)
hex_in most word = elim (decode_of word) [ Ok bytes ↦ within most bytes | Err fault ↦ None ]

-- so many zero bytes
unfoldable pub zeros : ℕ → List ℕ
zeros n = replicate n 0

-- 1 to 32 bytes in hex, filled with zero bytes at the end
unfoldable pub seed_in : List ℕ → Option (List ℕ)
seed_in word = do
  bytes ← hex_in 32 word
  Some (bytes ++ zeros (32 - length bytes))

-- the bytes of a proof of effort in hex, none as a hyphen
unfoldable pub proof_in : List ℕ → Option (List ℕ)
proof_in word = if bytes_eq word (codes "-") then Some [] else hex_in MOST_PROOF_BYTES word

-- one byte, so many times
unfoldable pub repeated_in : List ℕ → List ℕ → Option (List ℕ)
repeated_in byte times = do
  bytes ← hex_in 1 byte
  n ← number_in MOST_BLOCK_BYTES times
  if nat_le 1 n then Some (replicate n (slice_index bytes 0)) else None

-- the bytes of a block in hex, or one byte of them and how often it stands
unfoldable pub filled_block_in : List (List ℕ) → Option (List ℕ)
filled_block_in (word ∷ []) = hex_in MOST_BLOCK_BYTES word
filled_block_in (byte ∷ times ∷ []) = repeated_in byte times
filled_block_in _ = None

-- a block: none as a hyphen
unfoldable pub block_in : List ℕ → Option (List ℕ)
block_in word = if bytes_eq word (codes "-") then Some [] else filled_block_in (parts 42 word)

-- blocks parted by commas
unfoldable pub blocks_in : List ℕ → Option (List (List ℕ))
blocks_in word = each_in block_in (parts 44 word)

-- the number of a block
abbrev pub index_in : List ℕ → Option ℕ
index_in word = number_in LAST_BLOCK word

-- the bytes of a forged message in hex, none as a hyphen
unfoldable pub bytes_in : List ℕ → Option (List ℕ)
bytes_in word = if bytes_eq word (codes "-") then Some [] else hex_in MOST_FORGED_BYTES word

-- yes or no
unfoldable pub answer_in : List ℕ → Option Bool
answer_in word =
    if bytes_eq word (codes "yes") then Some true else if bytes_eq word (codes "no") then Some false else None

-- whether a peer of this kind is corrupt
unfoldable pub kind_in : List ℕ → Option Bool
kind_in word =
    if bytes_eq word (codes "honest") then Some false else if bytes_eq word (codes "corrupt") then Some true
    else None

-- the hash of this name
unfoldable pub hash_in : List ℕ → Option HashKind
hash_in word =
    if bytes_eq word (codes "sha256") then Some Sha256 else if bytes_eq word (codes "sha512-256")
    then Some Sha512_256 else None
