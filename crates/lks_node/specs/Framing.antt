-- Frames: bytes behind their length, a number of four bytes.
use Rattle.std.specs.Prelude.{◌≡◌, ◌≤◌, ℕ, ◌++◌, ◌&&◌, nat_le, if◌then◌else◌, List, [], ◌∷◌, length, take, drop}
use Rattle.std.specs.Prelude.{Option, Some}
use Rattle.std.specs.Int.{from_be_bytes, w32}
use Rattle.lks_node.specs.declared.frames.Frame.{Frame}
use Rattle.lks_node.specs.declared.frames.Frame.TheVariants as frame

-- what bytes begin with: nothing, no frame, or one and what stands behind it
pub data Framed : Type 0 where
  Ended : Framed
  Broken : Framed
  Whole : (body rest : List ℕ) → Framed

-- a body of this size, if it may have so many bytes and all are there
abbrev pub sized_frame : ℕ → ℕ → List ℕ → Framed
sized_frame most size rest =
    if nat_le size most && nat_le size (length rest) then Whole (take size rest) (drop size rest) else Broken

abbrev pub behind : ℕ → List ℕ → List ℕ → Framed
behind most [] rest = Ended
behind most (a ∷ b ∷ c ∷ d ∷ []) rest = sized_frame most (from_be_bytes w32 (a ∷ b ∷ c ∷ d ∷ [])) rest
behind most other rest = Broken

-- what these bytes begin with, where a body has at most so many
unfoldable pub frame_of : ℕ → List ℕ → Framed
frame_of most bytes = behind most (take 4 bytes) (drop 4 bytes)

-- this was found, and of a frame what is left behind it
abbrev pub IsFound : Framed → Option (List ℕ) → Frame → Type 0
IsFound f after frame.End = f ≡ Ended
IsFound f after frame.Broken = f ≡ Broken
IsFound f after (frame.Whole body) = (rest : List ℕ) × (f ≡ Whole body.items rest) × (after ≡ Some rest)

-- a read took so many of the bytes that were left, and none exactly at the end
abbrev pub Took : List ℕ → List ℕ → List ℕ → Option (List ℕ) → ℕ → Type 0
Took bytes old new after n =
    (new ≡ old ++ take n bytes) × (n ≤ length bytes) × (after ≡ Some (drop n bytes)) × (n ≡ 0 → bytes ≡ [])
