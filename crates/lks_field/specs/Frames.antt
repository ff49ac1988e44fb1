-- Bodies in frames, one after another, and how they end.
use Rattle.std.specs.Prelude.{◌≡◌, ◌≢◌, ◌⊎◌, ℕ, ◌+◌, ◌^◌, ◌<◌, ◌≤◌, List, [], ◌∷◌, ◌++◌, length, take}
use Rattle.std.specs.Int.{to_be_bytes, from_be_bytes, w32}

-- an open gate, the length and the body
abbrev pub frame : List ℕ → List ℕ
frame body = 165 ∷ to_be_bytes w32 (length body) ++ body

-- the frames of these bodies, one after another
unfoldable pub frames : List (List ℕ) → List ℕ
frames [] = []
frames (body ∷ bodies) = frame body ++ frames bodies

-- each length is spelled by four bytes
abbrev pub AreBodies : List (List ℕ) → Type 0
AreBodies [] = Unit {0}
AreBodies (body ∷ bodies) = (length body < 2 ^ 32) × AreBodies bodies

-- open frames of these bodies, and then a closed gate; what stands behind it isn't read
pub record HoldsBodies (bodies : List (List ℕ)) (file : List ℕ) : Type 0 where
  pub gate : ℕ
  pub rest : List ℕ
  pub shut : gate ≢ 165
  pub are : AreBodies bodies
  pub file_is : file ≡ frames bodies ++ gate ∷ rest

-- an open gate whose length bytes, body or next gate pass the end
pub record IsCutShort (file : List ℕ) : Type 0 where
  pub tail : List ℕ
  pub opened : file ≡ 165 ∷ tail
  pub short : (length tail < 4) ⊎ (length tail ≤ from_be_bytes w32 (take 4 tail) + 4)

-- no bytes at all, or whole frames and then one that passes the end, whose gate stands at this offset
pub record IsDamagedAt (file : List ℕ) (offset : ℕ) : Type 0 where
  pub bodies : List (List ℕ)
  pub rest : List ℕ
  pub are : AreBodies bodies
  pub file_is : file ≡ frames bodies ++ rest
  pub at : offset ≡ length (frames bodies)
  pub why : (file ≡ []) ⊎ IsCutShort rest
