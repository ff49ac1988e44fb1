-- What is true of every copy.
use Rattle.std.specs.Prelude.{◌≡◌, ◌<◌, ◌≤◌, ◌^◌, List, [], ◌∷◌, length, All}
use Rattle.lks_blocks.specs.Block.{Block}
use Rattle.lks_versions.specs.declared.versions.Pin.{Pin}

-- a version has 1 to 65,535 blocks
abbrev pub IsCounted : List Block → Type 0
IsCounted list = (1 ≤ length list) × (length list ≤ 65535)

-- the blocks of the deposit
abbrev pub deposit_of : List (List Block) → List Block
deposit_of [] = []
deposit_of (list ∷ lists) = list

-- each version has as many blocks as the deposit, their numbers fit, and a pin is of a version that is there
pub record IsWhole (lists : List (List Block)) (pins : List Pin) : Type 0 where
  pub counted : IsCounted (deposit_of lists)
  pub same : All (λ (list : List Block). length list ≡ length (deposit_of lists)) lists
  pub room : length lists ≤ 2 ^ 32
  pub there : All (λ (p : Pin). p.version < length lists) pins
