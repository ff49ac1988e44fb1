-- What it takes to open a counter of links.
use Rattle.std.specs.Prelude.{◌≡◌, ℕ, ◌<◌}
use Rattle.std.specs.declared.sync.ledger.Blank.{Blank}

-- a counter of the ledger of this name and number of parts can be opened with this blank
abbrev pub Opens : Blank → ℕ → ℕ → Type 0
Opens blank name parts = (blank.name ≡ name) × (blank.parts ≡ parts) × (0 < blank.parts)
