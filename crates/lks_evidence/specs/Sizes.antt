-- How large a set of journals may be.
use Rattle.std.specs.Prelude.{ℕ, ◌≤◌, List, length, All}
use Rattle.lks_evidence.specs.declared.findings.Shelf.{Shelf}

unfoldable pub most_records : ℕ
most_records = 100000000

abbrev pub most_shelves : ℕ
most_shelves = 32

abbrev pub IsShort : Shelf → Type 0
IsShort s = length s.list.items ≤ most_records

-- so many shelves, each of so many records
pub record IsSmall (set : List Shelf) : Type 0 where
  pub few : length set ≤ most_shelves
  pub short : All IsShort set
