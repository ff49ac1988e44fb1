-- By which names versions go.
use Rattle.std.specs.Prelude.{ℕ, ◌==◌, Option, None, Some, List, find}
use Rattle.lks_versions.specs.declared.places.Place.{Place}
use Rattle.lks_versions.specs.declared.versions.PinTag.{PinTag}

abbrev pub first_in : Option Place → ℕ
first_in None = 0
first_in (Some p) = p.first

-- the name of a version of an AU, whose deposit stands where these say
abbrev pub tag_at : ℕ → ℕ → List Place → PinTag
tag_at au version places = record { first = first_in (find (λ (p : Place). p.au == au) places); version = version }
