-- What a journal says that evidence rests on, beside its contents and the votes in it: replaced blocks, and the peer's
-- part in polls of others.
use Rattle.std.specs.Prelude.{ℕ, Option, is_some, option_map, List, count_by}
use Rattle.lks_base.specs.declared.names.PollName.{PollName}
use Rattle.lks_base.specs.declared.records.Record.{Record}
use Rattle.lks_law.specs.Journal.{Repair, said_by, deposit_in, opening_in, replacement_in}
use Rattle.lks_law.specs.Sessions.{Join, part_of, join_by, of_poll, commitment_in, first_in}

abbrev pub repair_in : Record → Option Repair
repair_in r = (said_by r).replaced

-- the AU of the poll that the peer joined
abbrev pub join_in : PollName → Record → Option ℕ
join_in q r = of_poll q (λ t. option_map (λ (j : Join). j.au) (join_by t)) (part_of r)

-- Journals.

-- how often the AU is deposited
unfoldable pub deposits : ℕ → List Record → ℕ
deposits au journal = count_by (λ r. is_some (deposit_in au r)) journal

-- how often the peer opened its poll n
unfoldable pub openings : ℕ → List Record → ℕ
openings n journal = count_by (λ r. is_some (opening_in n r)) journal

-- how often a block of the AU was replaced, which is the number of its newest version
unfoldable pub version_now : ℕ → List Record → ℕ
version_now au journal = count_by (λ r. is_some (replacement_in au r)) journal

-- how often the peer joined the poll of another one, and on which AU it did so first
unfoldable pub joins : PollName → List Record → ℕ
joins q journal = count_by (λ r. is_some (join_in q r)) journal

unfoldable pub join_of : PollName → List Record → Option ℕ
join_of q journal = first_in (join_in q) journal

-- how often it committed to a version there
unfoldable pub commitments : PollName → List Record → ℕ
commitments q journal = count_by (λ r. is_some (commitment_in q r)) journal

-- how many blocks were replaced
unfoldable pub repairs : List Record → ℕ
repairs journal = count_by (λ r. is_some (repair_in r)) journal
