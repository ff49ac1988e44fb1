-- The first doubt of a set of journals, in two rounds over its shelves and their places.
use Rattle.std.specs.Prelude.{ℕ, Option, Some, None, option_map, option_and_then, List, [], ◌∷◌, ◌++◌, ◌+◌, length}
use Rattle.lks_base.specs.declared.plans.Plan.{Plan}
use Rattle.lks_base.specs.declared.records.Record.{Record}
use Rattle.lks_evidence.specs.declared.findings.Doubt.{Doubt}
use Rattle.lks_evidence.specs.declared.findings.Finding.{Finding}
use Rattle.lks_evidence.specs.declared.findings.Finding.TheVariants.{Yes, No}
use Rattle.lks_evidence.specs.declared.findings.Shelf.{Shelf}
use Rattle.lks_evidence.specs.declared.findings.Why.{Why}
use Rattle.lks_evidence.specs.declared.findings.Why.TheVariants as why
use Rattle.lks_evidence.specs.Records.{repair_in, repairs}
use Rattle.lks_evidence.specs.Rules.{◌▹◌, unless, is_new, is_held, poll_doubt}

-- a rule for each element, beside those before it
abbrev pub each : {X : Type 0} → (List X → X → Option Doubt) → List X → List X → Option Doubt
each rule before [] = None
each rule before (x ∷ xs) = rule before x ▹ each rule (before ++ x ∷ []) xs

-- what is doubted, at a place of a peer's journal
abbrev pub doubt_at : ℕ → ℕ → Option Why → Option Doubt
doubt_at peer place doubt = option_map (λ w. record { peer = peer; place = place; why = w }) doubt

-- The first round.

unfoldable pub held_doubt : Plan → List Record → List Record → Record → Option Why
held_doubt plan journal before item =
    option_and_then (λ r. unless (is_held plan.aus journal before r) why.Copy) (repair_in item)

abbrev pub first_at : Plan → Shelf → List Record → Record → Option Doubt
first_at plan s before item = doubt_at s.peer (length before) (held_doubt plan s.list.items before item)

unfoldable pub first_of_shelf : Plan → List Shelf → Shelf → Option Doubt
first_of_shelf plan earlier s =
    doubt_at s.peer 0 (unless (is_new plan earlier s.peer) why.Peer) ▹ each (first_at plan s) [] s.list.items

-- The second round.

unfoldable pub repair_doubt : Plan → List Shelf → ℕ → List Record → Record → Option Why
repair_doubt plan set poller before item = option_and_then (poll_doubt plan set poller before) (repair_in item)

abbrev pub second_at : Plan → List Shelf → Shelf → List Record → Record → Option Doubt
second_at plan set s before item = doubt_at s.peer (length before) (repair_doubt plan set s.peer before item)

unfoldable pub second_of_shelf : Plan → List Shelf → List Shelf → Shelf → Option Doubt
second_of_shelf plan set earlier s = each (second_at plan set s) [] s.list.items

-- Both.

unfoldable pub first_doubt : Plan → List Shelf → Option Doubt
first_doubt plan set = each (first_of_shelf plan) [] set ▹ each (second_of_shelf plan set) [] set

-- how many blocks were replaced in all journals
unfoldable pub all_repairs : List Shelf → ℕ
all_repairs [] = 0
all_repairs (s ∷ set) = repairs s.list.items + all_repairs set

abbrev pub finding_of : Option Doubt → ℕ → Finding
finding_of None replaced = Yes replaced
finding_of (Some doubt) replaced = No doubt

-- what a set is found to be
unfoldable pub finding : Plan → List Shelf → Finding
finding plan set = finding_of (first_doubt plan set) (all_repairs set)
