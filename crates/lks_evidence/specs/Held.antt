-- AUs that the first round found to be held, so that it looks for the deposit of each once.
use Rattle.std.specs.Prelude.{◌≡◌, ◌≤◌, ℕ, nat_lt, List, take}
use Rattle.lks_base.specs.declared.plans.AuPlan.{AuPlan}
use Rattle.lks_base.specs.declared.records.Record.{Record}
use Rattle.lks_law.specs.Journal.{Repair}
use Rattle.lks_evidence.specs.declared.examining.Held.{Held}
use Rattle.lks_evidence.specs.Rules.{is_held}

-- from this place of the journal on, each block of the AU that is below the count is held, and no other
abbrev pub IsHeldFrom : List AuPlan → List Record → ℕ → Held → Type 0
IsHeldFrom aus journal place h =
    (j : ℕ) (r : Repair) → place ≤ j → r.au ≡ h.au → is_held aus journal (take j journal) r ≡ nat_lt r.block h.count
