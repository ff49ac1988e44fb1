use Rattle.lks_law.proofs.Dues.{can_happen, due_can, first_of_dues}
use Rattle.lks_law.proofs.laws.whatever_is_due_may_happen.Goals as goal

pub returns-clause-may : goal.returns-clause-may
returns-clause-may c =
    λ verdict plan history place d at. can_happen plan history verdict d (due_can plan history place d at)

pub returns-clause-first : goal.returns-clause-first
returns-clause-first c = first_of_dues
