use Rattle.std.proofs.Common.{◌∙◌, sym}
use Rattle.lks_evidence.proofs.Standing.{holds, undoubted_set}
use Rattle.lks_evidence.proofs.examining.examine.Goals as goal

pub returns-in-Some-clause-yes : goal.returns-in-Some-clause-yes
returns-in-Some-clause-yes c = (
  λ no. absurd no,
  λ held. let both = sym c.in-Some.is ∙ c.in_ok-doubt.ensures
      ∙ undoubted_set c.args.plan.now c.args.set.now held in absurd cc,
)

pub returns-in-None-clause-yes : goal.returns-in-None-clause-yes
returns-in-None-clause-yes c =
    (λ yes. holds c.args.plan.now c.args.set.now (sym c.in_ok-doubt.ensures ∙ c.in-None.is), λ held. tt)
