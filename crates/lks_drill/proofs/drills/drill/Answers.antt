use Rattle.std.proofs.Common.{◌∙◌, ap}
use Rattle.lks_base.specs.Checking.{plan_fault}
use Rattle.lks_script.specs.StepRules.{are_steps_of}
use Rattle.lks_drill.specs.Drill.{plan_of}
use Rattle.lks_drill.proofs.Good.{good_plan, steps_stand}
use Rattle.lks_drill.proofs.drills.drill.Goals as goal

pub returns-clause-good : goal.returns-clause-good
returns-clause-good c = ap plan_fault c.in_ok-plan.ensures ∙ good_plan c.args.seed

pub returns-clause-steps : goal.returns-clause-steps
returns-clause-steps c =
    ap (λ plan. are_steps_of plan c.in_ok-steps.field-0) c.in_ok-plan.ensures
    ∙ ap (are_steps_of (plan_of c.args.seed)) c.in_ok-steps.ensures
    ∙ steps_stand c.args.seed
