-- Which scripts can be said: values are in their limits, the plan breaks no rule, and each step can stand behind those
-- before it.
use Rattle.std.specs.Prelude.{◌≡◌, ◌&&◌, ℕ, ◌≤◌, Bool, true, List, [], ◌∷◌, ◌++◌, length, Some, None}
use Rattle.std.specs.List.{All, list_all}
use Rattle.hex.specs.Hex.{IsBytes}
use Rattle.lks_base.specs.Checking.{plan_fault}
use Rattle.lks_base.specs.declared.limits.TheConstants.{MOST_BLOCK_BYTES, MOST_PROOF_BYTES}
use Rattle.lks_base.specs.declared.plans.Holding.{Holding}
use Rattle.lks_base.specs.declared.plans.PeerPlan.{PeerPlan}
use Rattle.lks_base.specs.declared.plans.Plan.{Plan}
use Rattle.lks_script.specs.declared.steps.Script.{Script}
use Rattle.lks_script.specs.declared.steps.Step.{Step}
use Rattle.lks_script.specs.StepRules.{is_step_of, has_power_for}
use Rattle.lks_script.specs.StepLines.{step_in}
use Rattle.lks_words.specs.Texts.{are_above, AreFew}
use Rattle.lks_print.specs.Steps.{key_of, more_of}

-- words without spaces, line feeds and commas
abbrev pub are_plain : List (List ℕ) → Bool
are_plain words = list_all (λ w. are_above 43 w) words

-- a step whose words say it
pub record IsSaidStep (step : Step) : Type 0 where
  pub again : step_in (key_of step) (more_of step) ≡ Some step
  pub plain : are_plain (key_of step ∷ more_of step) ≡ true

-- a peer whose values can be said
pub record IsSaidPeer (p : PeerPlan) : Type 0 where
  pub id : p.id ≤ 65535
  pub seed : IsBytes p.seed
  pub long : length p.seed ≡ 32
  pub proof : AreFew MOST_PROOF_BYTES p.proof
  pub copies : All (λ (c : Holding). All (AreFew MOST_BLOCK_BYTES) c.blocks) p.copies

-- the step can be said behind these
pub record CanFollow (plan : Plan) (before : List Step) (step : Step) : Type 0 where
  pub said : IsSaidStep step
  pub stands : (is_step_of plan step && has_power_for before step) ≡ true

-- each step can be said behind those before it
abbrev pub StepsFollow : Plan → List Step → List Step → Type 0
StepsFollow plan before [] = Unit {0}
StepsFollow plan before (step ∷ steps) = CanFollow plan before step × StepsFollow plan (before ++ step ∷ []) steps

-- a script that can be said
pub record IsSaid (s : Script) : Type 0 where
  pub good : plan_fault s.plan ≡ None
  pub peers : All IsSaidPeer s.plan.peers
  pub steps : StepsFollow s.plan [] s.steps
