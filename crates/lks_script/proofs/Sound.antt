-- What is read breaks no rule: the plan passes its check, and each step is one of the plan.
use Rattle.std.proofs.Common.{◌≡◌, ℕ, true, cond, List, [], ◌∷◌, Option, Some, None, Result, Ok, Err, refl, subst, ◌∙◌}
use Rattle.std.specs.Prelude.{nat_le, unwrap_or, IfOk}
use Rattle.std.proofs.lemmas.Bool.{and_parts, le-leb}
use Rattle.std.proofs.lemmas.List.Folds.{list_all-append}
use Rattle.lks_base.specs.declared.limits.TheConstants.{MOST_EVENTS}
use Rattle.lks_base.specs.declared.plans.AuPlan.{AuPlan}
use Rattle.lks_base.specs.declared.plans.Plan.{Plan}
use Rattle.lks_base.specs.declared.plans.Rules.{Rules}
use Rattle.lks_base.specs.Checking.{plan_fault}
use Rattle.lks_script.specs.declared.drafts.Draft.{Draft}
use Rattle.lks_script.specs.declared.drafts.Draft.TheVariants.{Ruled, Planned, Stepped}
use Rattle.lks_script.specs.declared.faults.ScriptFault.{ScriptFault}
use Rattle.lks_script.specs.declared.steps.Script.{Script}
use Rattle.lks_script.specs.declared.steps.Step.{Step}
use Rattle.lks_script.specs.StepRules.{is_step_of, are_steps_of, has_power_for}
use Rattle.lks_lines.specs.PlanLines.{numbers_in, rules_in, are_good, begun_draft}
use Rattle.lks_words.proofs.Decimals.{number_most}
use Rattle.lks_words.proofs.Steps.{bind_some, if_some, same_some}
use Rattle.lks_lines.proofs.Passing.{Peopled, AreAus, passes, begun_ready, aus_good, peer_good, list_good, hash_good}
use Rattle.lks_lines.proofs.Passing.{copy_good, damage_good}
use Rattle.lks_script.specs.Grammar.{script_of, Answers}
use Rattle.lks_script.proofs.Which.{IsKept, script_kept}

-- rules, turns and AUs that may begin a plan
pub record IsRuled (rules : Rules) (turns : Option ℕ) (aus : List AuPlan) : Type 0 where
  pub good : are_good rules ≡ true
  pub few : nat_le (unwrap_or turns MOST_EVENTS) 4096 ≡ true
  pub are : AreAus aus

-- a plan that breaks no rule, and steps of it
pub record IsSteps (plan : Plan) (steps : List Step) : Type 0 where
  pub good : plan_fault plan ≡ None
  pub steps_of : are_steps_of plan steps ≡ true

abbrev pub Sound : Draft → Type 0
Sound (Ruled rules turns aus) = IsRuled rules turns aus
Sound (Planned at plan) = Peopled plan
Sound (Stepped plan steps) = IsSteps plan steps
Sound _ = Unit {0}

good_rules : (words : List (List ℕ)) (rules : Rules) → rules_in words ≡ Some rules → are_good rules ≡ true
unfolding rules_in
good_rules words rules e =
    let a = bind_some (numbers_in words) (λ r. cond (are_good r) (Some r) None) rules e in
    let b = if_some (are_good a.0) (Some a.0) rules a.2 in
    subst (λ r. are_good r ≡ true) (same_some a.0 rules b.1) b.0

sound_kept : IsKept Sound
sound_kept = record {
  title = tt;
  rules = λ words rules e. record { good = good_rules words rules e; few = refl; are = (refl, refl) };
  turns = λ rules word n h e. record { good = h.good; few = le-leb n 4096 (number_most 4096 word n e); are = h.are };
  au = λ rules turns aus now words h e. record { good = h.good; few = h.few; are = aus_good aus now words h.are e };
  first_peer =
      λ rules turns aus now words h. peer_good (begun_draft rules turns aus) now words
      (begun_ready rules turns aus h.good h.few h.are);
  peer = λ at plan now words h. peer_good plan now words h.ready;
  list = λ kind at. list_good kind;
  hash = λ at. hash_good;
  copy = λ at. copy_good;
  damage = λ at. damage_good;
  no_steps = λ at plan h. record { good = passes plan h; steps_of = refl };
  step = λ plan steps step key more h e stands.
      let legal = (and_parts (is_step_of plan step) (has_power_for steps step) stands).0 in
      record {
        good = h.good;
        steps_of = list_all-append (is_step_of plan) steps (step ∷ []) ∙ rw (h.steps_of, legal) refl;
      };
}

pub plan_is_good : (r : Result Script ScriptFault) (bytes : List ℕ) → Answers r (script_of bytes)
    → IfOk r (λ s. plan_fault s.plan ≡ None)
plan_is_good (Ok script) bytes e = (script_kept Sound sound_kept bytes script tt e).good
plan_is_good (Err fault) bytes e = tt

pub steps_are_good : (r : Result Script ScriptFault) (bytes : List ℕ) → Answers r (script_of bytes)
    → IfOk r (λ s. are_steps_of s.plan s.steps ≡ true)
steps_are_good (Ok script) bytes e = (script_kept Sound sound_kept bytes script tt e).steps_of
steps_are_good (Err fault) bytes e = tt
