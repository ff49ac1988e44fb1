-- Which line was read: what each kind of line keeps holds of each script that is read.
use Rattle.std.proofs.Common.{◌≡◌, ℕ, ◌+◌, true, cond, ◌&&◌, List, [], ◌∷◌, ◌++◌, length, Option, Some, None, Result}
use Rattle.std.proofs.Common.{Ok, Err, eqb, refl, subst}
use Rattle.std.specs.Option.{option_map}
use Rattle.std.specs.Prelude.{codes}
use Rattle.std.specs.Str.{bytes_eq}
use Rattle.lks_base.specs.declared.limits.TheConstants.{MOST_EVENTS}
use Rattle.lks_base.specs.declared.plans.AuPlan.{AuPlan}
use Rattle.lks_base.specs.declared.plans.Plan.{Plan}
use Rattle.lks_base.specs.declared.plans.Rules.{Rules}
use Rattle.lks_script.specs.declared.drafts.Draft.{Draft}
use Rattle.lks_script.specs.declared.drafts.Draft.TheVariants.{Blank, Titled, Ruled, Planned, Stepped}
use Rattle.lks_script.specs.declared.drafts.PlanPart.{PlanPart}
use Rattle.lks_script.specs.declared.drafts.PlanPart.TheVariants as part
use Rattle.lks_lines.specs.declared.list_lines.ListKind.{ListKind}
use Rattle.lks_lines.specs.declared.list_lines.ListKind.TheVariants.{Refs, Friends}
use Rattle.lks_lines.specs.declared.plan_lines.PlanDraft.{PlanDraft}
use Rattle.lks_script.specs.declared.steps.Script.{Script}
use Rattle.lks_script.specs.declared.steps.Step.{Step}
use Rattle.lks_words.specs.Numbers.{number_in}
use Rattle.lks_words.specs.Words.{parts}
use Rattle.lks_script.specs.StepRules.{is_step_of, has_power_for}
use Rattle.lks_lines.specs.PlanLines.{rules_in, aus_with, begun_draft, draft_with_peer}
use Rattle.lks_lines.specs.ListLines.{draft_with_list, draft_with_hash}
use Rattle.lks_lines.specs.CopyLines.{draft_with_copy, draft_with_damage}
use Rattle.lks_words.proofs.Steps.{bind_some, map_some, if_some, if_else, same_some}
use Rattle.lks_script.specs.StepLines.{step_in, steps_with}
use Rattle.lks_script.specs.Grammar.{title_line, rules_line, au_line, turns_line, peer_line, ruled_line, step_line}
use Rattle.lks_script.specs.Grammar.{later_line, declares_peer, planned_line, stepped_line, line_in, means_nothing}
use Rattle.lks_script.specs.Grammar.{with_line, script_of_draft, line_number, end_in, lines_in, script_of}

-- a line of lists or copies keeps P
abbrev pub IsKeptBy : (Draft → Type 0) → (PlanDraft → List (List ℕ) → Option PlanDraft) → Type 0
IsKeptBy P read =
    (at : PlanPart) (plan now : PlanDraft) (words : List (List ℕ)) → P (Planned at plan)
    → read plan words ≡ Some now → P (Planned part.Lists now)

-- each kind of line keeps P, and so does the end of a plan without steps
pub record IsKept (P : Draft → Type 0) : Type 0 where
  pub title : P Titled
  pub rules : (words : List (List ℕ)) (rules : Rules) → rules_in words ≡ Some rules → P (Ruled rules None [])
  pub turns : (rules : Rules) (word : List ℕ) (n : ℕ) → P (Ruled rules None [])
      → number_in MOST_EVENTS word ≡ Some n → P (Ruled rules (Some n) [])
  pub au : (rules : Rules) (turns : Option ℕ) (aus now : List AuPlan) (words : List (List ℕ))
      → P (Ruled rules turns aus) → aus_with aus words ≡ Some now → P (Ruled rules turns now)
  pub first_peer : (rules : Rules) (turns : Option ℕ) (aus : List AuPlan) (now : PlanDraft) (words : List (List ℕ))
      → P (Ruled rules turns aus) → draft_with_peer (begun_draft rules turns aus) words ≡ Some now
      → P (Planned part.Peers now)
  pub peer : (at : PlanPart) (plan now : PlanDraft) (words : List (List ℕ)) → P (Planned at plan)
      → draft_with_peer plan words ≡ Some now → P (Planned part.Peers now)
  pub list : (kind : ListKind) → IsKeptBy P (draft_with_list kind)
  pub hash : IsKeptBy P draft_with_hash
  pub copy : IsKeptBy P draft_with_copy
  pub damage : IsKeptBy P draft_with_damage
  pub no_steps : (at : PlanPart) (plan : PlanDraft) → P (Planned at plan) → P (Stepped plan.plan [])
  pub step : (plan : Plan) (steps : List Step) (step : Step) (key : List ℕ) (more : List (List ℕ))
      → P (Stepped plan steps)
      → step_in key more ≡ Some step → (is_step_of plan step && has_power_for steps step) ≡ true
      → P (Stepped plan (steps ++ step ∷ []))

found_script : (o : Option Script) (n : ℕ) (script : Script)
    → elim o as (λ _. Result Script ℕ) [ Some s ↦ Ok s | None ↦ Err n ] ≡ Ok script → o ≡ Some script
found_script (Some s) n script e = cc
found_script None n script e = absurd cc

found_draft : (o : Option Draft) (f : Draft → Result Script ℕ) (n : ℕ) (script : Script)
    → elim o as (λ _. Result Script ℕ) [ Some d ↦ f d | None ↦ Err n ] ≡ Ok script
    → (d : Draft) × (o ≡ Some d) × (f d ≡ Ok script)
found_draft (Some d) f n script e = (d, refl, e)
found_draft None f n script e = absurd cc

module _ (P : Draft → Type 0) (kept : IsKept P) where
  -- what was read makes a draft
  made : {X : Type 0} (make : X → Draft) (o : Option X) (draft : Draft) → ((x : X) → o ≡ Some x → P (make x))
      → option_map make o ≡ Some draft → P draft
  made make o draft each e =
      let a = map_some make o draft e in
      subst P a.2 (each a.0 a.1)

  title_kept : (words : List (List ℕ)) (draft : Draft) → title_line words ≡ Some draft → P draft
  unfolding title_line
  title_kept (key ∷ version ∷ []) draft e =
      let a = if_some (bytes_eq key (codes "lockss") && bytes_eq version (codes "1")) (Some Titled) draft e in
      subst P (same_some Titled draft a.1) kept.title
  title_kept _ draft e = absurd cc

  rules_kept : (words : List (List ℕ)) (draft : Draft) → rules_line words ≡ Some draft → P draft
  unfolding rules_line
  rules_kept [] draft e = absurd cc
  rules_kept (key ∷ more) draft e =
      let begin : Rules → Draft = λ rules. Ruled rules None [] in
      made begin (rules_in more) draft (kept.rules more)
      (if_some (bytes_eq key (codes "rules")) (option_map begin (rules_in more)) draft e).1

  turns_kept : (rules : Rules) (turns : Option ℕ) (aus : List AuPlan) (words : List (List ℕ)) (draft : Draft)
      → P (Ruled rules turns aus) → turns_line rules turns aus words ≡ Some draft → P draft
  unfolding turns_line
  turns_kept rules None [] (word ∷ []) draft h e =
      let a = bind_some (number_in MOST_EVENTS word) (λ n. Some (Ruled rules (Some n) [])) draft e in
      subst P (same_some (Ruled rules (Some a.0) []) draft a.2) (kept.turns rules word a.0 h a.1)
  turns_kept rules turns aus words draft h e = absurd cc

  ruled_kept : (rules : Rules) (turns : Option ℕ) (aus : List AuPlan) (words : List (List ℕ)) (draft : Draft)
      → P (Ruled rules turns aus) → ruled_line rules turns aus words ≡ Some draft → P draft
  unfolding ruled_line au_line peer_line
  ruled_kept rules turns aus [] draft h e = absurd cc
  ruled_kept rules turns aus (key ∷ more) draft h e =
      if_else (bytes_eq key (codes "turns")) (turns_line rules turns aus more) _ draft
      (turns_kept rules turns aus more draft h) (
      if_else (bytes_eq key (codes "au")) (au_line rules turns aus more) _ draft
      (made (λ now. Ruled rules turns now) (aus_with aus more) draft
      (λ now. kept.au rules turns aus now more h)) (
      λ f. made (λ now. Planned part.Peers now) (draft_with_peer (begun_draft rules turns aus) more) draft
      (λ now. kept.first_peer rules turns aus now more h)
      (if_some (bytes_eq key (codes "peer")) (peer_line (begun_draft rules turns aus) more) draft f).1)) e

  step_kept : (plan : Plan) (steps : List Step) (key : List ℕ) (more : List (List ℕ)) (draft : Draft)
      → P (Stepped plan steps) → step_line plan steps key more ≡ Some draft → P draft
  unfolding step_line steps_with
  step_kept plan steps key more draft h =
      made (λ longer. Stepped plan longer) (steps_with plan steps key more) draft (λ longer e.
      let a = bind_some (step_in key more)
      (λ step. cond (is_step_of plan step && has_power_for steps step) (Some (steps ++ step ∷ [])) None) longer
      e in
      let b = if_some (is_step_of plan a.0 && has_power_for steps a.0) (Some (steps ++ a.0 ∷ [])) longer a.2 in
      subst (λ all. P (Stepped plan all)) (same_some (steps ++ a.0 ∷ []) longer b.1)
      (kept.step plan steps a.0 key more h a.1 b.0))

  listed_kept : (read : PlanDraft → List (List ℕ) → Option PlanDraft) → IsKeptBy P read
      → (at : PlanPart) (plan : PlanDraft) (words : List (List ℕ)) (draft : Draft) → P (Planned at plan)
      → option_map (λ now. Planned part.Lists now) (read plan words) ≡ Some draft → P draft
  listed_kept read keeps at plan words draft h =
      made (λ now. Planned part.Lists now) (read plan words) draft (λ now. keeps at plan now words h)

  later_kept : (at : PlanPart) (plan : PlanDraft) (key : List ℕ) (more : List (List ℕ)) (draft : Draft)
      → P (Planned at plan) → later_line plan key more ≡ Some draft → P draft
  unfolding later_line
  later_kept at plan key more draft h =
      if_else (bytes_eq key (codes "refs")) _ _ draft
      (listed_kept (draft_with_list Refs) (kept.list Refs) at plan more draft h) (
      if_else (bytes_eq key (codes "friends")) _ _ draft
      (listed_kept (draft_with_list Friends) (kept.list Friends) at plan more draft h) (
      if_else (bytes_eq key (codes "hash")) _ _ draft (listed_kept draft_with_hash kept.hash at plan more draft h) (
      if_else (bytes_eq key (codes "copy")) _ _ draft (listed_kept draft_with_copy kept.copy at plan more draft h) (
      if_else (bytes_eq key (codes "damage")) _ _ draft
      (listed_kept draft_with_damage kept.damage at plan more draft h) (
      step_kept plan.plan [] key more draft (kept.no_steps at plan h))))))

  planned_kept : (at : PlanPart) (plan : PlanDraft) (words : List (List ℕ)) (draft : Draft) → P (Planned at plan)
      → planned_line at plan words ≡ Some draft → P draft
  unfolding planned_line peer_line
  planned_kept at plan [] draft h e = absurd cc
  planned_kept at plan (key ∷ more) draft h e =
      if_else (declares_peer at key) (peer_line plan more) (later_line plan key more) draft
      (made (λ now. Planned part.Peers now) (draft_with_peer plan more) draft (λ now. kept.peer at plan now more h))
      (later_kept at plan key more draft h) e

  line_kept : (draft longer : Draft) (words : List (List ℕ)) → P draft → line_in draft words ≡ Some longer → P longer
  unfolding line_in stepped_line
  line_kept Blank longer words h e = title_kept words longer e
  line_kept Titled longer words h e = rules_kept words longer e
  line_kept (Ruled rules turns aus) longer words h e = ruled_kept rules turns aus words longer h e
  line_kept (Planned at plan) longer words h e = planned_kept at plan words longer h e
  line_kept (Stepped plan steps) longer [] h e = absurd cc
  line_kept (Stepped plan steps) longer (key ∷ more) h e = step_kept plan steps key more longer h e

  with_line_kept : (draft longer : Draft) (line : List ℕ) → P draft → with_line draft line ≡ Some longer → P longer
  unfolding with_line
  with_line_kept draft longer line h =
      if_else (means_nothing line) (Some draft) (line_in draft (parts 32 line)) longer
      (λ idle. subst P (same_some draft longer idle) h) (line_kept draft longer (parts 32 line) h)

  -- ---- the whole: what holds behind its steps

  abbrev IsWhole : Script → Type 0
  IsWhole script = P (Stepped script.plan script.steps)

  ended_kept : (draft : Draft) (script : Script) → P draft → script_of_draft draft ≡ Some script → IsWhole script
  unfolding script_of_draft
  ended_kept (Planned at plan) script h e =
      subst IsWhole (same_some (record { plan = plan.plan; steps = [] }) script e) (kept.no_steps at plan h)
  ended_kept (Stepped plan steps) script h e =
      subst IsWhole (same_some (record { plan = plan; steps = steps }) script e) h
  ended_kept _ script h e = absurd cc

  lines_kept : (k : ℕ) (draft : Draft) (lines : List (List ℕ)) (script : Script) → P draft
      → lines_in k draft lines ≡ Ok script → IsWhole script
  unfolding lines_in end_in
  lines_kept k draft [] script h e = absurd cc
  lines_kept k draft (last ∷ []) script h e =
      let a = found_script (cond (eqb (length last) 0) (script_of_draft draft) None) (line_number k) script e in
      ended_kept draft script h (if_some (eqb (length last) 0) (script_of_draft draft) script a).1
  lines_kept k draft (line ∷ next ∷ lines) script h e =
      let a = found_draft (with_line draft line) (λ longer. lines_in (k + 1) longer (next ∷ lines)) (line_number k)
      script e in
      lines_kept (k + 1) a.0 (next ∷ lines) script (with_line_kept draft a.0 line h a.1) a.2

  -- a script that the bytes say
  pub script_kept : (bytes : List ℕ) (script : Script) → P Blank → script_of bytes ≡ Ok script
      → P (Stepped script.plan script.steps)
  unfolding script_of
  script_kept bytes script h e = lines_kept 1 Blank (parts 10 bytes) script h e
