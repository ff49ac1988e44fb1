-- Texts that read on from a draft to a script, line by line.
use Rattle.std.proofs.Common.{◌≡◌, ℕ, ◌+◌, ◌≤◌, true, false, eqb, ltb, leb, List, [], ◌∷◌, ◌++◌, length, Option, Some}
use Rattle.std.proofs.Common.{Ok, refl, sym, ap, subst, ◌∙◌, append_assoc, arith}
use Rattle.std.specs.List.{list_all, flat_map}
use Rattle.std.specs.Option.{option_map}
use Rattle.std.proofs.lemmas.Bool.{and_parts, and_from, ltb-true, ne_eqb}
use Rattle.std.proofs.lemmas.List.Splits.{slice_split_at}
use Rattle.lks_base.specs.declared.plans.Plan.{Plan}
use Rattle.lks_script.proofs.Lines.{goes_on}
use Rattle.lks_script.specs.declared.drafts.Draft.{Draft}
use Rattle.lks_script.specs.declared.drafts.Draft.TheVariants.{Stepped}
use Rattle.lks_script.specs.declared.steps.Script.{Script}
use Rattle.lks_script.specs.declared.steps.Step.{Step}
use Rattle.lks_script.specs.Grammar.{step_line, stepped_line, line_in, means_nothing, with_line, script_of_draft}
use Rattle.lks_script.specs.Grammar.{end_in}
use Rattle.lks_script.specs.Grammar.{lines_in}
use Rattle.lks_script.specs.StepLines.{steps_with}
use Rattle.lks_words.specs.Words.{parts}
use Rattle.lks_words.specs.Texts.{are_above}
use Rattle.lks_words.proofs.Splits.{lacks, weaker, above_append, above_behind, words_part}
use Rattle.lks_print.proofs.Kept.{step_names}
use Rattle.lks_print.specs.Steps as printed
use Rattle.lks_print.specs.Steps.{line_of, key_of, more_of}
use Rattle.lks_words.specs.Steps.{spaced}
use Rattle.lks_print.specs.Said.{are_plain}
use Rattle.lks_print.specs.Said.{CanFollow, StepsFollow}

-- whatever number its first line has
abbrev pub Reads : Draft → List ℕ → Script → Type 0
Reads draft text script = (k : ℕ) → lines_in k draft (parts 10 text) ≡ Ok script

pub line_reads : (draft longer : Draft) (line rest : List ℕ) (script : Script) → are_above 10 line ≡ true
    → with_line draft line ≡ Some longer → Reads longer rest script → Reads draft (line ++ 10 ∷ rest) script
line_reads draft longer line rest script plain is more k =
    ap (lines_in k draft) (slice_split_at (λ b. eqb b 10) line 10 rest (lacks 10 10 line (omega arith) plain) refl)
    ∙ goes_on k draft longer line rest is ∙ more (k + 1)

-- ---- words

weaker_each : (low : ℕ) (words : List (List ℕ)) → low ≤ 43 → are_plain words ≡ true
    → list_all (are_above low) words ≡ true
weaker_each low [] le h = refl
weaker_each low (w ∷ words) le h =
    let p = and_parts (are_above 43 w) (are_plain words) h in
    and_from (are_above low w) _ (weaker low 43 w le p.0) (weaker_each low words le p.1)

-- a line that begins with a word isn't a comment
means_something : (key more : List ℕ) → leb 1 (length key) ≡ true → are_above 43 key ≡ true
    → means_nothing (key ++ more) ≡ false
unfolding means_nothing
means_something [] more some plain = absurd cc
means_something (c ∷ key) more some plain =
    let p = and_parts (ltb 43 c) (are_above 43 key) plain in
    let above = ltb-true 43 c p.0 in
    rw (ne_eqb c 35 (λ e. absurd (omega (arith, above, e)))) refl

words_line : (draft longer : Draft) (key : List ℕ) (more : List (List ℕ)) → leb 1 (length key) ≡ true
    → are_plain (key ∷ more) ≡ true → line_in draft (key ∷ more) ≡ Some longer
    → with_line draft (key ++ spaced more) ≡ Some longer
unfolding with_line
words_line draft longer key more some plain is =
    let p = and_parts (are_above 43 key) (are_plain more) plain in
    rw (
      means_something key (spaced more) some p.0,
      words_part key more (weaker 32 43 key (omega arith) p.0) (weaker_each 32 more (omega arith) p.1),
    ) is

regroup : (a b rest : List ℕ) → (a ++ b ++ 10 ∷ []) ++ rest ≡ (a ++ b) ++ 10 ∷ rest
regroup [] [] rest = refl
regroup [] (x ∷ b) rest = ap (λ (t : List ℕ). x ∷ t) (regroup [] b rest)
regroup (x ∷ a) b rest = ap (λ (t : List ℕ). x ∷ t) (regroup a b rest)

-- a line of words, and what comes behind it
pub words_read : (draft longer : Draft) (key : List ℕ) (more : List (List ℕ)) (rest : List ℕ) (script : Script)
    → leb 1 (length key) ≡ true → are_plain (key ∷ more) ≡ true
    → line_in draft (key ∷ more) ≡ Some longer → Reads longer rest script
    → Reads draft (line_of key more ++ rest) script
unfolding line_of
words_read draft longer key more rest script some plain is reads =
    let p = and_parts (are_above 43 key) (are_plain more) plain in
    let text = above_append 10 key (spaced more) (weaker 10 43 key (omega arith) p.0)
    (above_behind (λ (w : List ℕ). w) 10 32 more (omega arith) (weaker_each 10 more (omega arith) p.1)) in
    subst (λ (t : List ℕ). Reads draft t script) (sym (regroup key (spaced more) rest))
    (line_reads draft longer (key ++ spaced more) rest script text
    (words_line draft longer key more some plain is) reads)

-- ---- steps

-- a script of the steps so far and more
abbrev pub script_with : Plan → List Step → Script
script_with plan steps = record { plan = plan; steps = steps }

none_behind : (steps : List Step) → steps ++ [] ≡ steps
none_behind [] = refl
none_behind (step ∷ steps) = ap (λ (more : List Step). step ∷ more) (none_behind steps)

pub one_more : (plan : Plan) (before : List Step) (step : Step) → CanFollow plan before step
    → steps_with plan before (key_of step) (more_of step) ≡ Some (before ++ step ∷ [])
unfolding steps_with
one_more plan before step can = rw (can.said.again, can.stands) refl

-- the step's line
step_reads : (plan : Plan) (before : List Step) (step : Step) (rest : List ℕ) (script : Script)
    → CanFollow plan before step → Reads (Stepped plan (before ++ step ∷ [])) rest script
    → Reads (Stepped plan before) (printed.step_line step ++ rest) script
unfolding printed.step_line line_in stepped_line step_line
step_reads plan before step rest script can =
    words_read (Stepped plan before) (Stepped plan (before ++ step ∷ [])) (key_of step) (more_of step) rest script
    (step_names step).named can.said.plain
    (ap (λ (o : Option (List Step)). option_map (λ (longer : List Step). Stepped plan longer) o)
    (one_more plan before step can))

-- nothing behind the last step
end_reads : (plan : Plan) (steps : List Step) → Reads (Stepped plan steps) [] (script_with plan steps)
unfolding lines_in end_in script_of_draft
end_reads plan steps k = refl

-- behind other steps
pub steps_read : (plan : Plan) (before steps : List Step) → StepsFollow plan before steps
    → Reads (Stepped plan before) (flat_map printed.step_line steps) (script_with plan (before ++ steps))
steps_read plan before [] follow =
    subst (λ (all : List Step). Reads (Stepped plan before) [] (script_with plan all)) (sym (none_behind before))
    (end_reads plan before)
steps_read plan before (step ∷ steps) follow =
    subst
    (λ (all : List Step). Reads (Stepped plan before)
    (printed.step_line step ++ flat_map printed.step_line steps) (script_with plan all))
    (append_assoc before (step ∷ []) steps)
    (step_reads plan before step (flat_map printed.step_line steps)
    (script_with plan ((before ++ step ∷ []) ++ steps)) follow.0
    (steps_read plan (before ++ step ∷ []) steps follow.1))
