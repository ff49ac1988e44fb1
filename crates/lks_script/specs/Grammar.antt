-- What bytes say as a script, or the number of their first bad line.
use Rattle.std.specs.Prelude.{◌≡◌, ℕ, ◌+◌, ◌==◌, Bool, true, false, ◌&&◌, min, nat_lt, if◌then◌else◌, List, [], ◌∷◌}
use Rattle.std.specs.Prelude.{length, codes, Option, Some, None, Result, Ok, Err}
use Rattle.std.specs.List.{list_all}
use Rattle.std.specs.Option.{option_map}
use Rattle.std.specs.Str.{bytes_eq}
use Rattle.lks_base.specs.declared.limits.TheConstants.{MOST_EVENTS}
use Rattle.lks_base.specs.declared.plans.AuPlan.{AuPlan}
use Rattle.lks_base.specs.declared.plans.Plan.{Plan}
use Rattle.lks_base.specs.declared.plans.Rules.{Rules}
use Rattle.lks_script.specs.declared.drafts.Draft.{Draft}
use Rattle.lks_script.specs.declared.drafts.Draft.TheVariants.{Blank, Titled, Ruled, Planned, Stepped}
use Rattle.lks_script.specs.declared.drafts.PlanPart.{PlanPart}
use Rattle.lks_script.specs.declared.drafts.PlanPart.TheVariants as part
use Rattle.lks_script.specs.declared.faults.ScriptFault.{ScriptFault}
use Rattle.lks_script.specs.declared.faults.ScriptFault.TheVariants.{BadLine, Memory}
use Rattle.lks_lines.specs.declared.list_lines.ListKind.TheVariants.{Refs, Friends}
use Rattle.lks_lines.specs.declared.plan_lines.PlanDraft.{PlanDraft}
use Rattle.lks_script.specs.declared.steps.Script.{Script}
use Rattle.lks_script.specs.declared.steps.Step.{Step}
use Rattle.lks_words.specs.Numbers.{◌>>=◌, number_in}
use Rattle.lks_words.specs.Words.{parts}
use Rattle.lks_lines.specs.PlanLines.{rules_in, aus_with, begun_draft, draft_with_peer}
use Rattle.lks_lines.specs.ListLines.{draft_with_list, draft_with_hash}
use Rattle.lks_lines.specs.CopyLines.{draft_with_copy, draft_with_damage}
use Rattle.lks_script.specs.StepLines.{steps_with}

-- lockss 1
unfoldable pub title_line : List (List ℕ) → Option Draft
title_line (key ∷ version ∷ []) =
    if bytes_eq key (codes "lockss") && bytes_eq version (codes "1") then Some Titled else None
title_line _ = None

-- the word rules, and what they are
unfoldable pub rules_line : List (List ℕ) → Option Draft
rules_line (key ∷ more) =
    if bytes_eq key (codes "rules") then option_map (λ rules. Ruled rules None []) (rules_in more) else None
rules_line _ = None

-- turns N: once, before the AUs
unfoldable pub turns_line : Rules → Option ℕ → List AuPlan → List (List ℕ) → Option Draft
turns_line rules None [] (word ∷ []) = do
  turns ← number_in MOST_EVENTS word
  Some (Ruled rules (Some turns) [])
turns_line rules turns aus _ = None

-- au A COUNT: one more AU
unfoldable pub au_line : Rules → Option ℕ → List AuPlan → List (List ℕ) → Option Draft
au_line rules turns aus more = option_map (λ aus. Ruled rules turns aus) (aus_with aus more)

-- a peer line: one more peer
unfoldable pub peer_line : PlanDraft → List (List ℕ) → Option Draft
peer_line plan more = option_map (λ p. Planned part.Peers p) (draft_with_peer plan more)

-- behind the rules: how many turns there are, an AU, or the first peer
unfoldable pub ruled_line : Rules → Option ℕ → List AuPlan → List (List ℕ) → Option Draft
ruled_line rules turns aus (key ∷ more) =
    if bytes_eq key (codes "turns") then turns_line rules turns aus more
    else if bytes_eq key (codes "au") then au_line rules turns aus more
    else if bytes_eq key (codes "peer") then peer_line (begun_draft rules turns aus) more
    else None
ruled_line rules turns aus _ = None

-- the lines here declare peers
abbrev pub in_peers : PlanPart → Bool
in_peers part.Peers = true
in_peers _ = false

-- one step more
unfoldable pub step_line : Plan → List Step → List ℕ → List (List ℕ) → Option Draft
step_line plan steps key more = option_map (λ longer. Stepped plan longer) (steps_with plan steps key more)

-- behind the peers: a list, a hash, a copy, a damage, or the first step
unfoldable pub later_line : PlanDraft → List ℕ → List (List ℕ) → Option Draft
later_line plan key more =
    if bytes_eq key (codes "refs") then option_map (λ p. Planned part.Lists p) (draft_with_list Refs plan more)
    else if bytes_eq key (codes "friends")
    then option_map (λ p. Planned part.Lists p) (draft_with_list Friends plan more)
    else if bytes_eq key (codes "hash") then option_map (λ p. Planned part.Lists p) (draft_with_hash plan more)
    else if bytes_eq key (codes "copy") then option_map (λ p. Planned part.Lists p) (draft_with_copy plan more)
    else if bytes_eq key (codes "damage") then option_map (λ p. Planned part.Lists p) (draft_with_damage plan more)
    else step_line plan.plan [] key more

-- a peer may be declared here, and is
unfoldable pub declares_peer : PlanPart → List ℕ → Bool
declares_peer at key = in_peers at && bytes_eq key (codes "peer")

-- behind the first peer: one more, or what comes behind the peers
unfoldable pub planned_line : PlanPart → PlanDraft → List (List ℕ) → Option Draft
planned_line at plan (key ∷ more) = if declares_peer at key then peer_line plan more else later_line plan key more
planned_line at plan _ = None

-- behind the first step: one more
unfoldable pub stepped_line : Plan → List Step → List (List ℕ) → Option Draft
stepped_line plan steps (key ∷ more) = step_line plan steps key more
stepped_line plan steps _ = None

-- what the words of a line make of the script so far
unfoldable pub line_in : Draft → List (List ℕ) → Option Draft
line_in Blank words = title_line words
line_in Titled words = rules_line words
line_in (Ruled rules turns aus) words = ruled_line rules turns aus words
line_in (Planned at plan) words = planned_line at plan words
line_in (Stepped plan steps) words = stepped_line plan steps words

-- each byte is in ASCII
unfoldable pub are_ascii : List ℕ → Bool
are_ascii text = list_all (λ b. nat_lt b 128) text

-- a line that means nothing: an empty one, or a comment in ASCII
unfoldable pub means_nothing : List ℕ → Bool
means_nothing [] = true
means_nothing (first ∷ rest) = first == 35 && are_ascii rest

-- what a line makes of it
unfoldable pub with_line : Draft → List ℕ → Option Draft
with_line draft line = if means_nothing line then Some draft else line_in draft (parts 32 line)

-- the script, where its end may come here
unfoldable pub script_of_draft : Draft → Option Script
script_of_draft (Planned at plan) = Some (record { plan = plan.plan; steps = [] })
script_of_draft (Stepped plan steps) = Some (record { plan = plan; steps = steps })
script_of_draft _ = None

-- the number of a line, or the last one that has a place
unfoldable pub line_number : ℕ → ℕ
line_number k = min k 4294967295

-- behind the last line end: nothing, and the script is ended
unfoldable pub end_in : ℕ → Draft → List ℕ → Result Script ℕ
end_in k draft last =
    elim (if length last == 0 then script_of_draft draft else None) [
      | Some script ↦ Ok script
      | None ↦ Err (line_number k)
    ]

-- the lines from the k-th on, and what stands behind the last line end
unfoldable pub lines_in : ℕ → Draft → List (List ℕ) → Result Script ℕ
lines_in k draft [] = Err (line_number k)
lines_in k draft (last ∷ []) = end_in k draft last
lines_in k draft (line ∷ next ∷ lines) =
    elim (with_line draft line) [
      | Some longer ↦ lines_in (k + 1) longer (next ∷ lines)
      | None ↦ Err (line_number k)
    ]

-- the script that the bytes say, or its first bad line
unfoldable pub script_of : List ℕ → Result Script ℕ
script_of bytes = lines_in 1 Blank (parts 10 bytes)

-- a function answers so, unless it wants memory
abbrev pub Answers : Result Script ScriptFault → Result Script ℕ → Type 0
Answers (Ok script) said = said ≡ Ok script
Answers (Err (BadLine line)) said = said ≡ Err line
Answers (Err Memory) said = Unit {0}
