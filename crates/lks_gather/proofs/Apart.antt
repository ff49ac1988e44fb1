-- No line of a script begins as one that gives a journal, so a script ends where its journals begin.
use Rattle.std.proofs.Common.{◌≡◌, ◌==◌, ◌&&◌, ◌+◌, ℕ, Bool, true, false, cond, not, List, [], ◌∷◌, ◌++◌, length}
use Rattle.std.proofs.Common.{take, drop, Option, Some, None, Result, Ok, Err, refl, sym, ap, subst, ◌∙◌, arith}
use Rattle.std.specs.List.{join_with_byte, onto_first}
use Rattle.std.specs.Cmp.{nat_eq_equiv}
use Rattle.std.specs.Prelude.{codes}
use Rattle.std.specs.Str.{bytes_eq}
use Rattle.std.proofs.lemmas.Bool.{and_parts, eqb-true}
use Rattle.std.proofs.lemmas.List.{append-nil}
use Rattle.std.proofs.lemmas.List.Splits.{join_with_byte-slice_split}
use Rattle.lks_base.specs.declared.plans.Plan.{Plan}
use Rattle.lks_lines.specs.declared.plan_lines.PlanDraft.{PlanDraft}
use Rattle.lks_script.specs.declared.drafts.Draft.{Draft}
use Rattle.lks_script.specs.declared.drafts.Draft.TheVariants.{Blank, Titled, Ruled, Planned, Stepped}
use Rattle.lks_script.specs.declared.drafts.PlanPart.{PlanPart}
use Rattle.lks_script.specs.declared.drafts.PlanPart.TheVariants as part
use Rattle.lks_script.specs.declared.steps.Script.{Script}
use Rattle.lks_script.specs.declared.steps.Step.{Step}
use Rattle.lks_script.specs.Grammar.{title_line, rules_line, ruled_line, step_line, later_line, declares_peer}
use Rattle.lks_script.specs.Grammar.{planned_line, stepped_line, line_in, means_nothing, with_line, script_of_draft}
use Rattle.lks_script.specs.Grammar.{line_number, end_in, lines_in, script_of}
use Rattle.lks_script.specs.StepLines.{own_poll_in, poll_step_in, in_own_poll, own_step_in, peer_step_in, step_in}
use Rattle.lks_script.specs.StepLines.{steps_with}
use Rattle.lks_base.specs.declared.events.PeerStep.{PeerStep}
use Rattle.lks_script.specs.declared.steps.Step.TheVariants.{Peer}
use Rattle.lks_words.specs.Numbers.{◌>>=◌}
use Rattle.lks_words.specs.Words.{parts}
use Rattle.lks_words.proofs.Steps.{some}
use Rattle.lks_gather.specs.Sets.{begins_journal, is_journal_at, script_from, journals_from, books_end, books_in}
use Rattle.lks_gather.specs.Sets.{with_books, with_script, set_of}

abbrev none : (A : Type 0) → Option A
none A = None

-- ---- the word `journal` names no line of a script

nothing : {A B : Type 0} (o : Option A) → (o >>= λ x. none B) ≡ None
nothing (Some x) = refl
nothing None = refl

no_step : (more : List (List ℕ)) → step_in (codes "journal") more ≡ None
unfolding step_in peer_step_in own_step_in in_own_poll poll_step_in
no_step more = ap (λ (o : Option PeerStep). o >>= λ step. some (Peer step)) (nothing (own_poll_in more))

no_step_line : (plan : Plan) (steps : List Step) (more : List (List ℕ))
    → step_line plan steps (codes "journal") more ≡ None
unfolding step_line steps_with
no_step_line plan steps more = rw (no_step more) refl

no_later : (plan : PlanDraft) (more : List (List ℕ)) → later_line plan (codes "journal") more ≡ None
unfolding later_line
no_later plan more = no_step_line plan.plan [] more

no_planned : (at : PlanPart) (plan : PlanDraft) (more : List (List ℕ))
    → planned_line at plan (codes "journal" ∷ more) ≡ None
unfolding planned_line declares_peer
no_planned part.Peers plan more = no_later plan more
no_planned part.Lists plan more = no_later plan more

no_title : (more : List (List ℕ)) → title_line (codes "journal" ∷ more) ≡ None
unfolding title_line
no_title [] = refl
no_title (version ∷ []) = refl
no_title (version ∷ word ∷ more) = refl

no_line : (draft : Draft) (more : List (List ℕ)) → line_in draft (codes "journal" ∷ more) ≡ None
unfolding line_in rules_line ruled_line stepped_line
no_line Blank more = no_title more
no_line Titled more = refl
no_line (Ruled rules turns aus) more = refl
no_line (Planned at plan) more = no_planned at plan more
no_line (Stepped plan steps) more = no_step_line plan steps more

not_with_line : (draft : Draft) (rest : List ℕ) → with_line draft (codes "journal " ++ rest) ≡ None
unfolding with_line means_nothing
not_with_line draft rest = no_line draft (parts 32 rest)

-- ---- a line that begins as one that gives a journal, and no other

is_false : (b : Bool) → not b ≡ true → b ≡ false
is_false true e = absurd cc
is_false false e = refl

and_left : (a b : Bool) → a ≡ false → (a && b) ≡ false
and_left true b e = absurd cc
and_left false b e = refl

and_again : (a b c : Bool) → (b ≡ false → c ≡ false) → (a && b) ≡ false → (a && c) ≡ false
and_again true b c f e = f e
and_again false b c f e = refl

by_test : (b : Bool) → (b ≡ true → ⊥) → b ≡ false
by_test true f = absurd (f refl)
by_test false f = refl

regroup : (line text rest : List ℕ) → line ++ 10 ∷ (text ++ rest) ≡ (line ++ 10 ∷ text) ++ rest
regroup [] text rest = refl
regroup (b ∷ line) text rest = ap (λ (t : List ℕ). b ∷ t) (regroup line text rest)

abbrev lacks : ℕ → List ℕ → Bool
lacks mark [] = true
lacks mark (c ∷ text) = not (c == mark) && lacks mark text

-- a text that begins so is that and a rest
begun : (front text : List ℕ) → bytes_eq (take (length front) text) front ≡ true
    → text ≡ front ++ drop (length front) text
begun [] text e = refl
begun (p ∷ front) [] e = absurd cc
begun (p ∷ front) (x ∷ text) e =
    let both = and_parts (x == p) (bytes_eq (take (length front) text) front) e in
    let head : x ≡ p = eqb-true x p both.0 in
    let tail = begun front text both.1 in λ i. head i ∷ tail i

-- a text doesn't begin so where a mark ends it before
unbegun : (mark : ℕ) (front text rest : List ℕ) → lacks mark front ≡ true
    → bytes_eq (take (length front) text) front ≡ false
    → bytes_eq (take (length front) (text ++ mark ∷ rest)) front ≡ false
unbegun mark [] text rest plain e = absurd cc
unbegun mark (p ∷ front) [] rest plain e =
    let both = and_parts (not (p == mark)) (lacks mark front) plain in
    and_left (mark == p) (bytes_eq (take (length front) rest) front)
    (nat_eq_equiv.symm mark p ∙ is_false (p == mark) both.0)
unbegun mark (p ∷ front) (x ∷ text) rest plain e =
    let both = and_parts (not (p == mark)) (lacks mark front) plain in
    and_again (x == p) (bytes_eq (take (length front) text) front)
    (bytes_eq (take (length front) (text ++ mark ∷ rest)) front) (unbegun mark front text rest both.1) e

-- a line of a script doesn't
script_line : (draft longer : Draft) (line : List ℕ) → with_line draft line ≡ Some longer → begins_journal line ≡ false
unfolding begins_journal
script_line draft longer line e =
    by_test (bytes_eq (take 8 line) (codes "journal "))
    (λ is. let no = ap (with_line draft) (begun (codes "journal ") line is)
    ∙ not_with_line draft (drop 8 line) in absurd (cc (e, no)))

line_unbegun : (line rest : List ℕ) → begins_journal line ≡ false → begins_journal (line ++ 10 ∷ rest) ≡ false
unfolding begins_journal
line_unbegun line rest e = unbegun 10 (codes "journal ") line rest refl e

-- ---- the script goes on behind such a line

abbrev pub AreApart : Bool → List ℕ → List ℕ → Type 0
AreApart starts text rest = (script_from starts (text ++ rest) ≡ text) × (journals_from starts (text ++ rest) ≡ rest)

one_byte : (starts : Bool) (b : ℕ) (text rest : List ℕ) → is_journal_at starts (b ∷ text ++ rest) ≡ false
    → AreApart (b == 10) text rest → AreApart starts (b ∷ text) rest
unfolding script_from journals_from
one_byte starts b text rest is apart = (rw (is, apart.0) refl, rw (is, apart.1) refl)

in_line : (b : ℕ) (text : List ℕ) → is_journal_at false (b ∷ text) ≡ false
unfolding is_journal_at
in_line b text = refl

at_start : (text : List ℕ) → begins_journal text ≡ false → is_journal_at true text ≡ false
unfolding is_journal_at
at_start text e = e

-- within a line
within_line : (line text rest : List ℕ) → lacks 10 line ≡ true → AreApart true text rest
    → AreApart false (line ++ 10 ∷ text) rest
within_line [] text rest plain apart = one_byte false 10 text rest (in_line 10 (text ++ rest)) apart
within_line (b ∷ line) text rest plain apart =
    let both = and_parts (not (b == 10)) (lacks 10 line) plain in
    one_byte false b (line ++ 10 ∷ text) rest (in_line b ((line ++ 10 ∷ text) ++ rest))
    (subst (λ (starts : Bool). AreApart starts (line ++ 10 ∷ text) rest) (sym (is_false (b == 10) both.0))
    (within_line line text rest both.1 apart))

pub one_line : (line text rest : List ℕ) → lacks 10 line ≡ true → begins_journal line ≡ false
    → AreApart true text rest → AreApart true (line ++ 10 ∷ text) rest
one_line [] text rest plain not_begun apart =
    one_byte true 10 text rest (at_start (10 ∷ text ++ rest) (line_unbegun [] (text ++ rest) not_begun)) apart
one_line (b ∷ line) text rest plain not_begun apart =
    let both = and_parts (not (b == 10)) (lacks 10 line) plain in
    one_byte true b (line ++ 10 ∷ text) rest
    (at_start (b ∷ (line ++ 10 ∷ text) ++ rest)
    (subst (λ (t : List ℕ). begins_journal t ≡ false) (regroup (b ∷ line) text rest)
    (line_unbegun (b ∷ line) (text ++ rest) not_begun)))
    (subst (λ (starts : Bool). AreApart starts (line ++ 10 ∷ text) rest) (sym (is_false (b == 10) both.0))
    (within_line line text rest both.1 apart))

-- ---- a whole script does

abbrev AreLines : List (List ℕ) → Type 0
AreLines [] = Unit {0}
AreLines (line ∷ lines) = (lacks 10 line ≡ true) × AreLines lines

one_part : (ends : Bool) (x : ℕ) (lines : List (List ℕ)) → x == 10 ≡ ends → AreLines lines
    → AreLines (cond ends ([] ∷ lines) (onto_first x lines))
one_part true x lines is h = (refl, h)
one_part false x [] is h = (rw is refl, tt)
one_part false x (line ∷ lines) is h = (rw (is, h.0) refl, h.1)

are_lines : (text : List ℕ) → AreLines (parts 10 text)
are_lines [] = (refl, tt)
are_lines (x ∷ text) = one_part (x == 10) x (parts 10 text) refl (are_lines text)

found_line : (o : Option Draft) (f : Draft → Result Script ℕ) (k : ℕ) (s : Script)
    → elim o as (λ _. Result Script ℕ) [ Some longer ↦ f longer | None ↦ Err k ] ≡ Ok s
    → (longer : Draft) × (o ≡ Some longer) × (f longer ≡ Ok s)
found_line (Some longer) f k s e = (longer, refl, e)
found_line None f k s e = absurd cc

is_ended : (ends : Bool) (o : Option Script) (k : ℕ) (s : Script)
    → elim (cond ends o None) as (λ _. Result Script ℕ) [ Some script ↦ Ok script | None ↦ Err k ] ≡ Ok s
    → ends ≡ true
is_ended true o k s e = refl
is_ended false o k s e = absurd cc

none_left : (text : List ℕ) → length text ≡ 0 → text ≡ []
none_left [] e = refl
none_left (b ∷ text) e = absurd (omega (arith, e))

ends_empty : (last : List ℕ) (o : Option Script) (k : ℕ) (s : Script)
    → elim (cond (length last == 0) o None) as (λ _. Result Script ℕ) [ Some script ↦ Ok script | None ↦ Err k ]
    ≡ Ok s
    → last ≡ []
ends_empty last o k s e = none_left last (eqb-true (length last) 0 (is_ended (length last == 0) o k s e))

lines_apart : (lines : List (List ℕ)) (k : ℕ) (draft : Draft) (s : Script) (rest : List ℕ)
    → lines_in k draft lines ≡ Ok s → AreLines lines → AreApart true [] rest
    → AreApart true (join_with_byte 10 lines) rest
unfolding lines_in end_in
lines_apart [] k draft s rest e are apart = absurd cc
lines_apart (last ∷ []) k draft s rest e are apart =
    subst (λ (t : List ℕ). AreApart true t rest)
    (sym (ends_empty last (script_of_draft draft) (line_number k) s e)) apart
lines_apart (line ∷ next ∷ lines) k draft s rest e are apart =
    let a = found_line (with_line draft line) (λ longer. lines_in (k + 1) longer (next ∷ lines)) (line_number k) s e in
    one_line line (join_with_byte 10 (next ∷ lines)) rest are.0 (script_line draft a.0 line a.1)
    (lines_apart (next ∷ lines) (k + 1) a.0 s rest a.2 are.1 apart)

-- a script, and what is behind it
pub text_apart : (text rest : List ℕ) (s : Script) → script_of text ≡ Ok s → AreApart true [] rest
    → AreApart true text rest
unfolding script_of
text_apart text rest s e apart =
    subst (λ (t : List ℕ). AreApart true t rest) (join_with_byte-slice_split 10 text)
    (lines_apart (parts 10 text) 1 Blank s rest e (are_lines text) apart)

-- nothing is behind it
pub none_behind : AreApart true [] []
unfolding script_from journals_from
none_behind = (refl, refl)

-- or a line that gives a journal
pub journals_behind : (rest : List ℕ) → begins_journal rest ≡ true → AreApart true [] rest
unfolding script_from journals_from is_journal_at
journals_behind [] e = (refl, refl)
journals_behind (b ∷ rest) e = (rw e refl, rw e refl)

-- so a set is a script and what the lines behind it say
pub set_behind : (text rest : List ℕ) (s : Script) → script_of text ≡ Ok s → AreApart true [] rest
    → set_of (text ++ rest) ≡ with_books s.plan (books_in (length (parts 10 text)) s.plan [] (parts 10 rest))
unfolding set_of
set_behind text rest s e apart =
    let both = text_apart text rest s e apart in
    ap (λ (t : List ℕ). with_script t (journals_from true (text ++ rest)) (script_of t)) both.0
    ∙ ap (λ (t : List ℕ). with_script text t (script_of text)) both.1 ∙ ap (with_script text rest) e

-- a script is a set without journals
pub script_is_set : (text : List ℕ) (s : Script) → script_of text ≡ Ok s
    → set_of text ≡ Ok (record { plan = s.plan; set = [] })
unfolding books_in books_end
script_is_set text s e = ap set_of (sym (append-nil text)) ∙ set_behind text [] s e none_behind
