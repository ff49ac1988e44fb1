-- A judge and bells while a history goes on.
use Rattle.std.proofs.Common.{◌≡◌, ◌≤◌, ◌∙◌, ap, sym, ℕ, List, [], ◌∷◌, ◌++◌, length, refl, arith, append_assoc}
use Rattle.std.proofs.Common.{length-append}
use Rattle.std.specs.Prelude.{Option, Some, None}
use Rattle.std.specs.Option.{option_to_list}
use Rattle.std.proofs.lemmas.List.{append-nil}
use Rattle.lks_outside.proofs.Ringing.{raised-left_of}
use Rattle.lks_outside.specs.Bells.{left_of}
use Rattle.lks_outside.specs.declared.alarms.Alarm.{Alarm}
use Rattle.lks_base.specs.declared.events.Event.{Event}
use Rattle.lks_base.specs.declared.events.Event.TheVariants.{Step, Cut, Tick, Lose, Forge, Crash}
use Rattle.lks_base.specs.declared.plans.Plan.{Plan}
use Rattle.lks_outside.specs.declared.questions.Question.{Question}
use Rattle.lks_law.proofs.Happening.{questions_more, alarms_more}
use Rattle.lks_law.specs.Alarms.{alarms_by, alarms}
use Rattle.lks_law.specs.Questions.{asked_by, question_on, questions_from, questions}
use Rattle.lks_law.specs.World.{World, start, happens, world}
use Rattle.lks_watch.specs.Watching.{Watching, Asks, Rings, Watches, raised_all}

-- a history has at most as many questions as events

at_most_one : (o : Option Question) → length (option_to_list o) ≤ 1
at_most_one None = omega arith
at_most_one (Some q) = omega arith

asked_once : (w : World) (e : Event) → length (asked_by w e) ≤ 1
asked_once w (Step s) = at_most_one (question_on w s)
asked_once w (Cut s kept) = at_most_one (question_on w s)
asked_once w (Tick by) = omega arith
asked_once w (Lose envelope) = omega arith
asked_once w (Forge from to bytes) = omega arith
asked_once w (Crash peer) = omega arith

few_from : (w : World) (es : List Event) → length (questions_from w es) ≤ length es
few_from w [] = omega arith
few_from w (e ∷ es) =
    omega (
      arith,
      length-append (asked_by w e) (questions_from (happens w e) es),
      asked_once w e,
      few_from (happens w e) es,
    )

pub few_questions : (plan : Plan) (history : List Event) → length (questions plan history) ≤ length history
unfolding questions
few_questions plan history = few_from (start plan) history

-- Bells ring for more alarms.

raised_more : (more alarms : List Alarm) (limits : List ℕ)
    → raised_all more (left_of alarms limits) ≡ left_of (alarms ++ more) limits
raised_more [] alarms limits = ap (λ (all : List Alarm). left_of all limits) (sym (append-nil alarms))
raised_more (a ∷ more) alarms limits =
    ap (raised_all more) (raised-left_of a alarms limits)
    ∙ raised_more more (alarms ++ a ∷ []) limits
    ∙ ap (λ (all : List Alarm). left_of all limits) (append_assoc alarms (a ∷ []) more)

-- A history goes on by no event, by one, or by more.

pub watches_same : (plan : Plan) (history : List Event) (w : Watching) → Watches plan history history w w
watches_same plan history w = record { heard = λ is. is; verdict = refl; bells = λ limits is. is }

pub watches_then : (plan : Plan) (before mid after : List Event) (w x y : Watching) → Watches plan before mid w x
    → Watches plan mid after x y → Watches plan before after w y
watches_then plan before mid after w x y first then = record {
  heard = λ is. then.heard (first.heard is);
  verdict = then.verdict ∙ first.verdict;
  bells = λ limits is. then.bells limits (first.bells limits is);
}

pub watches_event : (plan : Plan) (history : List Event) (e : Event) (w x y : Watching)
    → Asks (asked_by (world plan history) e) w x → Rings (alarms_by (world plan history) e) x y
    → Watches plan history (history ++ e ∷ []) w y
watches_event plan history e w x y asks rings = record {
  heard =
      λ is. rings.heard ∙ asks.heard ∙ ap (λ (qs : List Question). qs ++ asked_by (world plan history) e) is
      ∙ sym (questions_more plan history e);
  verdict = rings.verdict ∙ asks.verdict;
  bells = λ limits is.
      rings.bells ∙ ap (raised_all (alarms_by (world plan history) e)) (asks.bells ∙ is)
      ∙ raised_more (alarms_by (world plan history) e) (alarms plan history) limits
      ∙ ap (λ (all : List Alarm). left_of all limits) (sym (alarms_more plan history e));
}

-- nothing is asked, and no alarm is raised

pub asks_nothing : (w : Watching) → Asks [] w w
asks_nothing w = record { heard = sym (append-nil w.heard); verdict = refl; bells = refl }

pub rings_nothing : (w : Watching) → Rings [] w w
rings_nothing w = record { heard = refl; verdict = refl; bells = refl }
