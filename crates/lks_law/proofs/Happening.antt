-- A history and one event more: what may happen, and what is asked.
use Rattle.std.proofs.Common.{◌≡◌, ◌<◌, ◌==◌, ◌∙◌, ap, sym, subst, ℕ, zero, suc, Bool, true, false, cond, List, []}
use Rattle.std.proofs.Common.{◌∷◌, ◌++◌, length, filter, refl, arith, append_assoc}
use Rattle.std.specs.Prelude.{Option, Some, None, is_some, slice_get, ◌&&◌, ◌||◌}
use Rattle.std.specs.List.{list_any}
use Rattle.std.proofs.lemmas.Bool.{eq-eqb, and_from, or_left, or_right}
use Rattle.std.proofs.lemmas.List.{length-append, append-nil}
use Rattle.lks_outside.specs.declared.alarms.Alarm.{Alarm}
use Rattle.lks_base.specs.Checking.{has_honest}
use Rattle.lks_base.specs.declared.events.Event.{Event}
use Rattle.lks_base.specs.declared.limits.TheConstants.{MOST_EVENTS}
use Rattle.lks_base.specs.declared.names.Judged.TheVariants.{Accepted, Refused}
use Rattle.lks_base.specs.declared.plans.PeerPlan.{PeerPlan}
use Rattle.lks_base.specs.declared.plans.Plan.{Plan}
use Rattle.lks_outside.specs.declared.questions.Question.{Question}
use Rattle.lks_law.specs.Alarms.{alarms_by, alarms_from, alarms}
use Rattle.lks_law.specs.Due.{pending, first_waiting, next_to_lose}
use Rattle.lks_law.specs.Facts.{HasJournal}
use Rattle.lks_law.specs.Histories.{was_judged, IsHonest, MayHappen, MayAllHappen, IsHistory}
use Rattle.lks_law.specs.Questions.{Verdicts, judgement_on, question_at, asked_by, questions_from, questions}
use Rattle.lks_law.specs.Questions.{delivery_of}
use Rattle.lks_law.specs.World.{World, Standing, is_honest, happens, happen_all, world}
use Rattle.lks_law.proofs.Histories.{waiting_stands}
use Rattle.lks_law.proofs.Journals.{journals_are_own}

-- A history goes on by what may happen.

all_may_more : (plan : Plan) (w : World) (history : List Event) (e : Event) → MayAllHappen plan w history
    → MayHappen plan (happen_all w history) e → MayAllHappen plan w (history ++ e ∷ [])
all_may_more plan w [] e all may = (may, tt)
all_may_more plan w (d ∷ ds) e all may = (all.0, all_may_more plan (happens w d) ds e all.1 may)

pub no_events : (plan : Plan) → IsHistory plan []
no_events plan = record { few = omega arith; may = tt }

pub history_more : (plan : Plan) (history : List Event) (e : Event) → IsHistory plan history
    → length history < MOST_EVENTS → MayHappen plan (world plan history) e → IsHistory plan (history ++ e ∷ [])
unfolding world
history_more plan history e is room may =
    let all = length-append history (e ∷ []) in
    let one : length (e ∷ []) ≡ 1 = refl in
    record { few = omega (arith, room, all, one); may = all_may_more plan _ history e is.may may }

-- Questions and alarms grow with the history.

questions_last : (w : World) (history : List Event) (e : Event)
    → questions_from w (history ++ e ∷ []) ≡ questions_from w history ++ asked_by (happen_all w history) e
questions_last w [] e = append-nil _
questions_last w (d ∷ ds) e =
    ap (λ (qs : List Question). asked_by w d ++ qs) (questions_last (happens w d) ds e)
    ∙ sym (append_assoc (asked_by w d) _ _)

pub questions_more : (plan : Plan) (history : List Event) (e : Event)
    → questions plan (history ++ e ∷ []) ≡ questions plan history ++ asked_by (world plan history) e
unfolding questions world
questions_more plan history e = questions_last _ history e

alarms_last : (w : World) (history : List Event) (e : Event)
    → alarms_from w (history ++ e ∷ []) ≡ alarms_from w history ++ alarms_by (happen_all w history) e
alarms_last w [] e = append-nil _
alarms_last w (d ∷ ds) e =
    ap (λ (raised : List Alarm). alarms_by w d ++ raised) (alarms_last (happens w d) ds e)
    ∙ sym (append_assoc (alarms_by w d) _ _)

pub alarms_more : (plan : Plan) (history : List Event) (e : Event)
    → alarms plan (history ++ e ∷ []) ≡ alarms plan history ++ alarms_by (world plan history) e
unfolding alarms world
alarms_more plan history e = alarms_last _ history e

-- Each peer of a world is an honest one of its plan.

listed_honest : (ps : List PeerPlan) (place : ℕ) (p : PeerPlan) → slice_get (filter is_honest ps) place ≡ Some p
    → has_honest ps p.id ≡ true
unfolding has_honest
listed_honest [] place p at = absurd cc
listed_honest (q ∷ qs) place p at = by_test (is_honest q) refl place at (λ k later. listed_honest qs k p later)
  where
    by_test : (b : Bool) → is_honest q ≡ b → (place : ℕ)
        → slice_get (cond b (q ∷ filter is_honest qs) (filter is_honest qs)) place ≡ Some p
        → ((k : ℕ) → slice_get (filter is_honest qs) k ≡ Some p → list_any (λ r. r.id == p.id && is_honest r) qs ≡ true)
        → ((q.id == p.id && is_honest q) || list_any (λ r. r.id == p.id && is_honest r) qs) ≡ true
    by_test true honest zero at rest =
        let same : q ≡ p = cc in
        or_left _ _
        (and_from _ _ (eq-eqb q.id p.id (ap (λ (x : PeerPlan). x.id) same)) honest)
    by_test true honest (suc k) at rest = or_right _ _ (rest k at)
    by_test false honest k at rest = or_right _ _ (rest k at)

pub standing_honest : (plan : Plan) (history : List Event) (place : ℕ) (s : Standing)
    → slice_get (world plan history).peers place ≡ Some s → IsHonest plan s.own.id
standing_honest plan history place s at =
    by_plan (slice_get _ place) refl ((journals_are_own plan history).each place s at)
  where
    by_plan : (o : Option PeerPlan) → slice_get (filter is_honest plan.peers) place ≡ o
        → HasJournal plan (world plan history).tick o s → IsHonest plan s.own.id
    by_plan None listed has = absurd has
    by_plan (Some p) listed has =
        subst (λ own. IsHonest plan own.id) (sym has.0) (listed_honest plan.peers place p listed)

was_judged_is : (verdict : Verdicts) (before : List Question) (q : Option Question)
    → was_judged (judgement_on verdict before q) ≡ is_some q
was_judged_is verdict before None = refl
was_judged_is verdict before (Some q) = by_verdict (verdict before q)
  where
    by_verdict : (b : Bool) → was_judged (cond b Accepted Refused) ≡ true
    by_verdict true = refl
    by_verdict false = refl

module _ (verdict : Verdicts) (plan : Plan) (history : List Event) where
  -- an envelope that was sent is delivered
  pub delivery_may : (i : ℕ) → i < length (world plan history).bag
      → MayHappen plan (world plan history) (delivery_of verdict plan history i)
  delivery_may i sent = (sent, was_judged_is verdict (questions plan history) (question_at (world plan history) i))

  pub lose_may : (i : ℕ) → next_to_lose plan history ≡ Some i → i < length (world plan history).bag
  unfolding next_to_lose
  lose_may i is = by_waiting (pending plan history) refl is
    where
      by_waiting : (waiting : List ℕ) → pending plan history ≡ waiting → first_waiting waiting ≡ Some i
          → i < length (world plan history).bag
      by_waiting [] wait first = absurd cc
      by_waiting (j ∷ js) wait first =
          let same : j ≡ i = cc in
          subst (λ k. k < length (world plan history).bag) same (waiting_stands plan history j js wait)
