-- Fronts of what a step makes of a history.
use Rattle.std.proofs.Common.{◌≡◌, ◌≤◌, ◌<◌, ◌⊎◌, ◌∙◌, inl, inr, ap, sym, refl, ℕ, zero, suc, Bool, true, false, cond}
use Rattle.std.proofs.Common.{List, [], ◌∷◌, ◌++◌, length, append_assoc, arith}
use Rattle.std.specs.Prelude.{Option, Some, None, nat_lt}
use Rattle.std.specs.Option.{option_map_or}
use Rattle.std.proofs.lemmas.Bool.{cases_lt}
use Rattle.std.proofs.lemmas.List.{append-nil}
use Rattle.lks_base.specs.declared.events.Event.{Event}
use Rattle.lks_base.specs.declared.events.Event.TheVariants as events
use Rattle.lks_base.specs.declared.events.PeerStep.{PeerStep}
use Rattle.lks_base.specs.declared.limits.TheConstants.{MOST_EVENTS}
use Rattle.lks_base.specs.declared.plans.Plan.{Plan}
use Rattle.lks_base.specs.declared.records.Record.{Record}
use Rattle.lks_host.proofs.Cuts.{none_or_some}
use Rattle.lks_law.specs.Due.{next_to_settle, next_to_deliver, next_to_lose, next_to_finish}
use Rattle.lks_law.specs.Histories.{added_by}
use Rattle.lks_law.specs.Questions.{Verdicts, delivery_of}
use Rattle.lks_law.specs.World.{Standing, peer_at, world}
use Rattle.lks_saying.specs.Sayings.{Saying, said_by}
use Rattle.lks_script.specs.declared.steps.Step.{Step}
use Rattle.lks_script.specs.declared.steps.Step.TheVariants as step
use Rattle.lks_world.proofs.Ending.{off_full}
use Rattle.lks_world.proofs.Keeping.{kept_room}
use Rattle.lks_world.specs.Cuts.{taker_of, step_cut, FallsShort, Cuts, CutsOff}
use Rattle.lks_world.specs.Follows.{IsUpTo, Performs, delivered_again, done, done_within, next_lost, next_event}
use Rattle.lks_world.specs.Follows.{with_saying}
use Rattle.lks_world.specs.Follows.{step_in}
use Rattle.lks_world.specs.Kept.{with_event}

-- a history that goes on from another one
abbrev pub GoesFrom : List Event → List Event → Type 0
GoesFrom history after = (rest : List Event) × (after ≡ history ++ rest)

stays_there : (history : List Event) → GoesFrom history history
stays_there history = ([], sym (append-nil history))

pub kept_front : (history : List Event) (e : Event) → GoesFrom history (with_event history e)
kept_front history e = by_room (nat_lt (length history) MOST_EVENTS)
  where
    by_room : (b : Bool) → GoesFrom history (cond b (history ++ e ∷ []) history)
    by_room true = (e ∷ [], refl)
    by_room false = stays_there history

pub done_front : (next : Plan → List Event → Option Event) (n : ℕ) (plan : Plan) (history : List Event)
    → GoesFrom history (done_within next n plan history)
done_front next zero plan history = stays_there history
done_front next (suc n) plan history = by_next (next plan history) (λ e. done_front next n plan (history ++ e ∷ []))
  where
    by_next : (o : Option Event)
        → ((e : Event) → GoesFrom (history ++ e ∷ []) (done_within next n plan (history ++ e ∷ [])))
        → GoesFrom history (option_map_or (λ e. done_within next n plan (history ++ e ∷ [])) o history)
    by_next None more = stays_there history
    by_next (Some e) more = let rest = more e in (e ∷ rest.0, rest.1 ∙ append_assoc history (e ∷ []) rest.0)

-- so many more, of which one is the next
pub done_next : (next : Plan → List Event → Option Event) (n : ℕ) (plan : Plan) (history : List Event) (e : Event)
    → Some e ≡ next plan history
    → (rest : List Event) × (done_within next (suc n) plan history ≡ history ++ e ∷ rest)
done_next next n plan history e is =
    let rest = done_front next n plan (history ++ e ∷ []) in (
      rest.0,
      ap (λ o. option_map_or (λ d. done_within next n plan (history ++ d ∷ [])) o history) (sym is) ∙ rest.1
          ∙ append_assoc history (e ∷ []) rest.0,
    )

pub all_done_front : (next : Plan → List Event → Option Event) (times : ℕ) (plan : Plan) (history : List Event)
    → GoesFrom history (done next times plan history)
unfolding done
all_done_front next times plan history = done_front next _ plan history

lost_front : (plan : Plan) (history : List Event) → GoesFrom history (next_lost plan history)
unfolding next_lost
lost_front plan history = by_next (next_to_lose plan history)
  where
    by_next : (o : Option ℕ) → GoesFrom history (option_map_or (λ i. with_event history (events.Lose i)) o history)
    by_next None = stays_there history
    by_next (Some i) = kept_front history (events.Lose i)

pub again_front : (verdict : Verdicts) (i : ℕ) (plan : Plan) (history : List Event)
    → GoesFrom history (delivered_again verdict i plan history)
unfolding delivered_again
again_front verdict i plan history = by_sent (nat_lt i (length (world plan history).bag))
  where
    by_sent : (b : Bool) → GoesFrom history (cond b (with_event history (delivery_of verdict plan history i)) history)
    by_sent true = kept_front history (delivery_of verdict plan history i)
    by_sent false = stays_there history

spoken_front : (history : List Event) (said : Option Saying) → GoesFrom history (with_saying history said)
spoken_front history None = stays_there history
spoken_front history (Some x) = kept_front history _

-- Nothing was begun.

pub none_begun : (P : List Event → Type 0) (history whole : List Event) → P whole → GoesFrom history whole
    → IsUpTo P history None
none_begun P history whole is more = record { whole = whole; is = is; rest = more.0; front = more.1; begun = inl refl }

-- The step of the next event was.

pub one_begun : (P : List Event → Type 0) (history whole rest : List Event) (e : Event) (p : PeerStep) → P whole
    → whole ≡ history ++ e ∷ rest → step_in e ≡ Some p → IsUpTo P history (Some p)
one_begun P history whole rest e p is front named =
    record { whole = whole; is = is; rest = e ∷ rest; front = front; begun = inr (sym named) }

pub kept_begun : (P : List Event → Type 0) (history : List Event) (p : PeerStep) → length history < MOST_EVENTS
    → P (with_event history (events.Step p)) → IsUpTo P history (Some p)
kept_begun P history p room is =
    one_begun P history (with_event history (events.Step p)) [] (events.Step p) p is
    (kept_room history (events.Step p) room) refl

-- A step during which the power fails was begun.
module _ (plan : Plan) (history : List Event) (calls : ℕ) (p : PeerStep) (room : length history < MOST_EVENTS) where
  abbrev taken : Option Standing
  taken = peer_at (taker_of (world plan history).bag p) (world plan history).peers

  abbrev records : List Record
  records = added_by (world plan history) p

  crashes : Event
  crashes = events.Crash (taker_of (world plan history).bag p)

  alone : taken ≡ None → IsUpTo (Cuts plan history calls p) history (Some p)
  alone none =
      kept_begun (Cuts plan history calls p) history p room
      (record {
        alone = λ is. refl;
        short =
            λ (short : FallsShort plan history calls p). let both : None
            ≡ Some short.peer = sym none ∙ short.honest in absurd cc;
        whole = λ x there spent. let both : None ≡ Some x = sym none ∙ there in absurd cc;
      })

  spent : (x : Standing) → taken ≡ Some x → (records ≡ []) ⊎ (4 ≤ calls)
      → IsUpTo (Cuts plan history calls p) history (Some p)
  unfolding crashes
  spent x there is =
      let rest = kept_front (history ++ events.Step p ∷ []) crashes in
      one_begun (Cuts plan history calls p) history (with_event (with_event history (events.Step p)) crashes) rest.0
      (events.Step p) p
      (record {
        alone = λ none. let both : None ≡ Some x = sym none ∙ there in absurd cc;
        short =
            λ (short : FallsShort plan history calls p). absurd
            (elim is [ inl none ↦ short.adds none | inr four ↦ omega (arith, short.few, four) ]);
        whole = λ y honest again. refl;
      })
      (ap (λ es. with_event es crashes) (kept_room history (events.Step p) room) ∙ rest.1
      ∙ append_assoc history (events.Step p ∷ []) rest.0) refl

  short : (x : Standing) → taken ≡ Some x → (records ≡ [] → ⊥) → calls < 4
      → IsUpTo (Cuts plan history calls p) history (Some p)
  short x there some few =
      one_begun (Cuts plan history calls p) history (with_event history (events.Cut p false)) [] (events.Cut p false) p
      (record {
        alone = λ none. let both : None ≡ Some x = sym none ∙ there in absurd cc;
        short = λ is. record { is_kept = false; early = λ early. refl; more = refl };
        whole = λ y honest is. absurd (elim is [ inl none ↦ some none | inr four ↦ omega (arith, few, four) ]);
      })
      (kept_room history (events.Cut p false) room) refl

  pub cut_begun : IsUpTo (Cuts plan history calls p) history (Some p)
  cut_begun = by_peer taken refl
    where
      by_peer : (o : Option Standing) → taken ≡ o → IsUpTo (Cuts plan history calls p) history (Some p)
      by_peer None none = alone none
      by_peer (Some x) there = elim (none_or_some records) [
        | inl none ↦ spent x there (inl none)
        | inr some ↦ elim (cases_lt calls 4) [ inl few ↦ short x there some few | inr four ↦ spent x there (inr four) ]
      ]

-- Every step makes something of a history that goes on from it.

pub cut_not_begun : (plan : Plan) (history : List Event) (calls : ℕ) (o : Option PeerStep)
    → IsUpTo (CutsOff plan history calls o) history None
cut_not_begun plan history calls None =
    none_begun (CutsOff plan history calls None) history history refl (stays_there history)
cut_not_begun plan history calls (Some p) = elim (cases_lt (length history) MOST_EVENTS) [
  | inl room ↦ let begun =
      cut_begun plan history calls p room in
      none_begun (Cuts plan history calls p) history begun.whole begun.is (begun.rest, begun.front)
  | inr full
      ↦ none_begun (Cuts plan history calls p) history history (off_full plan history calls (Some p) full)
      (stays_there history)
]

pub not_begun : (verdict : Verdicts) (plan : Plan) (history : List Event) (s : Step)
    → IsUpTo (Performs verdict plan history s) history None
not_begun verdict plan history (step.Peer s) = none_begun _ history _ refl (kept_front history (events.Step s))
not_begun verdict plan history (step.Tick by) = none_begun _ history _ refl (kept_front history (events.Tick by))
not_begun verdict plan history (step.Next times) =
    none_begun _ history _ refl (all_done_front (next_event verdict next_to_deliver) times plan history)
not_begun verdict plan history step.Lose = none_begun _ history _ refl (lost_front plan history)
not_begun verdict plan history (step.Again envelope) =
    none_begun _ history _ refl (again_front verdict envelope plan history)
not_begun verdict plan history step.Settle =
    none_begun _ history _ refl (all_done_front (next_event verdict next_to_settle) MOST_EVENTS plan history)
not_begun verdict plan history step.Finish =
    none_begun _ history _ refl (all_done_front (next_event verdict next_to_finish) MOST_EVENTS plan history)
not_begun verdict plan history (step.Forge from to bytes) =
    none_begun _ history _ refl (kept_front history (events.Forge from to bytes))
not_begun verdict plan history (step.SayPoll from to number au) =
    none_begun _ history _ refl (spoken_front history (said_by plan (step.SayPoll from to number au)))
not_begun verdict plan history (step.SayProof from to number) =
    none_begun _ history _ refl (spoken_front history (said_by plan (step.SayProof from to number)))
not_begun verdict plan history (step.SayRequest from to number block) =
    none_begun _ history _ refl (spoken_front history (said_by plan (step.SayRequest from to number block)))
not_begun verdict plan history (step.SayReceipt from to number) =
    none_begun _ history _ refl (spoken_front history (said_by plan (step.SayReceipt from to number)))
not_begun verdict plan history (step.SayChallenge from to number agrees) =
    none_begun _ history _ refl (spoken_front history (said_by plan (step.SayChallenge from to number agrees)))
not_begun verdict plan history (step.SayNominate from to number nominees) =
    none_begun _ history _ refl (spoken_front history (said_by plan (step.SayNominate from to number nominees)))
not_begun verdict plan history (step.SayVote from to number au blocks) =
    none_begun _ history _ refl (spoken_front history (said_by plan (step.SayVote from to number au blocks)))
not_begun verdict plan history (step.SayRepair from to number block bytes) =
    none_begun _ history _ refl (spoken_front history (said_by plan (step.SayRepair from to number block bytes)))
not_begun verdict plan history (step.Crash peer) = none_begun _ history _ refl (kept_front history (events.Crash peer))
not_begun verdict plan history (step.Cut calls choice s) =
    cut_not_begun plan history calls (step_cut verdict plan history s)
