-- Who takes a step, and which step a line cuts off.
use Rattle.std.proofs.Common.{◌≡◌, ◌≤◌, ◌∙◌, ap, subst, ℕ, Bool, true, false, cond, List, [], ◌∷◌, length, refl, arith}
use Rattle.std.specs.Prelude.{Option, Some, None, IfSome, slice_get, option_map, nat_lt}
use Rattle.std.proofs.lemmas.Bool.{ltb-true}
use Rattle.lks_base.specs.declared.events.Due.{Due}
use Rattle.lks_base.specs.declared.events.Due.TheVariants.{Delivery, Own}
use Rattle.lks_base.specs.declared.events.Envelope.{Envelope}
use Rattle.lks_base.specs.declared.events.Event.{Event}
use Rattle.lks_base.specs.declared.events.Event.TheVariants.{Step}
use Rattle.lks_base.specs.declared.events.PeerStep.{PeerStep}
use Rattle.lks_base.specs.declared.events.PeerStep.TheVariants.{OpenPoll, Widen, Shut, Tally, Nudge, GiveUp, Work}
use Rattle.lks_base.specs.declared.events.PeerStep.TheVariants.{Expire, Check, Tune, Deliver}
use Rattle.lks_base.specs.declared.messages.Message.{Message}
use Rattle.lks_base.specs.declared.plans.Plan.{Plan}
use Rattle.lks_law.proofs.Happening.{delivery_may, lose_may, standing_honest}
use Rattle.lks_law.proofs.Linking.{at_own, found_at}
use Rattle.lks_law.specs.Due.{pending, first_waiting, next_to_lose}
use Rattle.lks_law.specs.Entries.{receiver_of}
use Rattle.lks_law.specs.Histories.{IsHonest, MayStep}
use Rattle.lks_law.specs.Questions.{Verdicts, event_of}
use Rattle.lks_law.specs.World.{Standing, world, got, delivers, message_in, deed_of, own_deed_of, peer_at}
use Rattle.lks_script.specs.StepRules.{is_cut_step}
use Rattle.lks_script.specs.declared.steps.CutStep.{CutStep}
use Rattle.lks_script.specs.declared.steps.CutStep.TheVariants as cut
use Rattle.lks_world.proofs.CountLaws.{some_is}
use Rattle.lks_world.proofs.OwnSteps.{own_may}
use Rattle.lks_world.specs.Cuts.{taker_of, due_cut, step_due, step_cut}

-- what a step is to a peer, it is to the one that takes it
pub whose_deed : (bag : List Envelope) (s : PeerStep) → IfSome (deed_of bag s) (λ d. d.peer ≡ taker_of bag s)
unfolding deed_of own_deed_of
whose_deed bag (OpenPoll peer au) = refl
whose_deed bag (Widen peer number) = refl
whose_deed bag (Shut peer number) = refl
whose_deed bag (Tally peer number) = refl
whose_deed bag (Nudge peer number) = refl
whose_deed bag (GiveUp peer number) = refl
whose_deed bag (Work peer poll) = refl
whose_deed bag (Expire peer poll) = refl
whose_deed bag (Check peer) = refl
whose_deed bag (Tune peer quorum minority repairs) = refl
whose_deed bag (Deliver envelope judged) = by_envelope (slice_get bag envelope)
  where
    by_message : (e : Envelope) (m : Option Message) → IfSome (got e judged m) (λ d. d.peer ≡ e.to)
    by_message e None = tt
    by_message e (Some m) = refl

    by_envelope : (o : Option Envelope) → IfSome (delivers o judged) (λ d. d.peer ≡ receiver_of o)
    by_envelope None = tt
    by_envelope (Some e) = by_message e (message_in e.bytes)

-- a peer of a world is honest

pub honest_at : (plan : Plan) (history : List Event) (id : ℕ) (s : Standing)
    → peer_at id (world plan history).peers ≡ Some s → IsHonest plan id
honest_at plan history id s e =
    let at = found_at id (world plan history).peers s e in
    subst (IsHonest plan) (at_own id (world plan history).peers s e) (standing_honest plan history at.0 s at.1)

-- records that are there are one or more
pub some_length : {X : Type 0} (xs : List X) → (xs ≡ [] → ⊥) → 1 ≤ length xs
some_length [] some = absurd (some refl)
some_length (x ∷ xs) some = omega arith

-- What is cut off may happen.

waits : (waiting : List ℕ) (i : ℕ) → slice_get waiting 0 ≡ Some i → first_waiting waiting ≡ Some i
waits [] i e = absurd cc
waits (j ∷ js) i e = let same : j ≡ i = cc in ap Some same

due_may : (verdict : Verdicts) (plan : Plan) (history : List Event) (given : CutStep)
    → is_cut_step plan given ≡ true → (d : Due) → due_cut plan history given ≡ Some d
    → MayStep plan (world plan history) (step_due verdict plan history d)
unfolding is_cut_step due_cut next_to_lose
due_may verdict plan history cut.Next legal d is = by_first (slice_get (pending plan history) 0) refl is
  where
    by_first : (o : Option ℕ) → slice_get (pending plan history) 0 ≡ o → option_map Delivery o ≡ Some d
        → MayStep plan (world plan history) (step_due verdict plan history d)
    by_first None none is = absurd cc
    by_first (Some i) first is =
        subst (λ x. MayStep plan (world plan history) (step_due verdict plan history x)) (some_is is)
        (delivery_may verdict plan history i (lose_may verdict plan history i (waits (pending plan history) i first)))
due_may verdict plan history (cut.Again i) legal d is = by_sent (nat_lt i (length (world plan history).bag)) refl is
  where
    by_sent : (b : Bool) → nat_lt i (length (world plan history).bag) ≡ b → cond b (Some (Delivery i)) None ≡ Some d
        → MayStep plan (world plan history) (step_due verdict plan history d)
    by_sent true sent is =
        subst (λ x. MayStep plan (world plan history) (step_due verdict plan history x)) (some_is is)
        (delivery_may verdict plan history i (ltb-true i (length (world plan history).bag) sent))
    by_sent false never is = absurd cc
due_may verdict plan history (cut.Peer p) legal d is =
    subst (λ x. MayStep plan (world plan history) (step_due verdict plan history x)) (some_is is)
    (own_may plan (world plan history) p legal)

pub cut_may : (verdict : Verdicts) (plan : Plan) (history : List Event) (given : CutStep)
    → is_cut_step plan given ≡ true → (s : PeerStep) → step_cut verdict plan history given ≡ Some s
    → MayStep plan (world plan history) s
unfolding step_cut
cut_may verdict plan history given legal s is = by_due (due_cut plan history given) refl is
  where
    by_due : (o : Option Due) → due_cut plan history given ≡ o
        → option_map (step_due verdict plan history) o ≡ Some s → MayStep plan (world plan history) s
    by_due None none is = absurd cc
    by_due (Some d) there is =
        subst (MayStep plan (world plan history)) (some_is is) (due_may verdict plan history given legal d there)

-- the step of what a line cuts off, once it was judged

due_named : (verdict : Verdicts) (plan : Plan) (history : List Event) (d : Due) (s : PeerStep)
    → Step s ≡ event_of verdict plan history d → step_due verdict plan history d ≡ s
due_named verdict plan history (Delivery i) s made = cc
due_named verdict plan history (Own p) s made = cc

pub cut_named : (verdict : Verdicts) (plan : Plan) (history : List Event) (given : CutStep) (d : Due) (s : PeerStep)
    → due_cut plan history given ≡ Some d → Step s ≡ event_of verdict plan history d
    → step_cut verdict plan history given ≡ Some s
unfolding step_cut
cut_named verdict plan history given d s there made =
    ap (option_map (step_due verdict plan history)) there ∙ ap Some (due_named verdict plan history d s made)

pub none_cut : (verdict : Verdicts) (plan : Plan) (history : List Event) (given : CutStep)
    → due_cut plan history given ≡ None → step_cut verdict plan history given ≡ None
unfolding step_cut
none_cut verdict plan history given none = ap (option_map (step_due verdict plan history)) none

-- what holds of what is there, and what follows from it
pub if_some : {X : Type 0} {P Q : X → Type 0} (o : Option X) → ((x : X) → P x → Q x) → IfSome o P → IfSome o Q
if_some None f p = tt
if_some (Some x) f p = f x p

pub if_any : {X : Type 0} {P : X → Type 0} (o : Option X) → ((x : X) → P x) → IfSome o P
if_any None f = tt
if_any (Some x) f = f x

pub if_both : {X : Type 0} (P Q : X → Type 0) (o : Option X) → IfSome o P → IfSome o Q → IfSome o (λ x. P x × Q x)
if_both P Q None p q = tt
if_both P Q (Some x) p q = (p, q)
