-- What is due after a history: envelopes that wait, work that is ready, and turns of peers. It is chosen without a
-- verdict.
use Rattle.std.specs.Prelude.{◌≡◌, ℕ, Bool, true, false, not, ◌==◌, if◌then◌else◌, Option, Some, None, is_some, List}
use Rattle.std.specs.Prelude.{[], ◌∷◌, ◌++◌, length, map, filter, slice_get}
use Rattle.std.specs.List.{list_any, filter_map, flat_map, range_with_len}
use Rattle.lks_base.specs.Steps.{Act, act_of}
use Rattle.lks_base.specs.declared.events.Due.{Due}
use Rattle.lks_base.specs.declared.events.Due.TheVariants.{Delivery, Own}
use Rattle.lks_base.specs.declared.events.Event.{Event}
use Rattle.lks_base.specs.declared.events.Event.TheVariants.{Step, Cut, Tick, Lose, Forge, Crash}
use Rattle.lks_base.specs.declared.events.PeerStep.{PeerStep}
use Rattle.lks_base.specs.declared.events.PeerStep.TheVariants.{OpenPoll, Widen, Shut, Tally, Nudge, GiveUp, Work}
use Rattle.lks_base.specs.declared.events.PeerStep.TheVariants.{Expire, Check, Tune, Deliver}
use Rattle.lks_base.specs.declared.names.Judged.{Judged}
use Rattle.lks_base.specs.declared.plans.Plan.{Plan}
use Rattle.lks_base.specs.declared.records.Record.{Record}
use Rattle.lks_law.specs.Journal.{openings, is_running, is_voting, is_widened, unanswered_request}
use Rattle.lks_law.specs.Reaction.{may_tally}
use Rattle.lks_law.specs.Sessions.{may_work, committed_polls}
use Rattle.lks_law.specs.World.{World, Standing, world}

-- whether the step delivers envelope i
abbrev pub delivers : ℕ → PeerStep → Bool
delivers i s = is_of (act_of s) where
  is_of : Act → Bool
  is_of (Act.Own peer) = false
  is_of (Act.Delivery envelope judged) = i == envelope

-- whether the event delivers or loses envelope i
abbrev pub takes_out : ℕ → Event → Bool
takes_out i (Step s) = delivers i s
takes_out i (Cut s kept) = delivers i s
takes_out i (Tick by) = false
takes_out i (Lose envelope) = i == envelope
takes_out i (Forge from to bytes) = false
takes_out i (Crash peer) = false

abbrev pub is_pending : List Event → ℕ → Bool
is_pending history i = not (list_any (takes_out i) history)

-- the envelopes, in order, that nothing took out
unfoldable pub pending : Plan → List Event → List ℕ
pending plan history = filter (is_pending history) (range_with_len 0 (length (world plan history).bag))

-- the votes for which a peer is ready, in order of its commitments
unfoldable pub works_at : Standing → List PeerStep
works_at s = map (Work s.own.id) (filter (λ q. may_work q s.journal) (committed_polls s.journal))

-- the tallies for which it is ready, by poll number
unfoldable pub tallies_at : Standing → List PeerStep
tallies_at s = map (Tally s.own.id) (filter (λ n. may_tally n s.journal) (range_with_len 1 (openings s.journal)))

-- the votes and then the tallies
abbrev pub ready_at : Standing → List PeerStep
ready_at s = works_at s ++ tallies_at s

-- the work that is ready, in the plan's order of peers
unfoldable pub ready : World → List PeerStep
ready w = flat_map ready_at w.peers

-- What a peer does about its running poll when nothing else is due: it gives up a request that is unanswered, else it
-- widens the poll, else it shuts it.

abbrev pub turn_at : ℕ → ℕ → Bool → Bool → Bool → Option PeerStep
turn_at id n asked voting widened =
    if asked then Some (GiveUp id n) else if voting then Some (if widened then Shut id n else Widen id n) else None

unfoldable pub turn_of : ℕ → List Record → ℕ → Option PeerStep
turn_of id journal n =
    if is_running n journal
    then turn_at id n (is_some (unanswered_request n journal)) (is_voting n journal) (is_widened n journal)
    else None

-- such steps of a peer, by poll number
unfoldable pub turns_at : Standing → List PeerStep
turns_at s = filter_map (turn_of s.own.id s.journal) (range_with_len 1 (openings s.journal))

-- those of all peers, in the plan's order
unfoldable pub turns : World → List PeerStep
turns w = flat_map turns_at w.peers

abbrev pub first_own : List PeerStep → Option Due
first_own [] = None
first_own (s ∷ ss) = Some (Own s)

-- the first envelope that waits, else the first of these steps
abbrev pub first_due : List ℕ → List PeerStep → Option Due
first_due [] steps = first_own steps
first_due (i ∷ is) steps = Some (Delivery i)

abbrev pub first_waiting : List ℕ → Option ℕ
first_waiting [] = None
first_waiting (i ∷ is) = Some i

-- the envelope that is lost first
unfoldable pub next_to_lose : Plan → List Event → Option ℕ
next_to_lose plan history = first_waiting (pending plan history)

-- What is done next: the first pending envelope is delivered;
unfoldable pub next_to_deliver : Plan → List Event → Option Due
next_to_deliver plan history = first_due (pending plan history) []

-- while a world settles, else the first ready work is done;
unfoldable pub next_to_settle : Plan → List Event → Option Due
next_to_settle plan history = first_due (pending plan history) (ready (world plan history))

-- until nothing is due, else a peer takes its turn.
unfoldable pub next_to_finish : Plan → List Event → Option Due
next_to_finish plan history =
    first_due (pending plan history) (ready (world plan history) ++ turns (world plan history))

-- What is due at all, of which threads take what they meet: each envelope that waits and each ready work, and the turns
-- of peers only where there is neither.

abbrev pub or_else : List Due → List Due → List Due
or_else [] others = others
or_else (d ∷ ds) others = d ∷ ds

unfoldable pub dues : Plan → List Event → List Due
dues plan history =
    or_else (map Delivery (pending plan history) ++ map Own (ready (world plan history)))
    (map Own (turns (world plan history)))

-- the event of what is due, whatever a judge says
abbrev pub IsEventOf : Due → Event → Type 0
IsEventOf (Delivery i) e = (says : Judged) × (e ≡ Step (Deliver i says))
IsEventOf (Own s) e = e ≡ Step s

-- the event is due after this history
pub record IsDue (plan : Plan) (history : List Event) (e : Event) : Type 0 where
  pub due : Due
  pub place : ℕ
  pub there : slice_get (dues plan history) place ≡ Some due
  pub made : IsEventOf due e

-- whether a step is the hashing of a vote or of a tally
abbrev pub is_work : PeerStep → Bool
is_work (OpenPoll peer au) = false
is_work (Widen peer number) = false
is_work (Shut peer number) = false
is_work (Tally peer number) = true
is_work (Nudge peer number) = false
is_work (GiveUp peer number) = false
is_work (Work peer poll) = true
is_work (Expire peer poll) = false
is_work (Check peer) = false
is_work (Tune peer quorum minority repairs) = false
is_work (Deliver envelope says) = false

abbrev pub is_work_event : Event → Bool
is_work_event (Step s) = is_work s
is_work_event (Cut s kept) = is_work s
is_work_event (Tick by) = false
is_work_event (Lose envelope) = false
is_work_event (Forge from to bytes) = false
is_work_event (Crash peer) = false

-- each of these events is due at its place
abbrev pub AreDue : Plan → List Event → List Event → Type 0
AreDue plan history [] = Unit {0}
AreDue plan history (e ∷ es) = IsDue plan history e × AreDue plan (history ++ e ∷ []) es
