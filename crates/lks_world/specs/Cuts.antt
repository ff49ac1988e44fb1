-- Steps that are cut off: which ones, and what becomes of them.
use Rattle.std.specs.Prelude.{◌≡◌, ◌≤◌, ◌<◌, ◌⊎◌, ℕ, Bool, false, nat_lt, if◌then◌else◌, Option, Some, None, List, []}
use Rattle.std.specs.Prelude.{length, slice_get, option_map}
use Rattle.lks_base.specs.Steps.{Act, act_of}
use Rattle.lks_base.specs.declared.events.Due.{Due}
use Rattle.lks_base.specs.declared.events.Due.TheVariants.{Delivery, Own}
use Rattle.lks_base.specs.declared.events.Envelope.{Envelope}
use Rattle.lks_base.specs.declared.events.Event.{Event}
use Rattle.lks_base.specs.declared.events.Event.TheVariants as events
use Rattle.lks_base.specs.declared.events.PeerStep.{PeerStep}
use Rattle.lks_base.specs.declared.events.PeerStep.TheVariants.{Deliver}
use Rattle.lks_base.specs.declared.plans.Plan.{Plan}
use Rattle.lks_law.specs.Due.{pending}
use Rattle.lks_law.specs.Entries.{receiver_of}
use Rattle.lks_law.specs.Histories.{added_by}
use Rattle.lks_law.specs.Questions.{Verdicts, judgement_on, question_at, questions}
use Rattle.lks_law.specs.World.{Standing, peer_at, world}
use Rattle.lks_script.specs.declared.steps.CutStep.{CutStep}
use Rattle.lks_script.specs.declared.steps.CutStep.TheVariants as cut
use Rattle.lks_world.specs.Kept.{with_event}

-- who takes a step: of a delivery the receiver
abbrev pub taker_of : List Envelope → PeerStep → ℕ
taker_of bag s = taker_in (act_of s) where
  taker_in : Act → ℕ
  taker_in (Act.Own peer) = peer
  taker_in (Act.Delivery envelope judged) = receiver_of (slice_get bag envelope)

-- What a line cuts off. It is nothing where no envelope waits, or where the one that is named wasn't sent.
unfoldable pub due_cut : Plan → List Event → CutStep → Option Due
due_cut plan history cut.Next = option_map Delivery (slice_get (pending plan history) 0)
due_cut plan history (cut.Again i) = if nat_lt i (length (world plan history).bag) then Some (Delivery i) else None
due_cut plan history (cut.Peer s) = Some (Own s)

-- the step of what is due: a delivery has what the judge says
abbrev pub step_due : Verdicts → Plan → List Event → Due → PeerStep
step_due verdict plan history (Delivery i) =
    Deliver i (judgement_on verdict (questions plan history) (question_at (world plan history) i))
step_due verdict plan history (Own s) = s

-- the step that a line cuts off
unfoldable pub step_cut : Verdicts → Plan → List Event → CutStep → Option PeerStep
step_cut verdict plan history given = option_map (step_due verdict plan history) (due_cut plan history given)

-- The step is cut off. It is kept or lost as a whole, and lost where fewer than two calls of the disk were made.
pub record IsCutOff (history : List Event) (calls : ℕ) (s : PeerStep) (after : List Event) : Type 0 where
  pub is_kept : Bool
  pub early : calls < 2 → is_kept ≡ false
  pub more : after ≡ with_event history (events.Cut s is_kept)

-- an honest peer takes the step, which adds records, and fewer calls are made than the four that write them
pub record FallsShort (plan : Plan) (history : List Event) (calls : ℕ) (s : PeerStep) : Type 0 where
  pub peer : Standing
  pub honest : peer_at (taker_of (world plan history).bag s) (world plan history).peers ≡ Some peer
  pub adds : added_by (world plan history) s ≡ [] → ⊥
  pub few : calls < 4

-- What becomes of a step where the power of its peer fails after so many calls of the disk.
pub record Cuts (plan : Plan) (history : List Event) (calls : ℕ) (s : PeerStep) (after : List Event) : Type 0 where
  -- where no honest peer takes it, it is done
  pub alone : peer_at (taker_of (world plan history).bag s) (world plan history).peers ≡ None
      → after ≡ with_event history (events.Step s)
  -- where its power falls short, it is cut off
  pub short : FallsShort plan history calls s → IsCutOff history calls s after
  -- else it is done, and then the power fails
  pub whole : (p : Standing) → peer_at (taker_of (world plan history).bag s) (world plan history).peers ≡ Some p
      → (added_by (world plan history) s ≡ []) ⊎ (4 ≤ calls)
      → after ≡ with_event (with_event history (events.Step s)) (events.Crash (taker_of (world plan history).bag s))

-- the same of what a line cuts off: nothing happens where it is no step
abbrev pub CutsOff : Plan → List Event → ℕ → Option PeerStep → List Event → Type 0
CutsOff plan history calls None after = after ≡ history
CutsOff plan history calls (Some s) after = Cuts plan history calls s after
