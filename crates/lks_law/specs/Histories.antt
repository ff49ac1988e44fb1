-- Which lists of events are histories of a plan.
use Rattle.std.specs.Prelude.{◌≡◌, ◌≤◌, ◌<◌, ℕ, Bool, true, false, is_some, List, [], ◌∷◌, length, get_or}
use Rattle.lks_base.specs.Checking.{has_peer, has_corrupt, has_honest}
use Rattle.lks_base.specs.Steps.{Act, act_of}
use Rattle.lks_base.specs.declared.events.Event.{Event}
use Rattle.lks_base.specs.declared.events.Event.TheVariants.{Step, Cut, Tick, Lose, Forge, Crash}
use Rattle.lks_base.specs.declared.events.PeerStep.{PeerStep}
use Rattle.lks_base.specs.declared.limits.TheConstants.{MOST_EVENTS, MOST_FORGED_BYTES, MOST_TICKS}
use Rattle.lks_base.specs.declared.names.Judged.{Judged}
use Rattle.lks_base.specs.declared.names.Judged.TheVariants.{NotAsked, Accepted, Refused}
use Rattle.lks_base.specs.declared.plans.Plan.{Plan}
use Rattle.lks_base.specs.declared.records.Record.{Record}
use Rattle.lks_law.specs.Questions.{question_at}
use Rattle.lks_law.specs.World.{World, start, deed_of, effect_of, happens}

abbrev pub was_judged : Judged → Bool
was_judged NotAsked = false
was_judged Accepted = true
was_judged Refused = true

abbrev pub IsHonest : Plan → ℕ → Type 0
IsHonest plan peer = has_honest plan.peers peer ≡ true

-- an envelope that was sent
abbrev pub WasSent : World → ℕ → Type 0
WasSent w envelope = envelope < length w.bag

-- An honest peer takes a step of its own, or an envelope that was sent is delivered. It is judged where it puts a
-- question.
abbrev pub MayStep : Plan → World → PeerStep → Type 0
MayStep plan w s = MayBe (act_of s) where
  MayBe : Act → Type 0
  MayBe (Act.Own peer) = IsHonest plan peer
  MayBe (Act.Delivery envelope judged) = WasSent w envelope × (was_judged judged ≡ is_some (question_at w envelope))

-- the records that a step adds
abbrev pub added_by : World → PeerStep → List Record
added_by w s = (effect_of w.tick w.peers (deed_of w.bag s)).records

-- bytes that a corrupt peer may send to a peer of the plan
pub record MayForge (plan : Plan) (from to : ℕ) (bytes : List ℕ) : Type 0 where
  pub corrupt : has_corrupt plan.peers from ≡ true
  pub known : has_peer plan.peers to ≡ true
  pub few : length bytes ≤ MOST_FORGED_BYTES
  pub are : (i : ℕ) → get_or bytes i 0 < 256

-- What may happen next in a world of the plan.
abbrev pub MayHappen : Plan → World → Event → Type 0
MayHappen plan w (Step s) = MayStep plan w s
MayHappen plan w (Cut s kept) = MayStep plan w s × (1 ≤ length (added_by w s))
MayHappen plan w (Tick by) = (1 ≤ by) × (by ≤ MOST_TICKS)
MayHappen plan w (Lose envelope) = WasSent w envelope
MayHappen plan w (Forge from to bytes) = MayForge plan from to bytes
MayHappen plan w (Crash peer) = IsHonest plan peer

-- what may happen one event after another
abbrev pub MayAllHappen : Plan → World → List Event → Type 0
MayAllHappen plan w [] = Unit {0}
MayAllHappen plan w (e ∷ es) = MayHappen plan w e × MayAllHappen plan (happens w e) es

-- a history of the plan: few events, each of which may happen where it stands
pub record IsHistory (plan : Plan) (history : List Event) : Type 0 where
  pub few : length history ≤ MOST_EVENTS
  pub may : MayAllHappen plan (start plan) history
