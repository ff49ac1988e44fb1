-- When a run of a node must succeed.
use Rattle.std.specs.Prelude.{◌≡◌, ◌≤◌, ◌⊎◌, ℕ, Option, Some, List, [], length, sum_by, Ok}
use Rattle.lks_base.specs.declared.limits.TheConstants.{MOST_EVENTS}
use Rattle.lks_base.specs.declared.plans.PeerPlan.{PeerPlan}
use Rattle.lks_base.specs.declared.records.Record.{Record}
use Rattle.lks_field.specs.Frames.{HoldsBodies}
use Rattle.lks_host.specs.Bodies.{bodies_of}
use Rattle.lks_law.specs.Batches.{together}
use Rattle.lks_law.specs.Behind.{latest_tick}
use Rattle.lks_law.specs.Polls.{Station}
use Rattle.lks_law.specs.Questions.{Verdicts}
use Rattle.lks_law.specs.World.{deposits, honest_peer, station_of}
use Rattle.lks_node.specs.Ending.{HadRoom}
use Rattle.lks_node.specs.Framing.{frame_of, Whole}
use Rattle.lks_node.specs.Going.{Progress, journal_of}
use Rattle.lks_node.specs.Opening.{BeginsWith, IsSorted}
use Rattle.lks_node.specs.Promise.{Told}
use Rattle.lks_node.specs.Telling.{Tell}
use Rattle.lks_node.specs.Words.{asked_in}
use Rattle.lks_node.specs.declared.opening.TheConstants.{MOST_BYTES}
use Rattle.lks_node.specs.declared.orders.Order.{Order}
use Rattle.lks_node.specs.declared.runs.TheConstants.{MOST_SCRIPT}
use Rattle.lks_node.specs.declared.statuses.NodeStatus.{NodeStatus}
use Rattle.lks_node.specs.declared.statuses.NodeStatus.TheVariants.{Done, NoMemory}
use Rattle.lks_script.specs.Grammar.{script_of}
use Rattle.lks_script.specs.declared.steps.Script.{Script}

-- A store of these bytes is empty, or it holds a journal of the peer's own, or the first of its deposits, which aren't
-- too long.
abbrev pub IsOwn : Station → List Record → List ℕ → Type 0
IsOwn own begun content =
    (content ≡ []) ⊎
    ((held : List (List Record)) × HoldsBodies (bodies_of held) content
    × IsSorted own begun (bodies_of held) (together held) × (sum_by length (bodies_of held) ≤ MOST_BYTES))

-- The words name a peer. The source tells a script in which it is honest, and behind it frames that tell orders, as
-- many as a run may take, and nothing else. The store tells its bytes, is the peer's own, and has room before each
-- order.
pub record HasWork (verdict : Verdicts) (told : Told) (words : List (List ℕ)) (left : Option (List ℕ)) : Type 0 where
  pub id : ℕ
  pub path : List ℕ
  pub named : asked_in words ≡ Some (id, path)
  pub bytes : List ℕ
  pub there : left ≡ Some bytes
  pub body : List ℕ
  pub behind : List ℕ
  pub first : frame_of MOST_SCRIPT bytes ≡ Whole body behind
  pub script : Script
  pub says : script_of body ≡ Ok script
  pub p : PeerPlan
  pub honest : honest_peer id script.plan ≡ Some p
  pub orders : List Order
  pub few : length orders ≤ MOST_EVENTS
  pub tell : Tell script.plan p.id behind orders []
  pub tells : told.tells
  pub own : IsOwn (station_of script.plan p) (deposits script.plan.aus p.copies) told.content
  pub room : (begun : Progress) → BeginsWith (deposits script.plan.aus p.copies) told.content begun.batches
      → begun.tick ≡ latest_tick (journal_of begun) → begun.heard ≡ []
      → HadRoom verdict (station_of script.plan p) begun orders

-- the answers to such work while no fault is counted
abbrev pub Completes : NodeStatus → Type 0
Completes answer = (answer ≡ Done) ⊎ (answer ≡ NoMemory)
