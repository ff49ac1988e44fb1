-- What a run of a node promises, at each answer.
use Rattle.std.specs.Prelude.{◌≡◌, ◌⊎◌, ℕ, Option, Some, None, List, Ok, Err}
use Rattle.lks_base.specs.declared.plans.PeerPlan.{PeerPlan}
use Rattle.lks_base.specs.declared.plans.Plan.{Plan}
use Rattle.lks_disk.specs.Counts.{Rose}
use Rattle.lks_disk.specs.Face.{Face}
use Rattle.lks_outside.specs.declared.questions.Question.{Question}
use Rattle.lks_law.specs.Questions.{Verdicts}
use Rattle.lks_law.specs.World.{deposits, honest_peer, station_of}
use Rattle.lks_node.specs.Being.{HasStopped}
use Rattle.lks_node.specs.Codes.{status_of}
use Rattle.lks_node.specs.Ending.{Ends}
use Rattle.lks_node.specs.Framing.{frame_of, Ended, Broken, Whole}
use Rattle.lks_node.specs.Opening.{IsBegun, IsUnready}
use Rattle.lks_node.specs.Words.{asked_in}
use Rattle.lks_node.specs.declared.ends.NodeEnd.{NodeEnd}
use Rattle.lks_node.specs.declared.ends.NodeEnd.TheVariants as end
use Rattle.lks_node.specs.declared.ends.NodeStop.{NodeStop}
use Rattle.lks_node.specs.declared.ends.Unready.TheVariants as unready
use Rattle.lks_node.specs.declared.ends.NoScript.{NoScript}
use Rattle.lks_node.specs.declared.ends.NoScript.TheVariants.{Unread, Unframed, Unsaid}
use Rattle.lks_node.specs.declared.frames.Unread.TheVariants as reading
use Rattle.lks_node.specs.declared.nodes.Node.{Node}
use Rattle.lks_node.specs.declared.runs.TheConstants.{MOST_SCRIPT}
use Rattle.lks_node.specs.declared.statuses.NodeStatus.{NodeStatus}
use Rattle.lks_script.specs.Grammar.{script_of}
use Rattle.lks_script.specs.declared.faults.ScriptFault.TheVariants as script
use Rattle.lks_script.specs.declared.steps.Script.{Script}
use Rattle.lks_store.specs.Opening.{IsOpened}

-- The first frame of the source is a script with this plan. What is said of a source's bytes holds where it tells them.
pub record IsScripted (left now : Option (List ℕ)) (plan : Plan) : Type 0 where
  pub body : List ℕ
  pub script : Script
  pub says : script_of body ≡ Ok script
  pub plan_is : script.plan ≡ plan
  pub first : (bytes : List ℕ) → left ≡ Some bytes
      → (rest : List ℕ) × (frame_of MOST_SCRIPT bytes ≡ Whole body rest) × (now ≡ Some rest)

-- there is no first frame, or it is no script
abbrev pub IsUnscripted : Option (List ℕ) → NoScript → Type 0
IsUnscripted left (Unread e) = Unit {0}
IsUnscripted left Unframed =
    (bytes : List ℕ) → left ≡ Some bytes → (frame_of MOST_SCRIPT bytes ≡ Ended) ⊎ (frame_of MOST_SCRIPT bytes ≡ Broken)
IsUnscripted left (Unsaid (script.BadLine line)) =
    (body : List ℕ) × (script_of body ≡ Err line)
    × ((bytes : List ℕ) → left ≡ Some bytes → (rest : List ℕ) × (frame_of MOST_SCRIPT bytes ≡ Whole body rest))
IsUnscripted left (Unsaid script.Memory) = Unit {0}

module _ {D : Type 0} (f : Face D) (verdict : Verdicts) (plan : Plan) (p : PeerPlan)
    (left before now : Option (List ℕ)) (asked : List Question) (store store_now : D) where
  -- the peer's journal was made or taken over, and it answered frames as `Ends` says; the store is handed back as it
  -- left it
  pub record Answers (stop : NodeStop) : Type 0 where
    pub node : Node D
    pub begun : IsBegun f plan p store node
    pub last : Node D
    pub ends : Ends f verdict plan (station_of plan p) plan.aus p.copies begun.first left before now last asked stop
    pub back : store_now ≡ last.host.journal.disk

  -- so it goes on with the peer of this plan, or the store doesn't become a journal of its own
  abbrev pub Serves : NodeEnd → Type 0
  Serves end.Unnamed = ⊥
  Serves (end.Unopened stop) = ⊥
  Serves (end.Unscripted none) = ⊥
  Serves end.Strange = ⊥
  Serves (end.Unready why) =
      IsUnready f (station_of plan p) (deposits plan.aus p.copies) store store_now why × (now ≡ before)
  Serves (end.Answered stop) = Answers stop

module _ {D : Type 0} (f : Face D) (verdict : Verdicts) (id : ℕ) (left before now : Option (List ℕ))
    (asked : List Question) (store store_now : D) where
  -- the first frame is a script with this honest peer, and it came so far
  pub record HasPeer (e : NodeEnd) : Type 0 where
    pub plan : Plan
    pub behind : Option (List ℕ)
    pub scripted : IsScripted left behind plan
    pub p : PeerPlan
    pub there : honest_peer id plan ≡ Some p
    pub serves : Serves f verdict plan p behind before now asked store store_now e

  -- it has no such honest peer
  pub record IsStrange : Type 0 where
    pub plan : Plan
    pub behind : Option (List ℕ)
    pub scripted : IsScripted left behind plan
    pub nobody : honest_peer id plan ≡ None

  -- how far a run came over a store that was opened; before its journal was there nothing was written
  abbrev pub ComesOver : NodeEnd → Type 0
  ComesOver end.Unnamed = ⊥
  ComesOver (end.Unopened stop) = ⊥
  ComesOver (end.Unscripted none) = IsUnscripted left none × (store_now ≡ store) × (now ≡ before)
  ComesOver end.Strange = IsStrange × (store_now ≡ store) × (now ≡ before)
  ComesOver (end.Unready why) = HasPeer (end.Unready why)
  ComesOver (end.Answered stop) = HasPeer (end.Answered stop)

-- which counts of faults rose: of the source, the store and the sink
abbrev pub HasEnded : ℕ → ℕ → ℕ → ℕ → ℕ → ℕ → NodeEnd → Type 0
HasEnded source source_now store store_now sink sink_now end.Unnamed = Unit {0}
HasEnded source source_now store store_now sink sink_now (end.Unopened stop) = Unit {0}
HasEnded source source_now store store_now sink sink_now (end.Unscripted (Unread reading.Failed)) =
    Rose source source_now
HasEnded source source_now store store_now sink sink_now (end.Unscripted (Unread reading.Memory)) = Unit {0}
HasEnded source source_now store store_now sink sink_now (end.Unscripted Unframed) = Unit {0}
HasEnded source source_now store store_now sink sink_now (end.Unscripted (Unsaid fault)) = Unit {0}
HasEnded source source_now store store_now sink sink_now end.Strange = Unit {0}
HasEnded source source_now store store_now sink sink_now (end.Unready unready.Failed) = Rose store store_now
HasEnded source source_now store store_now sink sink_now (end.Unready unready.Memory) = Unit {0}
HasEnded source source_now store store_now sink sink_now (end.Unready (unready.Damaged offset)) = Unit {0}
HasEnded source source_now store store_now sink sink_now (end.Unready unready.Full) = Unit {0}
HasEnded source source_now store store_now sink sink_now (end.Unready (unready.Foreign batch)) = Unit {0}
HasEnded source source_now store store_now sink sink_now (end.Answered stop) =
    HasStopped source source_now store store_now sink sink_now stop

-- what the opener told of the store that it was to give, and how often that had failed
pub record Told : Type 1 where
  pub tells : Type 0
  pub content : List ℕ
  pub faults : ℕ

module _ {D : Type 0} (f : Face D) (verdict : Verdicts) (told : Told) (words : List (List ℕ))
    (left before now : Option (List ℕ)) (asked : List Question) where
  -- the words name a peer, and the store at this path was opened
  pub record Opens (store_now : D) (e : NodeEnd) : Type 0 where
    pub id : ℕ
    pub path : List ℕ
    pub named : asked_in words ≡ Some (id, path)
    pub store : D
    pub opened : IsOpened f told.tells told.content told.faults store
    pub came : ComesOver f verdict id left before now asked store store_now e

  -- how far a run came; a store is handed back where one was opened
  abbrev pub Comes : NodeEnd → Option D → Type 0
  Comes end.Unnamed None = (asked_in words ≡ None) × (now ≡ before)
  Comes (end.Unopened stop) None = (id : ℕ) × (path : List ℕ) × (asked_in words ≡ Some (id, path)) × (now ≡ before)
  Comes (end.Unscripted none) None = ⊥
  Comes end.Strange None = ⊥
  Comes (end.Unready why) None = ⊥
  Comes (end.Answered stop) None = ⊥
  Comes e (Some store_now) = Opens store_now e

  -- the answer says how far the run came
  pub record Promise (answer : NodeStatus) (store_now : Option D) : Type 0 where
    pub end : NodeEnd
    pub answered : answer ≡ status_of end
    pub came : Comes end store_now
