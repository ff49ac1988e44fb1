-- A node as it goes on.
use Rattle.std.specs.Prelude.{◌≡◌, ◌≤◌, ◌↔◌, ℕ, false, List, Option, Some, Result, IfOk, OnOk, OnErr, IsErrOf}
use Rattle.lks_base.specs.declared.plans.AuPlan.{AuPlan}
use Rattle.lks_base.specs.declared.plans.Holding.{Holding}
use Rattle.lks_base.specs.declared.reactions.Reaction.{Reaction}
use Rattle.lks_base.specs.declared.records.Record.{Record}
use Rattle.lks_disk.specs.Counts.{Rose}
use Rattle.lks_disk.specs.Face.{Face}
use Rattle.lks_outside.specs.declared.questions.Question.{Question}
use Rattle.lks_host.specs.Cutting.{Falls}
use Rattle.lks_host.specs.Hosted.{StandsFor}
use Rattle.lks_law.specs.Batches.{with_batch}
use Rattle.lks_law.specs.Facts.{IsJournalOf}
use Rattle.lks_law.specs.State.{after_all, state_of}
use Rattle.lks_law.specs.World.{deposits}
use Rattle.lks_node.specs.Going.{Progress, journal_of}
use Rattle.lks_node.specs.declared.ends.Fall.{Fall}
use Rattle.lks_node.specs.declared.ends.Fall.TheVariants.{Failed, Memory}
use Rattle.lks_node.specs.declared.ends.Rest.TheVariants as rest
use Rattle.lks_node.specs.declared.ends.NodeStop.{NodeStop}
use Rattle.lks_node.specs.declared.ends.NodeStop.TheVariants.{Rested, Fell, Untold}
use Rattle.lks_node.specs.declared.frames.Unread.TheVariants as reading
use Rattle.lks_node.specs.declared.nodes.Node.{Node}
use Rattle.lks_outside.specs.Streams.{AddsFront}
use Rattle.lks_outside.specs.declared.sinks.WriteStop.TheVariants as writing

-- The node has come so far: its peer is in the state that its journal says, which is one of its own, and where its
-- store tells, it holds these batches.
pub record IsAt {D : Type 0} (f : Face D) (aus : List AuPlan) (copies : List Holding) (p : Progress) (node : Node D)
    (asked : List Question) : Type 0 where
  pub state : node.host.peer.state ≡ state_of node.host.peer.own (journal_of p)
  pub tick : node.tick ≡ p.tick
  pub heard : asked ≡ p.heard
  pub journal : IsJournalOf node.host.peer.own (deposits aus copies) p.tick (journal_of p)
  pub stands : f.told node.host.journal.disk → StandsFor f node.host p.batches

-- it can take steps while there is room: no call was refused, its blocks are in this pool, and no fuse is set
pub record IsFit {D : Type 0} (f : Face D) (pool : List ℕ) (node : Node D) : Type 0 where
  pub pooled : pool ≡ node.host.peer.pool
  pub whole : node.host.broken ≡ false
  pub unfused : f.fused node.host.journal.disk ≡ false

-- the same peer goes on, with the same pool, and without a fuse; the store tells what it told
pub record Stays {D : Type 0} (f : Face D) (old new : Node D) : Type 0 where
  pub own : new.host.peer.own ≡ old.host.peer.own
  pub pool : new.host.peer.pool ≡ old.host.peer.pool
  pub told : f.told old.host.journal.disk ↔ f.told new.host.journal.disk
  pub unfused : f.fused new.host.journal.disk ≡ f.fused old.host.journal.disk

-- `Failed` is answered only where the count of faults rose, which never falls, and doesn't rise at `Ok`
pub record HasCause {T : Type 0} (before now : ℕ) (result : Result T Fall) : Type 0 where
  pub later : before ≤ now
  pub failed : IsErrOf result Failed → Rose before now
  pub ok : OnOk result (now ≡ before)

-- This reaction is handed out once its records are on the store, and the peer is in the state that they make. Else a
-- crash leaves the batches from before, or these with the records.
pub record Acted {D : Type 0} (f : Face D) (old new : Node D) (r : Reaction) (result : Result Reaction Fall) : Type
    0 where
  pub reaction : IfOk result (λ x. x ≡ r)
  pub state : OnOk result (new.host.peer.state ≡ after_all old.host.peer.own old.host.peer.state r.records)
  pub stands : f.told old.host.journal.disk → (batches : List (List Record)) → StandsFor f old.host batches
      → OnOk result (StandsFor f new.host (with_batch batches r.records))
  pub falls : f.told old.host.journal.disk → (batches : List (List Record)) → StandsFor f old.host batches
      → OnErr result (Falls f batches (with_batch batches r.records) new.host.journal.disk)
  pub whole : OnOk result (new.host.broken ≡ false)
  pub stays : Stays f old new
  pub cause : HasCause (f.faults old.host.journal.disk) (f.faults new.host.journal.disk) result

-- where its store tells, a crash leaves what it held when it had come to p, or what it holds at q
abbrev pub FallsFrom : {D : Type 0} → Face D → Progress → Progress → Node D → Type 0
FallsFrom f p q node = f.told node.host.journal.disk → Falls f p.batches q.batches node.host.journal.disk

-- What is left of the answer to an order, which leads from p to q: the step wasn't taken and nothing was written, or it
-- was, and of the reply a front was written.
abbrev pub StopsIn : {D : Type 0} → Face D → List AuPlan → List Holding → Progress → Progress → List ℕ → Node D
    → List Question → Option (List ℕ) → Option (List ℕ) → NodeStop → Type 0
StopsIn f aus copies p q said node asked before now (Rested rest) = ⊥
StopsIn f aus copies p q said node asked before now (Fell fall) = FallsFrom f p q node × (now ≡ before)
StopsIn f aus copies p q said node asked before now (Untold stop) =
    IsAt f aus copies q node asked × ((bytes : List ℕ) → before ≡ Some bytes → AddsFront bytes said now)

-- why it stopped, by the counts of faults of the store and of the sink
abbrev pub IsCausedBy : ℕ → ℕ → ℕ → ℕ → NodeStop → Type 0
IsCausedBy store store_now sink sink_now (Rested rest) = ⊥
IsCausedBy store store_now sink sink_now (Fell Failed) = Rose store store_now
IsCausedBy store store_now sink sink_now (Fell Memory) = Unit {0}
IsCausedBy store store_now sink sink_now (Untold writing.Failed) = (store_now ≡ store) × Rose sink sink_now
IsCausedBy store store_now sink sink_now (Untold writing.Memory) = store_now ≡ store

-- why it stopped, by the counts of faults of source, store and sink; a store fails in a step alone
abbrev pub HasStopped : ℕ → ℕ → ℕ → ℕ → ℕ → ℕ → NodeStop → Type 0
HasStopped source source_now store store_now sink sink_now (Rested (rest.Unread reading.Failed)) =
    (store_now ≡ store) × Rose source source_now
HasStopped source source_now store store_now sink sink_now (Rested (rest.Unread reading.Memory)) = store_now ≡ store
HasStopped source source_now store store_now sink sink_now (Rested rest.Done) = store_now ≡ store
HasStopped source source_now store store_now sink sink_now (Rested rest.TooMany) = store_now ≡ store
HasStopped source source_now store store_now sink sink_now (Rested (rest.Bad i)) = store_now ≡ store
HasStopped source source_now store store_now sink sink_now (Rested rest.Memory) = store_now ≡ store
HasStopped source source_now store store_now sink sink_now (Rested rest.Full) = store_now ≡ store
HasStopped source source_now store store_now sink sink_now (Fell fall) =
    IsCausedBy store store_now sink sink_now (Fell fall)
HasStopped source source_now store store_now sink sink_now (Untold stop) =
    IsCausedBy store store_now sink sink_now (Untold stop)
