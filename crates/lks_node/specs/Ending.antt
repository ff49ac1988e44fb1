-- Where a node stops, and what it leaves.
use Rattle.std.specs.Prelude.{◌≡◌, ◌≤◌, ◌<◌, ◌+◌, ◌-◌, ℕ, Option, Some, List, [], ◌∷◌, ◌++◌, length}
use Rattle.lks_base.specs.declared.limits.TheConstants.{MOST_EVENTS}
use Rattle.lks_base.specs.declared.plans.AuPlan.{AuPlan}
use Rattle.lks_base.specs.declared.plans.Holding.{Holding}
use Rattle.lks_base.specs.declared.plans.Plan.{Plan}
use Rattle.lks_base.specs.declared.records.Record.{Record}
use Rattle.lks_disk.specs.Face.{Face}
use Rattle.lks_outside.specs.declared.questions.Question.{Question}
use Rattle.lks_field.specs.Frames.{frames}
use Rattle.lks_host.specs.Bodies.{bodies_of}
use Rattle.lks_law.specs.Polls.{Station}
use Rattle.lks_law.specs.Questions.{Verdicts}
use Rattle.lks_node.specs.Being.{IsAt, StopsIn}
use Rattle.lks_node.specs.Going.{Progress, after, after_all, does, replies}
use Rattle.lks_node.specs.Replies.{reply}
use Rattle.lks_node.specs.Telling.{Begins, ForNext, HaltsAt, Tell}
use Rattle.lks_node.specs.declared.ends.Rest.TheVariants as rest
use Rattle.lks_node.specs.declared.ends.NodeStop.{NodeStop}
use Rattle.lks_node.specs.declared.ends.NodeStop.TheVariants.{Rested, Fell, Untold}
use Rattle.lks_node.specs.declared.nodes.Node.{Node}
use Rattle.lks_node.specs.declared.orders.Order.{Order}

-- a journal of these batches has room for what an order may add
abbrev pub HasRoom : List (List Record) → Type 0
HasRoom batches = 32768 ≤ 2147483647 - (length (frames (bodies_of batches)) + 1)

-- so it had before each of these orders
abbrev pub HadRoom : Verdicts → Station → Progress → List Order → Type 0
HadRoom verdict own p [] = Unit {0}
HadRoom verdict own p (o ∷ os) = HasRoom p.batches × HadRoom verdict own (after verdict own p o) os

module _ {D : Type 0} (f : Face D) (verdict : Verdicts) (plan : Plan) (own : Station) (aus : List AuPlan)
    (copies : List Holding) where
  -- It had come to q, and then stopped. Between two frames it stays where it was, and nothing is written. In a step,
  -- and in a reply, it is as far as `StopsIn` says.
  abbrev pub Leaves : Progress → Option Order → Option (List ℕ) → Option (List ℕ) → Node D → List Question → NodeStop
      → Type 0
  Leaves q next before now node asked (Rested rest.Done) = IsAt f aus copies q node asked × (now ≡ before)
  Leaves q next before now node asked (Rested rest.TooMany) = IsAt f aus copies q node asked × (now ≡ before)
  Leaves q next before now node asked (Rested (rest.Unread e)) = IsAt f aus copies q node asked × (now ≡ before)
  Leaves q next before now node asked (Rested (rest.Bad i)) = IsAt f aus copies q node asked × (now ≡ before)
  Leaves q next before now node asked (Rested rest.Memory) = IsAt f aus copies q node asked × (now ≡ before)
  Leaves q next before now node asked (Rested rest.Full) =
      IsAt f aus copies q node asked × (now ≡ before) × (2147483647 - (node.host.journal.end + 1) < 32768)
  Leaves q next before now node asked (Fell fall) =
      (f.told node.host.journal.disk → HasRoom q.batches)
      × ForNext next
      (λ o. StopsIn f aus copies q (after verdict own q o) (reply (does verdict own q o)) node asked before now
      (Fell fall))
  Leaves q next before now node asked (Untold stop) =
      (f.told node.host.journal.disk → HasRoom q.batches)
      × ForNext next
      (λ o. StopsIn f aus copies q (after verdict own q o) (reply (does verdict own q o)) node asked before now
      (Untold stop))

  -- From p it took one order, which was answered.
  pub record Turns (p : Progress) (left left_now before now : Option (List ℕ)) (node : Node D)
      (asked : List Question) : Type 0 where
    pub order : Order
    pub told : (bytes : List ℕ) → left ≡ Some bytes
        → (more : List ℕ) × Begins plan own.id bytes order more × (left_now ≡ Some more)
    pub said : (bytes : List ℕ) → before ≡ Some bytes → now ≡ Some (bytes ++ reply (does verdict own p order))
    pub room : f.told node.host.journal.disk → HasRoom p.batches
    pub at : IsAt f aus copies (after verdict own p order) node asked

  -- so it stops behind n orders, where the source has these bytes left and the sink took these
  pub record Halts (n : ℕ) (q : Progress) (left before now : Option (List ℕ)) (node : Node D)
      (asked : List Question) (stop : NodeStop) : Type 0 where
    pub next : Option Order
    pub why : (bytes : List ℕ) → left ≡ Some bytes → HaltsAt plan own.id n next bytes stop
    pub leaves : Leaves q next before now node asked stop

  -- From p it took these orders, of which each was answered, and then stopped.
  pub record Ends (p : Progress) (left before now : Option (List ℕ)) (node : Node D) (asked : List Question)
      (stop : NodeStop) : Type 0 where
    pub orders : List Order
    pub few : length orders ≤ MOST_EVENTS
    -- what the source had left, and the sink had taken, when it stopped
    pub left_then : Option (List ℕ)
    pub taken_then : Option (List ℕ)
    pub told : (bytes : List ℕ) → left ≡ Some bytes
        → (more : List ℕ) × Tell plan own.id bytes orders more × (left_then ≡ Some more)
    pub said : (bytes : List ℕ) → before ≡ Some bytes → taken_then ≡ Some (bytes ++ replies verdict own p orders)
    pub room : f.told node.host.journal.disk → HadRoom verdict own p orders
    pub halts : Halts (length orders) (after_all verdict own p orders) left_then taken_then now node asked stop
