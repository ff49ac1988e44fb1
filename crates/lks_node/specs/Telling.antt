-- What the frames of a source tell, one after another, and where they end.
use Rattle.std.specs.Prelude.{◌≡◌, ◌⊎◌, ◌<◌, ◌+◌, ℕ, Option, Some, None, List, [], ◌∷◌, Result, Ok, Err}
use Rattle.lks_base.specs.declared.limits.TheConstants.{MOST_EVENTS}
use Rattle.lks_base.specs.declared.plans.Plan.{Plan}
use Rattle.lks_node.specs.Framing.{frame_of, Broken, Whole}
use Rattle.lks_node.specs.Orders.{order_in}
use Rattle.lks_node.specs.declared.answering.TheConstants.{MOST_BODY}
use Rattle.lks_node.specs.declared.ends.Rest.{Rest}
use Rattle.lks_node.specs.declared.ends.Rest.TheVariants as rest
use Rattle.lks_node.specs.declared.ends.NodeStop.{NodeStop}
use Rattle.lks_node.specs.declared.ends.NodeStop.TheVariants.{Rested, Fell, Untold}
use Rattle.lks_node.specs.declared.orders.Order.{Order}

-- the bytes begin with a frame that tells this
abbrev pub Begins : Plan → ℕ → List ℕ → Order → List ℕ → Type 0
Begins plan id bytes o more =
    (body : List ℕ) × (frame_of MOST_BODY bytes ≡ Whole body more) × (order_in plan id body ≡ Some o)

-- they begin with frames that tell these, one after another
abbrev pub Tell : Plan → ℕ → List ℕ → List Order → List ℕ → Type 0
Tell plan id bytes [] more = bytes ≡ more
Tell plan id bytes (o ∷ os) more = (behind : List ℕ) × Begins plan id bytes o behind × Tell plan id behind os more

-- they begin with what is no frame, or with one that tells nothing
abbrev pub IsBad : Plan → ℕ → List ℕ → Type 0
IsBad plan id bytes =
    (frame_of MOST_BODY bytes ≡ Broken) ⊎
    ((body more : List ℕ) × (frame_of MOST_BODY bytes ≡ Whole body more) × (order_in plan id body ≡ None))

-- the next order is there, and this is so of it
abbrev pub ForNext : Option Order → (Order → Type 0) → Type 0
ForNext None P = ⊥
ForNext (Some o) P = P o

-- what was found next, of which the frame has this number
abbrev pub IsFoundNext : Plan → ℕ → ℕ → List ℕ → Option (List ℕ) → Result (Option Order) Rest → Type 0
IsFoundNext plan id index bytes now (Ok None) = bytes ≡ []
IsFoundNext plan id index bytes now (Ok (Some o)) = (more : List ℕ) × Begins plan id bytes o more × (now ≡ Some more)
IsFoundNext plan id index bytes now (Err rest.Done) = ⊥
IsFoundNext plan id index bytes now (Err rest.TooMany) = ⊥
IsFoundNext plan id index bytes now (Err (rest.Unread e)) = Unit {0}
IsFoundNext plan id index bytes now (Err (rest.Bad i)) = (i ≡ index) × IsBad plan id bytes
IsFoundNext plan id index bytes now (Err rest.Memory) = Unit {0}
IsFoundNext plan id index bytes now (Err rest.Full) = ⊥

-- what the source has behind the last frame that may be
abbrev pub IsFoundLast : List ℕ → Rest → Type 0
IsFoundLast bytes rest.Done = bytes ≡ []
IsFoundLast bytes rest.TooMany = bytes ≡ [] → ⊥
IsFoundLast bytes (rest.Unread e) = Unit {0}
IsFoundLast bytes (rest.Bad i) = ⊥
IsFoundLast bytes rest.Memory = ⊥
IsFoundLast bytes rest.Full = ⊥

module _ (plan : Plan) (id : ℕ) (n : ℕ) (next : Option Order) (bytes : List ℕ) where
  -- the next of the bytes is a frame that tells the next order, and may be one
  abbrev pub HasNext : Type 0
  HasNext = (n < MOST_EVENTS) × ForNext next (λ o. (more : List ℕ) × Begins plan id bytes o more)

  -- why it stopped there behind n orders
  abbrev pub HaltsAt : NodeStop → Type 0
  HaltsAt (Rested rest.Done) = bytes ≡ []
  HaltsAt (Rested rest.TooMany) = (n ≡ MOST_EVENTS) × (bytes ≡ [] → ⊥)
  HaltsAt (Rested (rest.Unread e)) = Unit {0}
  HaltsAt (Rested (rest.Bad i)) = (n < MOST_EVENTS) × (i ≡ n + 1) × IsBad plan id bytes
  HaltsAt (Rested rest.Memory) = Unit {0}
  HaltsAt (Rested rest.Full) = HasNext
  HaltsAt (Fell fall) = HasNext
  HaltsAt (Untold stop) = HasNext
