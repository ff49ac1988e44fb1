-- What a frame tells a node.
use Rattle.std.specs.Prelude.{ℕ, ◌==◌, ◌||◌, not, if◌then◌else◌, List, [], ◌∷◌, Option, Some, None}
use Rattle.std.specs.Int.{from_be_bytes, w16, w32}
use Rattle.lks_base.specs.Checking.{is_within, has_peer}
use Rattle.lks_base.specs.declared.limits.TheConstants.{MOST_TICKS}
use Rattle.lks_base.specs.declared.plans.Plan.{Plan}
use Rattle.lks_law.specs.World.{Deed, own_deed_of}
use Rattle.lks_node.specs.declared.orders.Order.{Order}
use Rattle.lks_node.specs.declared.orders.Order.TheVariants.{Hear, Do, Pass}
use Rattle.lks_script.specs.StepLines.{step_under}
use Rattle.lks_script.specs.declared.steps.Step.{Step}
use Rattle.lks_script.specs.declared.steps.Step.TheVariants as step
use Rattle.lks_words.specs.Words.{parts}

-- message bytes behind the number of their sender, who is another peer of the plan
unfoldable pub heard_in : Plan → ℕ → List ℕ → Option Order
heard_in plan id (high ∷ low ∷ bytes) =
    let from = from_be_bytes w16 (high ∷ low ∷ []) in
    if from == id || not (has_peer plan.peers from) then None else Some (Hear from bytes)
heard_in plan id other = None

-- what a peer does, if it is this one
abbrev pub done_by : ℕ → Option Deed → Option Order
done_by id None = None
done_by id (Some d) = if d.peer == id then Some (Do d.input) else None

-- a step of this peer's own
unfoldable pub own_order : ℕ → Step → Option Order
own_order id (step.Peer s) = done_by id (own_deed_of s)
own_order id (step.Tick by) = None
own_order id (step.Next times) = None
own_order id step.Lose = None
own_order id (step.Again envelope) = None
own_order id step.Settle = None
own_order id step.Finish = None
own_order id (step.Forge from to bytes) = None
own_order id (step.SayPoll from to number au) = None
own_order id (step.SayProof from to number) = None
own_order id (step.SayRequest from to number block) = None
own_order id (step.SayReceipt from to number) = None
own_order id (step.SayChallenge from to number agrees) = None
own_order id (step.SayNominate from to number nominees) = None
own_order id (step.SayVote from to number au blocks) = None
own_order id (step.SayRepair from to number block bytes) = None
own_order id (step.Crash peer) = None
own_order id (step.Cut calls choice s) = None

abbrev pub own_of : ℕ → Option Step → Option Order
own_of id None = None
own_of id (Some s) = own_order id s

-- a step line of this peer, without its line feed
unfoldable pub told_in : Plan → ℕ → List ℕ → Option Order
told_in plan id line = own_of id (step_under plan (parts 32 line))

-- a number of ticks
unfoldable pub passed_in : List ℕ → Option Order
passed_in (a ∷ b ∷ c ∷ d ∷ []) =
    let ticks = from_be_bytes w32 (a ∷ b ∷ c ∷ d ∷ []) in
    if is_within 1 MOST_TICKS ticks then Some (Pass ticks) else None
passed_in other = None

-- what a body tells, by its first byte
unfoldable pub order_in : Plan → ℕ → List ℕ → Option Order
order_in plan id [] = None
order_in plan id (tag ∷ rest) =
    if tag == 1 then heard_in plan id rest
    else if tag == 2 then told_in plan id rest
    else if tag == 3 then passed_in rest
    else None
