-- How far a node has come, and what an order makes of it.
use Rattle.std.specs.Prelude.{ℕ, ◌+◌, ◌-◌, ◌^◌, min, Option, Some, None, List, [], ◌∷◌, ◌++◌}
use Rattle.std.specs.Option.{option_to_list}
use Rattle.lks_base.specs.declared.reactions.Reaction.{Reaction}
use Rattle.lks_base.specs.declared.records.Record.{Record}
use Rattle.lks_outside.specs.declared.questions.Question.{Question}
use Rattle.lks_inbox.specs.Received.{envelope_of, asked_by, judged_by}
use Rattle.lks_law.specs.Batches.{together, with_batch}
use Rattle.lks_law.specs.Facts.{IsHeard}
use Rattle.lks_law.specs.Polls.{Station}
use Rattle.lks_law.specs.Questions.{Verdicts}
use Rattle.lks_law.specs.Reaction.{no_effect}
use Rattle.lks_law.specs.State.{State}
use Rattle.lks_law.specs.Table.{react_on, reaction}
use Rattle.lks_law.specs.World.{Deed, delivers}
use Rattle.lks_node.specs.Replies.{reply}
use Rattle.lks_node.specs.declared.orders.Order.{Order}
use Rattle.lks_node.specs.declared.orders.Order.TheVariants.{Hear, Do, Pass}

-- the batches of its journal, its clock, and what its judge was asked
pub record Progress : Type 0 where
  pub batches : List (List Record)
  pub tick : ℕ
  pub heard : List Question

abbrev pub journal_of : Progress → List Record
journal_of p = together p.batches

-- what an order makes the peer of this number do, while its judge has heard these
abbrev pub deed_by : Verdicts → ℕ → List Question → Order → Option Deed
deed_by verdict id heard (Hear from bytes) =
    delivers (Some (envelope_of from id bytes)) (judged_by verdict heard (envelope_of from id bytes))
deed_by verdict id heard (Do i) = Some (record { peer = id; input = i })
deed_by verdict id heard (Pass ticks) = None

-- what its judge is asked
abbrev pub asked_for : ℕ → Order → List Question
asked_for id (Hear from bytes) = option_to_list (asked_by (envelope_of from id bytes))
asked_for id (Do i) = []
asked_for id (Pass ticks) = []

-- its clock after the order; it stops at its last value
abbrev pub tick_after : ℕ → Order → ℕ
tick_after tick (Hear from bytes) = tick
tick_after tick (Do i) = tick
tick_after tick (Pass ticks) = min (tick + ticks) (2 ^ 32 - 1)

-- what a deed makes a peer in this state add and send
abbrev pub reacts : Station → State → ℕ → Option Deed → Reaction
reacts own s tick None = no_effect
reacts own s tick (Some d) = react_on own s tick d.input

-- what the rules say of it over this journal
abbrev pub reaction_to : Station → List Record → ℕ → Option Deed → Reaction
reaction_to own journal tick None = no_effect
reaction_to own journal tick (Some d) = reaction own journal tick d.input

-- what the order makes the peer add and send
abbrev pub does : Verdicts → Station → Progress → Order → Reaction
does verdict own p o = reaction_to own (journal_of p) p.tick (deed_by verdict own.id p.heard o)

abbrev pub after : Verdicts → Station → Progress → Order → Progress
after verdict own p o =
    record {
      batches = with_batch p.batches (does verdict own p o).records;
      tick = tick_after p.tick o;
      heard = p.heard ++ asked_for own.id o;
    }

-- after these orders, one after another
unfoldable pub after_all : Verdicts → Station → Progress → List Order → Progress
after_all verdict own p [] = p
after_all verdict own p (o ∷ os) = after_all verdict own (after verdict own p o) os

-- the replies to them
unfoldable pub replies : Verdicts → Station → Progress → List Order → List ℕ
replies verdict own p [] = []
replies verdict own p (o ∷ os) = reply (does verdict own p o) ++ replies verdict own (after verdict own p o) os

-- an order to do something has no message out of its limits
abbrev pub IsTaken : Order → Type 0
IsTaken (Hear from bytes) = Unit {0}
IsTaken (Do i) = IsHeard i
IsTaken (Pass ticks) = Unit {0}

-- a message that a deed is about is in its limits
abbrev pub IsDone : Option Deed → Type 0
IsDone None = Unit {0}
IsDone (Some d) = IsHeard d.input
