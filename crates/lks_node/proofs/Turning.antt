-- One turn of a node.
use Rattle.std.proofs.Common.{◌≡◌, ◌<◌, ◌++◌, ℕ, List, Option, Some}
use Rattle.std.specs.Prelude.{Result, Ok, Err, IfErr, OnOk}
use Rattle.lks_base.specs.declared.limits.TheConstants.{MOST_EVENTS}
use Rattle.lks_base.specs.declared.plans.AuPlan.{AuPlan}
use Rattle.lks_base.specs.declared.plans.Holding.{Holding}
use Rattle.lks_base.specs.declared.plans.Plan.{Plan}
use Rattle.lks_disk.specs.Face.{Face}
use Rattle.lks_outside.specs.declared.questions.Question.{Question}
use Rattle.lks_law.specs.Polls.{Station}
use Rattle.lks_law.specs.Questions.{Verdicts}
use Rattle.lks_node.specs.Being.{IsAt, StopsIn}
use Rattle.lks_node.specs.Ending.{HasRoom, Halts, Turns}
use Rattle.lks_node.specs.Going.{Progress, after, does}
use Rattle.lks_node.specs.Replies.{reply}
use Rattle.lks_node.specs.Telling.{Begins}
use Rattle.lks_node.specs.declared.ends.NodeStop.{NodeStop}
use Rattle.lks_node.specs.declared.ends.NodeStop.TheVariants.{Rested, Fell, Untold}
use Rattle.lks_node.specs.declared.nodes.Node.{Node}
use Rattle.lks_node.specs.declared.orders.Order.{Order}

module _ {D : Type 0} (f : Face D) (verdict : Verdicts) (plan : Plan) (own : Station) (aus : List AuPlan)
    (copies : List Holding) (p : Progress) (o : Order)
    (left left_now before now : Option (List ℕ)) (node : Node D) (asked : List Question)
    (found : (bytes : List ℕ) → left ≡ Some bytes
    → (more : List ℕ) × Begins plan own.id bytes o more × (left_now ≡ Some more))
    (room : f.told node.host.journal.disk → HasRoom p.batches) where
  pub turned : (result : Result (Unit {0}) NodeStop)
      → OnOk result (IsAt f aus copies (after verdict own p o) node asked)
      → ((bytes : List ℕ) → before ≡ Some bytes → OnOk result (now ≡ Some (bytes ++ reply (does verdict own p o))))
      → OnOk result (Turns f verdict plan own aus copies p left left_now before now node asked)
  turned (Ok x) at said = record { order = o; told = found; said = said; room = room; at = at }
  turned (Err stop) at said = tt

  pub halted : (n : ℕ) (result : Result (Unit {0}) NodeStop) → n < MOST_EVENTS
      → IfErr result
      (StopsIn f aus copies p (after verdict own p o) (reply (does verdict own p o)) node asked before now)
      → IfErr result (Halts f verdict plan own aus copies n p left before now node asked)
  halted n (Ok x) few stops = tt
  halted n (Err (Rested rest)) few stops = absurd stops
  halted n (Err (Fell fall)) few stops =
      record {
        next = Some o;
        why = λ bytes told. let f = found bytes told in (few, (f.0, f.1));
        leaves = (room, stops);
      }
  halted n (Err (Untold stop)) few stops =
      record {
        next = Some o;
        why = λ bytes told. let f = found bytes told in (few, (f.0, f.1));
        leaves = (room, stops);
      }
