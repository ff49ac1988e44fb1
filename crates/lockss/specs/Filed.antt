-- The journals of a history, as they are told.
use Rattle.std.specs.Prelude.{ℕ, ◌+◌, List, [], ◌∷◌}
use Rattle.lks_base.specs.declared.events.Event.{Event}
use Rattle.lks_base.specs.declared.plans.PeerPlan.{PeerPlan}
use Rattle.lks_base.specs.declared.plans.Plan.{Plan}
use Rattle.lks_gather.specs.Texts.{Filed, honest_peers, set_text}
use Rattle.lks_host.specs.Bodies.{bodies_of}
use Rattle.lks_law.specs.Batches.{batches_at}

-- the batches of each of these honest peers, of which the first has this place among all
abbrev pub filed_from : Plan → List Event → ℕ → List PeerPlan → List Filed
filed_from plan history place [] = []
filed_from plan history place (p ∷ ps) =
    record { peer = p.id; bodies = bodies_of (batches_at place plan history) }
    ∷ filed_from plan history (place + 1) ps

-- the lines of the plan, and behind them a line for the journal of each honest peer, in the plan's order
unfoldable pub journals_text : Plan → List Event → List ℕ
journals_text plan history = set_text plan (filed_from plan history 0 (honest_peers plan))
