-- What no history passes.
use Rattle.std.proofs.Common.{◌≡◌, ◌≤◌, ◌<◌, ◌+◌, ◌*◌, ap, refl, List, [], ◌∷◌, ◌++◌, length, arith, length-append}
use Rattle.lks_base.specs.declared.events.Event.{Event}
use Rattle.lks_base.specs.declared.events.Event.TheVariants.{Step, Cut, Tick, Lose, Forge, Crash}
use Rattle.lks_base.specs.declared.limits.TheConstants.{MOST_EVENTS, MOST_TICKS}
use Rattle.lks_base.specs.declared.plans.Plan.{Plan}
use Rattle.lks_law.specs.Histories.{IsHistory, MayAllHappen, MayHappen}
use Rattle.lks_law.specs.Questions.{questions}
use Rattle.lks_law.specs.World.{World, happen_all, happens, start, world}
use Rattle.lks_watch.proofs.Going.{few_questions}
use Rattle.lks_world.proofs.StateLaws.{crashed, no_tick, quiet_tick, same_tick, ticked, unchanged}

pub few_asked : (plan : Plan) (history : List Event) (event : Event) → IsHistory plan (history ++ event ∷ [])
    → length (questions plan history) < MOST_EVENTS
few_asked plan history event is = omega (arith, few_questions plan history, is.few, length-append history (event ∷ []))

once : (plan : Plan) (w : World) (e : Event) → MayHappen plan w e → (happens w e).tick ≤ w.tick + MOST_TICKS
once plan w (Step s) may = omega (arith, same_tick w s)
once plan w (Cut s kept) may = omega (arith, quiet_tick w s kept)
once plan w (Tick by) may = omega (arith, ticked w by, may.1)
once plan w (Lose envelope) may = omega (arith, ap (λ (x : World). x.tick) (unchanged w envelope))
once plan w (Forge from to bytes) may = omega (arith, no_tick w from to bytes)
once plan w (Crash peer) may = omega (arith, ap (λ (x : World). x.tick) (crashed w peer))

each : (plan : Plan) (w : World) (es : List Event) → MayAllHappen plan w es
    → (happen_all w es).tick ≤ w.tick + MOST_TICKS * length es
each plan w [] may = omega arith
each plan w (e ∷ es) may = omega (arith, once plan w e may.0, each plan (happens w e) es may.1)

not_yet : (plan : Plan) → (start plan).tick ≡ 0
unfolding start
not_yet plan = refl

pub few_ticks : (plan : Plan) (history : List Event) → IsHistory plan history
    → (world plan history).tick ≤ MOST_TICKS * MOST_EVENTS
unfolding world
few_ticks plan history is = omega (arith, each plan (start plan) history is.may, is.few, not_yet plan)
