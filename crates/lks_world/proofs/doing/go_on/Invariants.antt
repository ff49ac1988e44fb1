use Rattle.std.proofs.Common.{◌≡◌, ◌-◌, ◌≤◌, ℕ, List, length}
use Rattle.std.specs.Prelude.{Ok}
use Rattle.lks_base.specs.declared.plans.Plan.{Plan}
use Rattle.lks_world.proofs.Keeping.{Goes}
use Rattle.lks_base.specs.declared.limits.TheConstants.{MOST_EVENTS}
use Rattle.lks_farm.specs.Batches.{AreDoneOf}
use Rattle.lks_law.specs.Questions.{questions}
use Rattle.lks_watch.specs.Watching.{WatchesBy, ears}
use Rattle.lks_world.specs.Follows.{next_event}
use Rattle.lks_world.specs.Sites.{Counted, SitesPower}
use Rattle.lks_world.specs.States.{IsStateOf, Extends, events_in, next_of}
use Rattle.lks_world.proofs.doing.go_on.Given as goal

abbrev pub invariant-loop-turn : goal.invariant-loop-turn
invariant-loop-turn g l = record {
  goes : (plan : Plan) → IsStateOf g.D.Disk.face plan l.fn.state
      → g.J.EffortJudge.heard l.fn.watch.judge ≡ questions plan (events_in l.fn.state)
      → Goes g.D.Disk.face (next_event (g.J.EffortJudge.verdict l.fn.watch.judge) (next_of l.course)) l.times plan
      l.fn.state l.state (l.turn-end - l.turn);
  watches : (plan : Plan) → IsStateOf g.D.Disk.face plan l.fn.state
      → g.J.EffortJudge.heard l.fn.watch.judge ≡ questions plan (events_in l.fn.state)
      → WatchesBy (ears g.J.EffortJudge.heard g.J.EffortJudge.verdict g.B.Bell.rung g.B.Bell.limit) plan
      (events_in l.fn.state) (events_in l.state) l.fn.watch l.watch;
  extends : (plan : Plan) → IsStateOf g.D.Disk.face plan l.fn.state
      → g.J.EffortJudge.heard l.fn.watch.judge ≡ questions plan (events_in l.fn.state)
      → Extends plan l.fn.state.history.items l.state.history.items;
  room : l.turn-end - l.turn ≤ MOST_EVENTS - length l.state.history.items;
  power : (plan : Plan) (who : List ℕ)
      → SitesPower {T = Unit {0}} g.D.Disk.face plan who (events_in l.fn.state) (events_in l.state)
      l.fn.state.sites.items l.state.sites.items (Ok tt);
  counted : Counted {T = Unit {0}} g.D.Disk.face l.fn.state.sites.items l.state.sites.items (Ok tt);
  beside : AreDoneOf l.state.pool.now l.beside.items;
  pooled : l.state.pool.now ≡ l.fn.state.pool.now;
}
