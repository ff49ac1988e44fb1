use Rattle.std.proofs.Common.{◌≡◌, None}
use Rattle.lks_farm.specs.Batches.{AreDoneOf}
use Rattle.lks_run_trials.proofs.world.driving.drive.Given as goal

abbrev pub invariant-loop : goal.invariant-loop
invariant-loop g l = record {
  running : l.world.stopped ≡ None;
  pool : l.world.pool ≡ l.fn.world.pool;
  of : AreDoneOf l.world.pool l.driven.held.items;
}
