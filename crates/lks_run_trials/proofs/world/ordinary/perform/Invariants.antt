use Rattle.std.proofs.Common.{◌≡◌, None, true, drop}
use Rattle.lks_script.specs.StepRules.{are_steps_of}
use Rattle.lks_run_trials.proofs.world.ordinary.perform.Given as goal

abbrev pub invariant-loop-step : goal.invariant-loop-step
invariant-loop-step g l = record {
  plan : l.world.plan ≡ l.fn.world.plan;
  pool : l.world.pool ≡ l.fn.world.pool;
  running : l.world.stopped ≡ None;
  legal : are_steps_of l.fn.world.plan (drop l.step-index l.steps) ≡ true;
}
