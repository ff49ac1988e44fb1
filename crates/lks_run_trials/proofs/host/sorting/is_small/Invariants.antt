use Rattle.std.proofs.Common.{◌≡◌, ◌+◌, length, take}
use Rattle.std.specs.Prelude.{sum_by}
use Rattle.lks_run_trials.proofs.host.sorting.is_small.Given as goal

abbrev pub invariant-loop-body : goal.invariant-loop-body
invariant-loop-body l = sum_by length (take l.body-index l.bodies) + l.room ≡ 4000
