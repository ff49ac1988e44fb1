use Rattle.std.proofs.Common.{◌≤◌, length}
use Rattle.lks_run_trials.proofs.evidence.shelf_of.Given as goal

abbrev pub invariant-loop-line : goal.invariant-loop-line
invariant-loop-line l = length l.list.items ≤ 99
