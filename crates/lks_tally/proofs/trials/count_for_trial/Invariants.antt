use Rattle.std.proofs.Common.{◌≡◌, ◌+◌, ◌*◌, ◌-◌, ◌≤◌, take, slice_set}
use Rattle.lks_tally.specs.Counting.{for_at}
use Rattle.lks_tally.proofs.trials.count_for_trial.Given as goal

abbrev pub invariant-loop-i : goal.invariant-loop-i
invariant-loop-i g l = record {
  count : l.n ≡ for_at l.ballot (take l.i l.votes) (slice_set (g.C.Contents.blocks l.copy) l.b l.bytes) l.b;
  few : l.n ≤ l.i;
  cost : l.steps ≡ l.initial.steps + l.i * (l.b - l.rows.count + 1);
}
