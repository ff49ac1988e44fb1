use Rattle.std.proofs.Common.{◌≡◌, ◌++◌, map}
use Rattle.lks_farm.specs.Batches.{asked_done, AreOf}
use Rattle.lks_farm.specs.Entries.{asked_of}
use Rattle.lks_farm.proofs.batches.hash_in_order.Given as goal

-- so many of the jobs are done, and the rest is left
abbrev pub invariant-loop-job : goal.invariant-loop-job
invariant-loop-job g l =
    (goal.iterator-loop-job g).can_next l.job-iterator ×
    (goal.iterator-loop-job g).is_finite l.job-iterator ×
    (map asked_done l.done.items ++ map asked_of l.job-iterator.rest.items ≡ map asked_of l.fn.jobs.items) ×
    AreOf l.pool l.job-iterator.rest.items
