use Rattle.std.proofs.lemmas.Result.{IfOk-weaker}
use Rattle.lks_farm.proofs.Batching.{asked_of_all, done_of}
use Rattle.lks_farm.specs.Batches.{AreDone}
use Rattle.lks_farm.proofs.batches.hash_batch.Goals as goal

pub returns-then-threads-lt2-clause-of : goal.returns-then-threads-lt2-clause-of
unfolding AreDone
returns-then-threads-lt2-clause-of g c =
    IfOk-weaker c.hash_in_order.result _ _
    (λ done is. done_of c.args.pool.now c.args.jobs.items done.items is c.requires) c.hash_in_order.ensures

pub returns-else-threads-lt2-clause-of : goal.returns-else-threads-lt2-clause-of
unfolding AreDone
returns-else-threads-lt2-clause-of g c =
    IfOk-weaker c.hash_side_by_side.result _ _
    (λ done is. done_of c.args.pool.now c.args.jobs.items done.items is c.requires) c.hash_side_by_side.ensures

pub hash_side_by_side-requires-clause-of : goal.hash_side_by_side-requires-clause-of
hash_side_by_side-requires-clause-of g c κs within = asked_of_all c.args.pool.now c.args.jobs.items c.requires

pub returns-else-threads-lt2-clause-done : goal.returns-else-threads-lt2-clause-done
unfolding AreDone
returns-else-threads-lt2-clause-done g c = c.hash_side_by_side.ensures
