use Rattle.std.proofs.Common.{◌≡◌, length, refl, rules}
use Rattle.std.proofs.lemmas.List.Elements.{All-rest}
use Rattle.lks_blocks.specs.Block.{AllOf}
use Rattle.lks_farm.proofs.Batching.{all_done, one_done}
use Rattle.lks_work.specs.Names.{refs_of}
use Rattle.lks_farm.proofs.batches.hash_in_order.Goals as goal

pub loop-job-init : goal.loop-job-init
loop-job-init g c =
    let given = c.into_iter-job-iterator.ensures.into_iter_gives.0 in
    rw (given, c.new-done.ensures.items) (tt, tt, refl, c.requires)

pub loop-job-preserved : goal.loop-job-preserved
loop-job-preserved g c =
    let before = c.loop-job.invariant in
    let next = c.in-Some.ensures.steps.0 in (
      tt,
      tt,
      rw c.in_ok-push.ensures.items
          (one_done c.loop-job.done.items c.in_ok-hash_job.field-0 c.in-Some.job c.loop-job.job-iterator.rest.items
          c.next.new.self.rest.items _ before.2 next c.in_ok-hash_job.ensures.asked),
      All-rest (λ j. AllOf c.args.pool.now (refs_of j)) c.in-Some.job c.next.new.self.rest.items
          c.loop-job.job-iterator.rest.items next before.3,
    )

pub returns : goal.returns
returns g c =
    let none : length c.loop-job.job-iterator.rest.items ≡ 0 = search rules in
    all_done c.args.jobs.items c.loop-job.done.items c.loop-job.job-iterator.rest.items none c.loop-job.invariant.2
