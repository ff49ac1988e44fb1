use Rattle.std.proofs.Common.{◌∙◌, ◌<◌, sym, subst, length, arith}
use Rattle.std.proofs.lemmas.List.{length-set}
use Rattle.lks_world.proofs.SameSites.{pooled_still, same_set}
use Rattle.lks_world.specs.Beside.{IsPooled}
use Rattle.lks_world.proofs.beside.gather.Goals as goal

pub returns-in_err-add_jobs-clause-same : goal.returns-in_err-add_jobs-clause-same
returns-in_err-add_jobs-clause-same g c =
    same_set c.loop-place.sites.items c.loop-place.place c.index_mut.result.now c.add_jobs.new.self
    c.index_mut.ensures.value c.add_jobs.ensures.same
    ∙ c.loop-place.invariant.same

pub loop-place-preserved : goal.loop-place-preserved
loop-place-preserved g c =
    let sites = c.loop-place.sites.items in
    let kept = c.loop-place.invariant in
    let within : c.loop-place.place
    < length sites = omega (arith, c.loop-place-test.true, c.len-place-end.ensures, kept.count) in
    record {
      same =
          same_set sites c.loop-place.place c.index_mut.result.now c.add_jobs.new.self c.index_mut.ensures.value
          c.add_jobs.ensures.same
          ∙ kept.same;
      count = length-set sites c.loop-place.place c.add_jobs.new.self ∙ kept.count;
      of = λ pool are.
          c.add_jobs.ensures.of pool
          (subst (IsPooled pool) (sym c.index_mut.ensures.value)
          (pooled_still pool c.args.sites.now.items sites kept.same are c.loop-place.place
          c.index_mut.result.now within)) (kept.of pool are);
    }
