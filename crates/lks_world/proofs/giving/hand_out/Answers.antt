use Rattle.std.proofs.Common.{◌∙◌, sym, subst}
use Rattle.std.proofs.lemmas.Option.{get_or_from_slice_get, slice_get_within}
use Rattle.lks_world.proofs.SameSites.{same_set}
use Rattle.lks_world.specs.Beside.{IsPooled}
use Rattle.lks_world.specs.Handing.{IsJobAt}
use Rattle.lks_world.proofs.giving.hand_out.Goals as goal

pub returns-in_err-job-clause-same : goal.returns-in_err-job-clause-same
returns-in_err-job-clause-same g c =
    same_set c.args.sites.now.items c.args.place c.index_mut.result.now c.job.new.self c.index_mut.ensures.value
    c.job.ensures.same

pub returns-clause-same : goal.returns-clause-same
returns-clause-same g c =
    same_set c.args.sites.now.items c.args.place c.index_mut.result.now c.job.new.self c.index_mut.ensures.value
    c.job.ensures.same

pub returns-clause-job : goal.returns-clause-job
returns-clause-job g c = λ site at.
    subst (λ y. IsJobAt c.args.name y c.in_ok-job.job)
    (c.index_mut.ensures.value
    ∙ get_or_from_slice_get c.args.sites.now.items c.args.place site c.index_mut.result.now at)
    c.in_ok-job.ensures.job

pub returns-clause-of : goal.returns-clause-of
returns-clause-of g c = λ pool are.
    let within = slice_get_within c.args.sites.now.items c.args.place c.requires.ready.0 c.requires.ready.1 in
    c.in_ok-job.ensures.of pool
    (subst (IsPooled pool) (sym c.index_mut.ensures.value) (are c.args.place c.index_mut.result.now within))
