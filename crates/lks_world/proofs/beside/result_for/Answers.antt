use Rattle.std.proofs.Common.{subst}
use Rattle.std.specs.Prelude.{IfSome, Option}
use Rattle.lks_work.specs.declared.results.JobDone.{JobDone}
use Rattle.lks_world.proofs.Named.{result_named}
use Rattle.lks_world.proofs.SameSites.{pooled_still}
use Rattle.lks_world.specs.Beside.{IsForDue}
use Rattle.lks_world.proofs.beside.result_for.Goals as goal

pub returns-in-Some-2-clause-result : goal.returns-in-Some-2-clause-result
returns-in-Some-2-clause-result g c =
    let pool = c.args.state.now.pool.now in
    let done = c.in_ok-done.ensures in
    subst (λ (o : Option JobDone). IfSome o (IsForDue pool c.args.due)) c.in-Some-2.is
    (result_named pool c.args.due c.in-Some.name c.in_ok-done.field-0 c.in-Some.ensures done.name
    (done.of pool c.requires.of))

pub hash_ready-requires-clause-pooled : goal.hash_ready-requires-clause-pooled
hash_ready-requires-clause-pooled g c =
    λ κs lives. pooled_still c.args.state.now.pool.now c.args.state.now.sites.items c.take_fresh.new.sites.items
    c.in_ok-done.ensures.same c.requires.pooled

pub returns-clause-result : goal.returns-clause-result
returns-clause-result g c =
    let pool = c.args.state.now.pool.now in
    result_named pool c.args.due c.in-Some.name c.take_result.result c.in-Some.ensures c.take_result.ensures.name
    (c.take_result.ensures.of pool c.in_ok-hash_ready.ensures.of)
