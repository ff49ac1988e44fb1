use Rattle.std.proofs.Common.{List, [], subst}
use Rattle.std.specs.Prelude.{map}
use Rattle.std.proofs.lemmas.Result.{IfOk-weaker, on_err_weaker}
use Rattle.lks_base.specs.declared.records.Record.{Record}
use Rattle.lks_host.proofs.Beginning.{on_ok}
use Rattle.lks_host.proofs.Fronts.{front_first, front_none, torn_short}
use Rattle.lks_host.specs.Adopting.{LeavesFront}
use Rattle.lks_host.specs.Hosted.{Holds, disk_hosted}
use Rattle.lks_law.specs.Batches.{alone}
use Rattle.lks_host.proofs.hosts.Host.found.Goals as goal

pub returns-in-Ok-create-clause-holds : goal.returns-in-Ok-create-clause-holds
returns-in-Ok-create-clause-holds g c = λ told.
    let f = g.D.Disk.face in
    IfOk-weaker c.over.result _ _
    (λ host holds. on_ok _ c.args.begun c.in-Ok.begun c.in-Ok.is
    (subst (λ (list : List Record). Holds f host [] list) c.deref.ensures.value holds))
    (c.over.ensures.holds (c.in-Ok-create.ensures.called.told.0 told) [] (c.in-Ok-create.ensures.ok told).0)

pub returns-in-Ok-create-clause-front : goal.returns-in-Ok-create-clause-front
returns-in-Ok-create-clause-front g c = λ told settled.
    let f = g.D.Disk.face in
    on_err_weaker c.over.result
    (λ front. on_ok _ c.args.begun c.in-Ok.begun c.in-Ok.is
    (front_first f _ (disk_hosted c.over.result)
    (subst (λ (list : List Record). LeavesFront f [] (map alone list) (disk_hosted c.over.result))
    c.deref.ensures.value front)))
    (c.over.ensures.front (c.in-Ok-create.ensures.called.told.0 told) [] (c.in-Ok-create.ensures.ok told).0)

-- what an unmade journal leaves is torn of nothing
pub returns-in-Err-create-clause-front : goal.returns-in-Err-create-clause-front
returns-in-Err-create-clause-front g c = λ told settled.
    let f = g.D.Disk.face in
    let disk = c.in-Err-create.disk in
    let moments = c.in-Err-create.ensures.any_moment told in
    let still = c.in-Err-create.ensures.called.told.0 told in
    on_ok _ c.args.begun c.in-Ok.begun c.in-Ok.is
    (front_none f _ disk
    (λ b may. torn_short (f.may_leave c.args.disk) b settled
    (moments.each b (g.met.D.Disk.counts_now disk (f.moment c.args.disk) b still moments.later may))))
