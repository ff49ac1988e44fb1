use Rattle.std.proofs.Common.{◌≡◌, ◌∙◌, ap, sym, subst, drop}
use Rattle.std.specs.Prelude.{Some}
use Rattle.std.proofs.lemmas.Result.{IfOk-weaker}
use Rattle.lks_law.specs.World.{deposits, honest_peer, is_honest_at}
use Rattle.lks_host.proofs.FirstBatches.{first_behind}
use Rattle.lks_host.specs.Fits.{AreFirst}
use Rattle.lks_host.proofs.beginnings.missing_deposits.Goals as goal

pub returns-clause-first : goal.returns-clause-first
returns-clause-first c =
    let plan = c.args.plan.now in
    let found : honest_peer c.args.id plan ≡ Some c.in-Some.planned.now = cc (c.in-Some.ensures, c.as_slice.ensures) in
    let same : deposits c.as_slice-2.result.now c.as_slice-3.result.now
    ≡ deposits plan.aus c.in-Some.planned.now.copies = cc (c.as_slice-2.ensures, c.as_slice-3.ensures) in
    IfOk-weaker c.deposit_all.result _ _
    (λ list is. subst AreFirst (ap (drop c.args.skip) (sym same) ∙ sym is)
    (first_behind plan c.requires.good (is_honest_at c.args.id) c.in-Some.planned.now found c.args.skip))
    c.deposit_all.ensures
