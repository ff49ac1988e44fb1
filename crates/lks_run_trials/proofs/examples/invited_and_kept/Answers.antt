use Rattle.std.proofs.Common.{◌≡◌, Ok, arith}
use Rattle.std.proofs.lemmas.Result.{IfOk-at_ok}
use Rattle.lks_disk.specs.MemFace.{mem_face}
use Rattle.lks_law.specs.World.{honest_peer}
use Rattle.lks_run_trials.proofs.Openings.{can_step}
use Rattle.lks_run_trials.proofs.examples.invited_and_kept.Goals as goal

pub step-requires-clause-can : goal.step-requires-clause-can
step-requires-clause-can g c =
    let made : c.create.result ≡ Ok c.in_ok-host.host = grind (arith, c.in_ok-host.ensures.cases) in
    let is = c.create.ensures in
    let plan = c.args.plan.now in
    can_step mem_face plan c.args.pool.now (honest_peer 1 plan) c.in_ok-host.host (IfOk-at_ok _ made is.peer)
    (λ p there. IfOk-at_ok _ made (is.stands tt p there)) (IfOk-at_ok _ made is.whole)
    (IfOk-at_ok _ made is.end)
