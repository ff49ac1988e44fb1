use Rattle.std.proofs.Common.{◌∙◌}
use Rattle.lks_law.specs.World.{honest_peer}
use Rattle.lks_world.proofs.BeginLaws.{begins}
use Rattle.lks_world.proofs.beginning.create_host.Goals as goal

pub returns-in-Ok-clause-peer : goal.returns-in-Ok-clause-peer
returns-in-Ok-clause-peer g c =
    let laws = g.met.D.CrashDisk g.world.𝓛 g.world.𝓜 g.world.𝓡 ((λ s x. x), (λ x. x), (λ x. x), λ x. x) in
    (begins g.D.Disk.face c.args.pool.now c.args.plan.now (honest_peer c.args.id c.args.plan.now) c.in-Ok.host
    c.in-Ok.ensures.peer (c.in-Ok.ensures.stands (laws.tells c.args.disk))).peer

pub returns-in-Ok-clause-begun : goal.returns-in-Ok-clause-begun
returns-in-Ok-clause-begun g c =
    let laws = g.met.D.CrashDisk g.world.𝓛 g.world.𝓜 g.world.𝓡 ((λ s x. x), (λ x. x), (λ x. x), λ x. x) in
    let is = begins g.D.Disk.face c.args.pool.now c.args.plan.now (honest_peer c.args.id c.args.plan.now)
    c.in-Ok.host c.in-Ok.ensures.peer (c.in-Ok.ensures.stands (laws.tells c.args.disk)) in
    record {
      stands = is.stands;
      pooled = is.pooled;
      whole = c.in-Ok.ensures.whole;
      room = c.in-Ok.ensures.end;
      unfused = c.in-Ok.ensures.behaves.fused ∙ c.requires.fresh.unfused;
    }

pub returns-in-Err-clause-front : goal.returns-in-Err-clause-front
returns-in-Err-clause-front g c = λ p there.
    let laws = g.met.D.CrashDisk g.world.𝓛 g.world.𝓜 g.world.𝓡 ((λ s x. x), (λ x. x), (λ x. x), λ x. x) in
    c.in-Err.ensures.front (laws.tells c.args.disk) c.requires.fresh.settled p there

pub returns-in-Ok-clause-power : goal.returns-in-Ok-clause-power
returns-in-Ok-clause-power g c =
    let was = c.in-Ok.ensures.behaves in
    let burns = was.unset c.requires.fresh.unfused in
    λ i. record { fused = was.fused i; burns = burns i; cuts = was.powered i }

pub returns-in-Err-clause-power : goal.returns-in-Err-clause-power
returns-in-Err-clause-power g c =
    let was = c.in-Err.ensures.behaves in
    let burns = was.unset c.requires.fresh.unfused in
    λ i. record { fused = was.fused i; burns = burns i; cuts = was.powered i }
