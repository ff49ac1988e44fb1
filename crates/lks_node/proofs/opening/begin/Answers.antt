use Rattle.lks_law.specs.World.{honest_peer}
use Rattle.lks_node.proofs.Beginnings.{begun_new}
use Rattle.lks_node.proofs.opening.begin.Goals as goal

pub returns-in-Ok-clause-begun : goal.returns-in-Ok-clause-begun
returns-in-Ok-clause-begun g c = λ p there.
    begun_new g.D.Disk.face c.args.plan.now p c.in-Ok.host c.args.store c.args.pool.now
    (honest_peer c.args.id c.args.plan.now) there c.in-Ok.ensures.peer
    (λ told. c.in-Ok.ensures.stands (c.in-Ok.ensures.behaves.told.1 told) p there) c.requires.empty
