use Rattle.std.proofs.Common.{◌∙◌, ap, refl, sym}
use Rattle.std.specs.Prelude.{Some}
use Rattle.lks_host.proofs.Beginning.{of_begun}
use Rattle.lks_host.proofs.Fronts.{front_begun}
use Rattle.lks_host.proofs.Standing.{stands_begun}
use Rattle.lks_host.specs.declared.faults.HostFault.TheVariants.{Memory}
use Rattle.lks_law.specs.World.{standing_of}
use Rattle.lks_peer.specs.Knows.{knowing_of}
use Rattle.lks_host.proofs.FirstBatches.{begun_fitting, option_at}
use Rattle.lks_host.proofs.hosts.Host.create.Goals as goal

pub returns-clause-peer : goal.returns-clause-peer
returns-clause-peer g c =
    of_begun _ _ _ _ _ c.begin_peer.result c.found.result (c.args.disk, Memory) c.found.ensures.unmade
    c.begin_peer.ensures.peer c.begin_peer.ensures.list c.found.ensures.peer c.found.ensures.peer
    (λ begun host peer list same again. peer ∙ ap Some (sym same))

pub returns-clause-stands : goal.returns-clause-stands
returns-clause-stands g c = λ told p there.
    let plan = c.args.plan.now in
    of_begun _ _ _ _ _ c.begin_peer.result c.found.result (c.args.disk, Memory) c.found.ensures.unmade
    c.begin_peer.ensures.peer c.begin_peer.ensures.list c.found.ensures.peer (c.found.ensures.holds told)
    (λ begun host peer list same holds.
    stands_begun g.D.Disk.face host plan c.args.pool.now p begun.1.items
    (same ∙ option_at (λ q. knowing_of c.args.pool.now (standing_of plan q)) _ p begun.0 there peer)
    (option_at (λ q. (standing_of plan q).journal) _ p begun.1.items there list)
    (begun_fitting plan c.args.id p (standing_of plan p).journal c.requires.good there refl p there)
    holds.disk holds.read)

pub returns-clause-front : goal.returns-clause-front
returns-clause-front g c = λ told settled p there.
    let plan = c.args.plan.now in
    front_begun g.D.Disk.face c.args.disk Memory (λ begun. begun.1.items) (standing_of plan p).journal _
    c.begin_peer.result c.found.result settled c.found.ensures.unmade c.begin_peer.ensures.list
    (λ begun list. option_at (λ q. (standing_of plan q).journal) _ p begun.1.items there list)
    (c.found.ensures.front told settled)
