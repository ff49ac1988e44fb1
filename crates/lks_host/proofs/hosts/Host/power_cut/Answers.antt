use Rattle.lks_host.proofs.Cuts.{stays_on}
use Rattle.lks_host.proofs.hosts.Host.power_cut.Goals as goal

pub returns-clause-lies : goal.returns-clause-lies
returns-clause-lies g c =
    λ batches stood. stays_on g.D.Disk.face c.args.self.now c.power_cut.new.self.disk batches stood
    c.power_cut.ensures.lost
