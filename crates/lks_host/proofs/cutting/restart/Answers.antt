use Rattle.lks_host.proofs.Cuts.{falls_idle, on_err}
use Rattle.lks_host.proofs.cutting.restart.Goals as goal

pub returns-in_err-recover-clause-falls : goal.returns-in_err-recover-clause-falls
returns-in_err-recover-clause-falls g c = λ batches at.
    on_err c.from_residual.result
    (falls_idle g.D.Disk.face c.args.host.now c.power_cut.new.self.journal.disk c.recover.new.self.journal.disk
    batches at c.power_cut.ensures.lost
    (c.in_err-recover.ensures.recovers batches (c.power_cut.ensures.lies batches at)).leaves)
