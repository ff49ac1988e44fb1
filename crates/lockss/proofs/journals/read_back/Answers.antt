use Rattle.std.proofs.Common.{ap}
use Rattle.std.specs.Prelude.{Err}
use Rattle.lks_host.proofs.ReadingBack.{of_disk}
use Rattle.lockss.proofs.Rereading.{uncut_by}
use Rattle.lockss.proofs.journals.read_back.Goals as goal

pub blame-requires-clause-own : goal.blame-requires-clause-own
blame-requires-clause-own g c =
    let laws = g.met.D.CrashDisk g.world.𝓛 g.world.𝓜 g.world.𝓡 ((λ s x. x), (λ x. x), (λ x. x), λ x. x) in
    let told : g.D.Disk.face.told c.args.disk = laws.tells c.args.disk in
    of_disk c.in-Err.fault c.requires.is.bodies (g.D.Disk.face.seen c.args.disk)
    (λ e. c.in-Err.ensures.full (ap Err e))
    (λ offset e. (c.in-Err.ensures.found told).damaged offset (ap Err e)) c.requires.is.holds

pub blame-requires-clause-uncut : goal.blame-requires-clause-uncut
blame-requires-clause-uncut g c =
    λ is. uncut_by g.D.Disk.face c.args.disk c.in-Err.disk _ c.requires.is.unfused c.in-Err.ensures.called
    (ap Err is)
