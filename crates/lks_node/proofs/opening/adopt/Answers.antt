use Rattle.std.proofs.Common.{subst, sym, ℕ}
use Rattle.lks_host.proofs.Adopting.{found_at}
use Rattle.lks_law.specs.World.{honest_peer}
use Rattle.lks_node.specs.Opening.{IsBegun}
use Rattle.lks_node.proofs.Beginnings.{begun_adopted}
use Rattle.lks_node.proofs.Records.{records_few}
use Rattle.lks_node.proofs.opening.adopt.Goals as goal

pub adopt-requires-clause-few : goal.adopt-requires-clause-few
adopt-requires-clause-few g c =
    let at = found_at (honest_peer c.args.id c.args.plan.now) c.requires.honest in
    let owned = c.requires.owned in
    records_few owned.0 c.args.list.now (owned.3 at.0 at.1).spell owned.1

pub returns-in-Ok-clause-begun : goal.returns-in-Ok-clause-begun
returns-in-Ok-clause-begun g c = λ p there bodies read owns sorts.
    subst
    (λ (n : ℕ). IsBegun g.D.Disk.face c.args.plan.now p c.args.journal.disk
    (record { host = c.in-Ok.host; tick = n })) (sym c.latest-tick.ensures)
    (begun_adopted g.D.Disk.face c.args.plan.now p c.args.journal c.args.list.now c.args.peer bodies read owns
    c.in-Ok.host sorts c.in-Ok.ensures.peer
    c.in-Ok.ensures.behaves.told.1 (c.in-Ok.ensures.adopts p there).stands)
