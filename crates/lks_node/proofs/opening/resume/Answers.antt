use Rattle.std.proofs.Common.{◌∙◌, subst, sym, ℕ, List}
use Rattle.lks_law.specs.World.{deposits, station_of}
use Rattle.lks_field.specs.Frames.{HoldsBodies}
use Rattle.lks_node.proofs.Beginnings.{begun_over, unsorted_is}
use Rattle.lks_node.proofs.opening.resume.Goals as goal

pub returns-clause-begun : goal.returns-clause-begun
returns-clause-begun g c = λ p there.
    begun_over g.D.Disk.face c.args.plan.now p c.args.store c.in_ok-journal.journal.disk
    c.in_ok-journal.ensures.calm.told.0 (λ told. (c.in_ok-journal.ensures.stays told).bytes)
    c.sort_bodies.result (c.sort_bodies.ensures.begun p there)

pub returns-clause-causes : goal.returns-clause-causes
returns-clause-causes g c = λ p there.
    let f = g.D.Disk.face in
    let found = c.in_ok-journal.ensures in
    unsorted_is f c.args.store c.in_ok-journal.journal.disk found.stays
    (station_of c.args.plan.now p) (deposits c.args.plan.now.aus p.copies) c.deref-2.result.now c.sort_bodies.result
    found.ok found.calm.told.0
    (λ told. subst (λ (bodies : List (List ℕ)). HoldsBodies bodies (f.seen c.args.store))
    (sym c.deref-2.ensures.value) (found.holds told))
    (λ told at left. (found.read.settled (found.calm.told.0 told)).durable at left ∙ (found.stays told).bytes)
    (c.sort_bodies.ensures.causes p there)
