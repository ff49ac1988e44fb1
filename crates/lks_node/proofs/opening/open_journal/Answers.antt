use Rattle.std.proofs.Common.{◌≡◌, arith, rules}
use Rattle.lks_law.specs.World.{deposits, honest_peer, station_of}
use Rattle.lks_node.proofs.Beginnings.{begun_over, unready_new, unready_over}
use Rattle.lks_node.proofs.opening.open_journal.Goals as goal

pub returns-in-Ok-eq0-clause-begun : goal.returns-in-Ok-eq0-clause-begun
returns-in-Ok-eq0-clause-begun g c = λ p there.
    let same = c.in-Ok-eq0.ensures.same in
    begun_over g.D.Disk.face c.args.plan.now p c.args.store c.len.new.self same.tells.0 (λ told. same.bytes)
    c.begin.result (c.begin.ensures.begun p there)

pub returns-in-Ok-eq0-clause-causes : goal.returns-in-Ok-eq0-clause-causes
returns-in-Ok-eq0-clause-causes g c = λ p there.
    let none : c.in-Ok-eq0.field-0 ≡ 0 = search rules in
    unready_new g.D.Disk.face c.args.store c.len.new.self c.args.plan.now p (honest_peer c.args.id c.args.plan.now)
    there c.in-Ok-eq0.ensures.same (station_of c.args.plan.now p)
    c.begin.result c.in-Ok-eq0.ensures.cause.ok
    (λ told. let count = c.in-Ok-eq0.ensures.value told in omega (arith, count, none)) c.begin.ensures.causes

pub returns-in-Ok-clause-begun : goal.returns-in-Ok-clause-begun
returns-in-Ok-clause-begun g c = λ p there.
    let same = c.in-Ok.ensures.same in
    begun_over g.D.Disk.face c.args.plan.now p c.args.store c.len.new.self same.tells.0 (λ told. same.bytes)
    c.resume.result (c.resume.ensures.begun p there)

pub returns-in-Ok-clause-causes : goal.returns-in-Ok-clause-causes
returns-in-Ok-clause-causes g c = λ p there.
    unready_over g.D.Disk.face c.args.store c.len.new.self c.in-Ok.ensures.same (station_of c.args.plan.now p)
    (deposits c.args.plan.now.aus p.copies)
    c.resume.result c.in-Ok.ensures.cause.ok (c.resume.ensures.causes p there)
