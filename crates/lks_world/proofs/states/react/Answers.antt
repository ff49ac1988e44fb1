use Rattle.std.proofs.Common.{◌∙◌, ap, List}
use Rattle.lks_base.specs.declared.records.Record.{Record}
use Rattle.lks_host.specs.Bodies.{bodies_of}
use Rattle.lks_host.specs.Faults.{as_journal}
use Rattle.lks_host.specs.declared.hosts.Host.{Host}
use Rattle.lks_journal.specs.Adding.{KeepsOrAdds}
use Rattle.lks_law.specs.Batches.{with_batch}
use Rattle.lks_law.specs.Table.{react_on}
use Rattle.lks_peer.specs.Knows.{Knowing}
use Rattle.lks_world.proofs.Named.{told_stands}
use Rattle.lks_world.proofs.states.react.Goals as goal

abbrev the_host : {D : Type 0} → Host D → Knowing → Host D
the_host h p = record h { peer = p }

pub returns-in-Err-Stale-clause-adds : goal.returns-in-Err-Stale-clause-adds
returns-in-Err-Stale-clause-adds g c =
    let old = c.args.host.now in
    let mid = c.accept.new.self in
    let stale = rw c.in-Err-Stale.field-0-is at c.in-Err-Stale.ensures.stale in
    told_stands g.D.Disk.face old mid c.step-in-Err-Stale.new.self
    (λ (h : Host g.row.D.Denot) (batches : List (List Record)). KeepsOrAdds g.D.Disk.face h.journal
    c.step-in-Err-Stale.new.self.journal (bodies_of batches)
    (bodies_of (with_batch batches (react_on h.peer.own h.peer.state c.args.tick c.args.input.now).records))
    (as_journal c.step-in-Err-Stale.result))
    (stale.1 ∙ ap (λ (p : Knowing). the_host old p) stale.0.same)
    (λ batches adds. adds)
    c.step-in-Err-Stale.ensures.adds
