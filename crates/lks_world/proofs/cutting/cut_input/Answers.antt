use Rattle.std.proofs.Common.{◌∙◌, sym, subst, ℕ}
use Rattle.lks_base.specs.declared.reactions.Reaction.{Reaction}
use Rattle.lks_host.specs.Cutting.{CutsOff, Falls}
use Rattle.lks_law.specs.Batches.{with_batch}
use Rattle.lks_law.specs.Table.{react_on, reaction}
use Rattle.lks_host.specs.Journals.{journal_on}
use Rattle.lks_world.proofs.Acting.{reacts}
use Rattle.lks_world.proofs.CutActs.{host_ends, stands_on}
use Rattle.lks_world.specs.Endings.{HostEnds}
use Rattle.lks_world.proofs.Fallen.{falls_ended}
use Rattle.lks_world.proofs.Stopped.{err_then}
use Rattle.lks_world.proofs.cutting.cut_input.Goals as goal

pub returns-in_ok-note_outcome-in-Ok-clause-ends : goal.returns-in_ok-note_outcome-in-Ok-clause-ends
returns-in_ok-note_outcome-in-Ok-clause-ends g c =
    let f = g.D.Disk.face in
    let h = c.args.host.now in
    let k = c.cut_step.new.host in
    let ready = c.requires.ready in
    let did = c.in-Ok.ensures in
    let said = react_on h.peer.own h.peer.state c.args.tick c.args.input.now in
    let cut = subst (λ (n : ℕ). CutsOff f ready.batches said n h k c.in-Ok.outcome) c.from-calls.ensures
    (did.cuts ready.batches ready.stands) in
    subst
    (HostEnds f (reaction h.peer.own (journal_on f h.journal.disk) c.args.tick c.args.input.now)
    c.args.power.calls h k) (sym c.in_ok-note_outcome-in-Ok.ensures)
    (host_ends f h k ready.batches ready.stands ready.written did.back.own c.args.tick c.args.input.now
    c.args.power.calls c.in-Ok.outcome did.written cut)

pub returns-in_ok-note_outcome-in-Ok-clause-on : goal.returns-in_ok-note_outcome-in-Ok-clause-on
returns-in_ok-note_outcome-in-Ok-clause-on g c =
    let f = g.D.Disk.face in
    let h = c.args.host.now in
    let k = c.cut_step.new.host in
    let ready = c.requires.ready in
    let did = c.in-Ok.ensures in
    record {
      whole = λ e. did.back.broken;
      room = did.end;
      unfused = did.back.unfused ∙ sym ready.unfused;
      pool = did.back.pool;
      stands =
          λ bs stood. stands_on f h k ready.batches ready.stands ready.written did.back.own c.args.tick
          c.args.input.now c.from-calls.result c.in-Ok.outcome bs (did.cuts ready.batches ready.stands)
          (did.cuts bs stood);
    }

pub returns-in_err-note_outcome-in-Ok-clause-falls : goal.returns-in_err-note_outcome-in-Ok-clause-falls
returns-in_err-note_outcome-in-Ok-clause-falls g c = λ batches stood.
    let h = c.args.host.now in
    let ready = c.requires.ready in
    let k = c.cut_step.new.host in
    let said = react_on h.peer.own h.peer.state c.args.tick c.args.input.now in
    err_then c.from_residual.result
    (subst (λ (r : Reaction). Falls g.D.Disk.face batches (with_batch batches r.records) k.journal.disk)
    (reacts g.D.Disk.face h ready.batches ready.stands ready.written c.args.tick c.args.input.now)
    (falls_ended g.D.Disk.face batches said c.from-calls.result h k c.in-Ok.outcome
    (c.in-Ok.ensures.cuts batches stood)))

pub returns-in-Err-clause-falls : goal.returns-in-Err-clause-falls
returns-in-Err-clause-falls g c = λ batches stood.
    let h = c.args.host.now in
    let ready = c.requires.ready in
    subst
    (λ (r : Reaction). Falls g.D.Disk.face batches (with_batch batches r.records)
    c.cut_step.new.host.journal.disk)
    (reacts g.D.Disk.face h ready.batches ready.stands ready.written c.args.tick c.args.input.now)
    (c.in-Err.ensures.falls batches stood)
