use Rattle.std.proofs.Common.{◌∙◌, ◌+◌, ap, sym, subst, List, ◌++◌, arith}
use Rattle.std.specs.Prelude.{Some, None, Err}
use Rattle.lks_gather.specs.Texts.{Filed}
use Rattle.lockss.proofs.Rereading.{Leads, err_fault, leads_by, leads_whole, leads_with, named_at, none_named}
use Rattle.lockss.proofs.Rereading.{none_reopened, reads_one, reopened_at, still_journal, wants_memory}
use Rattle.lockss.specs.ReadingBack.{AreOn, AreReopened, IsReadAt}
use Rattle.lockss.proofs.journals.read_each.Goals.{in-Some+in_ok-read_at+in_ok-push, in_default}
use Rattle.lockss.proofs.journals.read_each.Goals as goal

pub loop-place-init : goal.loop-place-init
loop-place-init g c = record {
  reopened = none_reopened g.D.Disk.face c.args.owners.now c.args.disks.now.items c.requires.can.enough;
  leads =
      λ more on. subst
      (λ (l : List Filed). AreOn g.D.Disk.face c.args.owners.now c.args.disks.now.items (l ++ more))
      (sym c.new-journals.ensures.items) on;
}

pub read_at-requires-clause-is : goal.read_at-requires-clause-is
read_at-requires-clause-is g c = λ κs lives disk at.
    let named = named_at c.args.owners.now c.loop-place.place None (Some c.in-Some.peer) c.loop-place-test.true
    c.in-Some.is in
    let had = reopened_at g.D.Disk.face c.args.owners.now c.args.disks.now.items c.loop-place.disks.items
    c.loop-place.place c.in-Some.peer disk c.loop-place.invariant.reopened named at in
    still_journal g.D.Disk.face had.0 disk had.2
    (c.requires.can.journals c.loop-place.place c.in-Some.peer had.0 named had.1)

pub returns-in_err-read_at-clause-disks : goal.returns-in_err-read_at-clause-disks
returns-in_err-read_at-clause-disks g c =
    let named = named_at c.args.owners.now c.loop-place.place None (Some c.in-Some.peer) c.loop-place-test.true
    c.in-Some.is in
    reads_one g.D.Disk.face c.args.owners.now c.args.disks.now.items c.loop-place.disks.items
    c.read_at.new.disks.items c.loop-place.place c.in-Some.peer c.read_at.result _
    c.loop-place.invariant.reopened named c.read_at.ensures
    (λ peer is. c.in_err-read_at.was
    ∙ ap Err (err_fault c.from_residual.result c.in_err-read_at.field-0.0 c.from_residual.ensures.1 peer is))

pub returns-in_err-push-clause-disks : goal.returns-in_err-push-clause-disks
returns-in_err-push-clause-disks g c =
    let named = named_at c.args.owners.now c.loop-place.place None (Some c.in-Some.peer) c.loop-place-test.true
    c.in-Some.is in
    reads_one g.D.Disk.face c.args.owners.now c.args.disks.now.items c.loop-place.disks.items
    c.read_at.new.disks.items c.loop-place.place c.in-Some.peer c.read_at.result _
    c.loop-place.invariant.reopened named c.read_at.ensures
    (λ peer is. absurd (wants_memory c.from_residual-in_err-push.result c.from_residual-in_err-push.ensures.1 peer is))

pub loop-place-preserved : goal.loop-place-preserved
loop-place-preserved g c = elim c.match-owner.branch [
  | in-Some+in_ok-read_at+in_ok-push w ↦
      let named = named_at c.args.owners.now c.loop-place.place None (Some w.in-Some.peer) c.loop-place-test.true
      w.in-Some.is in
      let reads = reads_one g.D.Disk.face c.args.owners.now c.args.disks.now.items c.loop-place.disks.items
      w.read_at.new.disks.items c.loop-place.place w.in-Some.peer w.read_at.result None
      c.loop-place.invariant.reopened named w.read_at.ensures (λ peer is. absurd cc) in
      let at = subst
      (λ r. IsReadAt g.D.Disk.face w.in-Some.peer c.loop-place.place c.loop-place.disks.items
      w.read_at.new.disks.items r) w.in_ok-read_at.was w.read_at.ensures in
      let leads = leads_with g.D.Disk.face c.args.owners.now c.args.disks.now.items c.loop-place.disks.items
      w.read_at.new.disks.items c.loop-place.place w.in-Some.peer c.loop-place.journals.items
      w.in_ok-read_at.field-0 c.loop-place.invariant.reopened named at c.loop-place.invariant.leads in
      record {
        reopened =
            subst (λ v. AreReopened g.D.Disk.face c.args.owners.now c.args.disks.now.items v.items) (sym w.disks-is)
            reads.are;
        leads =
            subst (Leads g.D.Disk.face c.args.owners.now c.args.disks.now.items (c.loop-place.place + 1))
            (sym (ap (λ v. v.items) w.journals-is ∙ w.in_ok-push.ensures.items)) leads;
      }
  | in_default w ↦
      let named = none_named c.args.owners.now c.loop-place.place c.loop-place-test.true w.in_default.not-Some in
      record {
        reopened =
            subst (λ v. AreReopened g.D.Disk.face c.args.owners.now c.args.disks.now.items v.items) (sym w.disks-is)
            c.loop-place.invariant.reopened;
        leads =
            subst
            (λ v. Leads g.D.Disk.face c.args.owners.now c.args.disks.now.items (c.loop-place.place + 1) v.items)
            (sym w.journals-is)
            (leads_by g.D.Disk.face c.args.owners.now c.args.disks.now.items c.loop-place.place
            c.loop-place.journals.items c.requires.can.enough c.loop-place-test.true
            c.loop-place.invariant.leads named);
      }
]

pub returns-clause-journals : goal.returns-clause-journals
returns-clause-journals g c =
    leads_whole g.D.Disk.face c.args.owners.now c.args.disks.now.items c.loop-place.place
    c.loop-place.journals.items (omega arith) c.loop-place.invariant.leads
