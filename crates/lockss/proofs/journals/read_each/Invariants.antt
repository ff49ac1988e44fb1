use Rattle.lockss.proofs.Rereading.{Leads}
use Rattle.lockss.specs.ReadingBack.{AreReopened}
use Rattle.lockss.proofs.journals.read_each.Given as goal

abbrev pub invariant-loop-place : goal.invariant-loop-place
invariant-loop-place g l = record {
  reopened : AreReopened g.D.Disk.face l.owners l.fn.disks.items l.disks.items;
  leads : Leads g.D.Disk.face l.owners l.fn.disks.items l.place l.journals.items;
}
