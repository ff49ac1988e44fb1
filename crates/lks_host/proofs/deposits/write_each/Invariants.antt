use Rattle.std.proofs.Common.{◌≡◌, ◌≤◌, ◌+◌, ◌*◌, ◌++◌, List, take}
use Rattle.std.specs.Prelude.{map}
use Rattle.lks_base.specs.declared.records.Record.{Record}
use Rattle.lks_host.specs.Bodies.{bodies_of, AreRead}
use Rattle.lks_journal.specs.Settled.{IsSettled}
use Rattle.lks_law.specs.Batches.{alone}
use Rattle.lks_host.proofs.deposits.write_each.Given as goal

abbrev pub invariant-loop-item : goal.invariant-loop-item
invariant-loop-item g l = record {
  told : (g.D.Disk.face.told l.fn.journal.disk → g.D.Disk.face.told l.journal.disk)
      × (g.D.Disk.face.told l.journal.disk → g.D.Disk.face.told l.fn.journal.disk);
  settled : g.D.Disk.face.told l.fn.journal.disk → (before : List (List Record))
      → IsSettled g.D.Disk.face l.fn.journal (bodies_of before)
      → IsSettled g.D.Disk.face l.journal (bodies_of (before ++ map alone (take l.item-index l.records)));
  read : AreRead (map alone (take l.item-index l.records));
  end : l.journal.end ≤ l.fn.journal.end + l.item-index * 8389645;
  idle : l.item-index ≡ 0 → l.journal ≡ l.fn.journal;
  faults : g.D.Disk.face.faults l.journal.disk ≡ g.D.Disk.face.faults l.fn.journal.disk;
  fused : g.D.Disk.face.fused l.journal.disk ≡ g.D.Disk.face.fused l.fn.journal.disk;
  calls : g.D.Disk.face.calls l.journal.disk ≡ g.D.Disk.face.calls l.fn.journal.disk;
  cuts : g.D.Disk.face.cuts l.journal.disk ≡ g.D.Disk.face.cuts l.fn.journal.disk;
  choice : g.D.Disk.face.choice l.journal.disk ≡ g.D.Disk.face.choice l.fn.journal.disk;
  burns : g.D.Disk.face.burns l.journal.disk ≡ g.D.Disk.face.burns l.fn.journal.disk;
}
