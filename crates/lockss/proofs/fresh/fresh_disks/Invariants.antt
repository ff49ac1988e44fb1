use Rattle.std.proofs.Common.{◌≡◌, length, All}
use Rattle.lks_disk.specs.MemFace.{mem_face}
use Rattle.lks_world.specs.Held.{AreFresh}
use Rattle.lockss.proofs.FreshDisks.{NeverFails}
use Rattle.lockss.proofs.fresh.fresh_disks.Given as goal

abbrev pub invariant-loop-count : goal.invariant-loop-count
invariant-loop-count l = record {
  count : length l.disks.items ≡ l.count;
  fresh : AreFresh mem_face l.disks.items;
  unfailing : All NeverFails l.disks.items;
}
