use Rattle.std.proofs.Common.{◌≡◌, length}
use Rattle.lks_disk.specs.MemFace.{mem_face}
use Rattle.lks_world.specs.Held.{AreFresh}
use Rattle.lks_run_trials.proofs.world.ordinary.fresh_disks.Given as goal

abbrev pub invariant-loop-count : goal.invariant-loop-count
invariant-loop-count l = record {
  count : length l.disks.items ≡ l.count;
  fresh : AreFresh mem_face l.disks.items;
}
