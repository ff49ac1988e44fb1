use Rattle.std.proofs.Common.{◌≡◌, ◌≤◌, ◌+◌, length, take, vec_len}
use Rattle.std.specs.Prelude.{vec_capacity}
use Rattle.lks_world.proofs.BeginLaws.{AreMade}
use Rattle.lks_world.proofs.beginning.site_each.Given as goal

abbrev pub invariant-loop-p : goal.invariant-loop-p
invariant-loop-p g l = record {
  made : AreMade g.D.Disk.face l.pool l.plan l.fn.disks.items l.sites.items l.disks.items (take l.p-index l.plan.peers);
  count : vec_len l.sites ≡ l.p-index;
  enough : length l.plan.peers ≤ l.p-index + vec_len l.disks;
  room : length l.plan.peers ≤ vec_capacity l.sites;
  disk_room : vec_len l.disks + vec_len l.sites ≤ vec_capacity l.disks;
}
