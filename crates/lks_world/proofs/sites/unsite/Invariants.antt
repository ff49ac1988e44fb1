use Rattle.std.proofs.Common.{◌≡◌, ◌≤◌, ◌+◌, ◌++◌, vec_len}
use Rattle.std.specs.Prelude.{reverse, vec_capacity}
use Rattle.lks_world.specs.Sites.{disks_at}
use Rattle.lks_world.proofs.sites.unsite.Given as goal

abbrev pub invariant-loop-site : goal.invariant-loop-site
invariant-loop-site g l = record {
  room : vec_len l.disks + vec_len l.sites ≤ vec_capacity l.disks;
  items : l.disks.items ++ reverse (disks_at l.sites.items) ≡ l.fn.disks.items ++ reverse (disks_at l.fn.sites.items);
}

abbrev pub decreases-loop-site : goal.decreases-loop-site
decreases-loop-site g l = vec_len l.sites
