use Rattle.std.proofs.Common.{ℕ, List, ◌≡◌, length}
use Rattle.lks_farm.specs.Batches.{AreOf}
use Rattle.lks_world.specs.Beside.{ArePooled, AreSameSites}
use Rattle.lks_world.proofs.beside.gather.Given as goal

abbrev pub invariant-loop-place : goal.invariant-loop-place
invariant-loop-place g l = record {
  same : AreSameSites l.fn.sites.items l.sites.items;
  count : length l.sites.items ≡ length l.fn.sites.items;
  of : (pool : List ℕ) → ArePooled pool l.fn.sites.items → AreOf pool l.jobs.items;
}
