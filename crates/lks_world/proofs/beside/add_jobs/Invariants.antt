use Rattle.std.proofs.Common.{◌≡◌, ℕ, List}
use Rattle.lks_farm.specs.Batches.{AreOf}
use Rattle.lks_world.specs.Beside.{without_places}
use Rattle.lks_world.proofs.beside.add_jobs.Given as goal

abbrev pub invariant-loop-k : goal.invariant-loop-k
invariant-loop-k g l = record {
  same : without_places l.host ≡ without_places l.fn.host;
  of : (pool : List ℕ) → l.fn.host.peer.pool ≡ pool → AreOf pool l.fn.jobs.items → AreOf pool l.jobs.items;
}
