use Rattle.std.proofs.Common.{◌≡◌, take}
use Rattle.std.specs.Prelude.{All, map}
use Rattle.lks_law.specs.Batches.{alone}
use Rattle.lks_host.specs.Fits.{IsSpelled}
use Rattle.lks_host.specs.Sorted.{spelled_each}
use Rattle.lks_host.proofs.sorting.first_unlike.Given as goal

abbrev pub invariant-loop-place : goal.invariant-loop-place
invariant-loop-place l = record {
  alike : take l.place l.batches ≡ take l.place (spelled_each l.begun);
  spelled : All IsSpelled (map alone (take l.place l.begun));
}
