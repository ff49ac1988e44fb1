use Rattle.std.proofs.Common.{◌≡◌, drop}
use Rattle.std.specs.Prelude.{find}
use Rattle.std.specs.List.{flat_map}
use Rattle.lks_work.specs.Names.{is_left}
use Rattle.lks_world.specs.Giving.{site_works}
use Rattle.lks_world.proofs.giving.work_left.Given as goal

abbrev pub invariant-loop-place : goal.invariant-loop-place
invariant-loop-place g l =
    find (is_left l.out) (flat_map site_works (drop l.place l.sites))
    ≡ find (is_left l.out) (flat_map site_works l.sites)
