use Rattle.std.proofs.Common.{◌≡◌, drop}
use Rattle.std.specs.List.{flat_map}
use Rattle.lks_law.specs.Due.{first_own}
use Rattle.lks_world.specs.States.{site_steps}
use Rattle.lks_world.proofs.settling.first_step.Given as goal

abbrev pub invariant-loop-site : goal.invariant-loop-site
invariant-loop-site g l =
    first_own (flat_map (site_steps l.part) (drop l.site-index l.sites))
    ≡ first_own (flat_map (site_steps l.part) l.sites)
