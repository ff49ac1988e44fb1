use Rattle.std.proofs.Common.{arith}
use Rattle.lks_base.proofs.PlanBounds.{few_peers}
use Rattle.lks_run_trials.proofs.world.ordinary.world_of.Goals as goal

pub new-requires-2-clause-enough : goal.new-requires-2-clause-enough
new-requires-2-clause-enough g c κs within =
    omega (arith, few_peers c.args.plan c.requires.good, c.in_ok-disks.ensures.enough)
