use Rattle.std.proofs.Common.{◌∙◌, sym}
use Rattle.std.specs.List.{flat_map}
use Rattle.lks_world.proofs.ReadyLaws.{first_front, first_behind}
use Rattle.lks_world.specs.States.{site_steps}
use Rattle.lks_world.specs.declared.settling.OwnSteps.TheVariants.{Ready, Turns}
use Rattle.lks_world.proofs.settling.first_until_finished.Goals as goal

pub returns-in-Some : goal.returns-in-Some
returns-in-Some g c =
    first_front (flat_map (site_steps Ready) c.args.sites.now) (flat_map (site_steps Turns) c.args.sites.now)
    c.in-Some.due (sym c.in-Some.is ∙ c.first_step.ensures)

pub returns-in-None : goal.returns-in-None
returns-in-None g c =
    c.first_step-in-None.ensures
    ∙ first_behind (flat_map (site_steps Ready) c.args.sites.now) (flat_map (site_steps Turns) c.args.sites.now)
    (sym c.in-None.is ∙ c.first_step.ensures)
