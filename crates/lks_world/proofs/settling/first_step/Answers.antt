use Rattle.std.proofs.Common.{sym, ◌∙◌}
use Rattle.lks_world.proofs.ReadyLaws.{first_here, first_later}
use Rattle.lks_world.specs.States.{site_steps}
use Rattle.lks_world.proofs.settling.first_step.Goals as goal

pub returns-in-Some : goal.returns-in-Some
returns-in-Some g c =
    sym
    (first_here (site_steps c.args.part) c.args.sites.now c.loop-site.site-index c.site-item.result c.in-Some.s
    c.loop-site-test.true c.site-item.is (sym c.first.ensures ∙ c.in-Some.is))
    ∙ c.loop-site.invariant

pub loop-site-preserved : goal.loop-site-preserved
loop-site-preserved g c =
    sym
    (first_later (site_steps c.args.part) c.args.sites.now c.loop-site.site-index c.site-item.result
    c.loop-site-test.true c.site-item.is (sym c.first.ensures ∙ c.in-None.is))
    ∙ c.loop-site.invariant
