use Rattle.lks_world.proofs.SiteLaws.{place_is}
use Rattle.lks_world.proofs.sites.place_of.Goals as goal

pub returns : goal.returns
returns g c = place_is g.D.Disk.face c.args.id c.args.sites.now c.find.result c.find.ensures
