use Rattle.lks_world.proofs.CutLaws.{if_some}
use Rattle.lks_world.proofs.SiteEnds.{peers_end, sites_burn, sites_fell}
use Rattle.lks_world.proofs.HostLaws.{ok_then}
use Rattle.lks_world.proofs.SiteLaws.{ActsAt, acts_at, acts_there, acts_ranked, acts_on, counted_one}
use Rattle.lks_world.proofs.cutting.cut_at.Given.{Over}
use Rattle.lks_world.proofs.cutting.cut_at.Goals.{In-Host}
use Rattle.lks_world.proofs.PowerEnds.{power_ends}
use Rattle.lks_world.proofs.cutting.cut_at.Goals as goal

site_acts : (g : Over) (c : In-Host g)
    → ActsAt g.D.Disk.face c.args.id c.args.sites.now.items c.in-Some.place c.in-Host.host
site_acts g c =
    acts_at g.D.Disk.face c.args.id c.deref.result.now c.args.sites.now.items c.in-Some.place c.index_mut.result.now
    c.deref.ensures.value c.in-Some.ensures c.index_mut.ensures.value c.in-Host.host c.in-Host.is

pub cut_as-requires-clause-ready : goal.cut_as-requires-clause-ready
cut_as-requires-clause-ready g c = λ κs lives.
    let f = g.D.Disk.face in
    let sites = c.args.sites.now.items in
    let h = c.in-Host.host in
    let acts = site_acts g (goal.at.cut_as-requires-clause-ready g c).In-Host in
    c.requires.ready acts.stands.rank h (acts_ranked f c.args.id sites c.in-Some.place h acts)

pub cut_as-requires-clause-made : goal.cut_as-requires-clause-made
cut_as-requires-clause-made g c = λ κs lives.
    let f = g.D.Disk.face in
    let sites = c.args.sites.now.items in
    let h = c.in-Host.host in
    let acts = site_acts g (goal.at.cut_as-requires-clause-made g c).In-Host in
    c.requires.made acts.stands.rank h (acts_ranked f c.args.id sites c.in-Some.place h acts)

pub cut_as-requires-clause-heard : goal.cut_as-requires-clause-heard
cut_as-requires-clause-heard g c = λ κs lives. if_some c.args.deed.now (λ d told. told.0) c.requires.told

pub returns-clause-ends : goal.returns-clause-ends
returns-clause-ends g c =
    let f = g.D.Disk.face in
    let sites = c.args.sites.now.items in
    let h = c.in-Host.host in
    let acts = site_acts g (goal.at.returns-clause-ends g c).In-Host in
    peers_end f c.args.id sites c.in-Some.place h acts c.cut_as.new.host c.args.tick c.args.deed.now
    c.args.power.calls c.cut_as.result (if_some c.args.deed.now (λ d told. told.1) c.requires.told)
    c.cut_as.ensures.ends

pub returns-clause-on : goal.returns-clause-on
returns-clause-on g c =
    let f = g.D.Disk.face in
    let sites = c.args.sites.now.items in
    let h = c.in-Host.host in
    let acts = site_acts g (goal.at.returns-clause-on g c).In-Host in
    ok_then c.cut_as.result (acts_on f c.args.id sites c.in-Some.place h acts c.cut_as.new.host) c.cut_as.ensures.on

pub returns-clause-counted : goal.returns-clause-counted
returns-clause-counted g c =
    let f = g.D.Disk.face in
    let sites = c.args.sites.now.items in
    let h = c.in-Host.host in
    let acts = site_acts g (goal.at.returns-clause-counted g c).In-Host in
    counted_one f sites c.in-Some.place h c.cut_as.new.host c.cut_as.result
    (acts_there f c.args.id sites c.in-Some.place h acts) c.cut_as.ensures.acted

pub returns-clause-burns : goal.returns-clause-burns
returns-clause-burns g c =
    let f = g.D.Disk.face in
    let sites = c.args.sites.now.items in
    let h = c.in-Host.host in
    let acts = site_acts g (goal.at.returns-clause-burns g c).In-Host in
    sites_burn f c.args.id sites c.in-Some.place h acts c.cut_as.new.host c.args.power.calls c.args.power.choice
    c.cut_as.result c.cut_as.ensures.burns

pub returns-clause-fallen : goal.returns-clause-fallen
returns-clause-fallen g c =
    let f = g.D.Disk.face in
    let sites = c.args.sites.now.items in
    let h = c.in-Host.host in
    let acts = site_acts g (goal.at.returns-clause-fallen g c).In-Host in
    sites_fell f c.args.id sites c.in-Some.place h acts c.cut_as.new.host c.args.tick c.args.deed.now
    c.cut_as.result (if_some c.args.deed.now (λ d told. told.1) c.requires.told) c.cut_as.ensures.falls

pub returns-clause-power : goal.returns-clause-power
returns-clause-power g c =
    let acts = site_acts g (goal.at.returns-clause-power g c).In-Host in
    power_ends g.D.Disk.face c.args.id c.args.sites.now.items c.in-Some.place c.in-Host.host acts c.cut_as.new.host
    c.args.power.calls c.args.power.choice c.cut_as.result c.cut_as.ensures.power c.cut_as.ensures.burns
