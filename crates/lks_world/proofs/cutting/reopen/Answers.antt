use Rattle.std.proofs.Common.{◌≡◌, ◌∙◌, sym, subst, []}
use Rattle.std.specs.Prelude.{None}
use Rattle.lks_law.specs.World.{peer_at}
use Rattle.lks_world.proofs.Ending.{nothing_added, with_nothing}
use Rattle.lks_world.proofs.HostLaws.{ok_then, stayed}
use Rattle.lks_world.proofs.SiteLaws.{ActsAt, acts_at, never_idle, acts_there, acts_ranked, acts_added, acts_on}
use Rattle.lks_world.proofs.SiteLaws.{counted_one}
use Rattle.std.specs.Prelude.{OnErr, slice_set}
use Rattle.lks_world.specs.Hosts.{HaveFallen, peer_in, peers_of}
use Rattle.lks_world.specs.declared.sites.Site.TheVariants as site
use Rattle.lks_world.specs.Sites.{hosts_of}
use Rattle.lks_world.proofs.cutting.reopen.Given.{Over}
use Rattle.lks_world.proofs.cutting.reopen.Goals.{In-Host}
use Rattle.lks_world.proofs.Fallen.{fell_each}
use Rattle.lks_world.proofs.SiteLaws.{acts_fell}
use Rattle.lks_world.proofs.Stopped.{err_map}
use Rattle.lks_world.proofs.PowerEnds.{power_absent, power_lost}
use Rattle.lks_world.proofs.cutting.reopen.Goals as goal

site_acts : (g : Over) (c : In-Host g)
    → ActsAt g.D.Disk.face c.args.id c.args.sites.now.items c.in-Some.place c.in-Host.host
site_acts g c =
    acts_at g.D.Disk.face c.args.id c.deref.result.now c.args.sites.now.items c.in-Some.place c.index_mut.result.now
    c.deref.ensures.value c.in-Some.ensures c.index_mut.ensures.value c.in-Host.host c.in-Host.is

pub returns-in_default-clause-on : goal.returns-in_default-clause-on
returns-in_default-clause-on g c = stayed g.D.Disk.face (hosts_of c.args.sites.now.items)

pub unreachable-requires : goal.unreachable-requires
unreachable-requires g c =
    never_idle g.D.Disk.face c.args.id c.deref.result.now c.args.sites.now.items c.in-Some.place
    c.index_mut.result.now c.deref.ensures.value c.in-Some.ensures c.index_mut.ensures.value c.in-Idle.field-0
    c.in-Idle.is

pub restart_as-requires-clause-ready : goal.restart_as-requires-clause-ready
restart_as-requires-clause-ready g c = λ κs lives.
    let f = g.D.Disk.face in
    let sites = c.args.sites.now.items in
    let h = c.in-Host.host in
    let acts = site_acts g (goal.at.restart_as-requires-clause-ready g c).In-Host in
    c.requires.ready acts.stands.rank h (acts_ranked f c.args.id sites c.in-Some.place h acts)

pub restart_as-requires-clause-made : goal.restart_as-requires-clause-made
restart_as-requires-clause-made g c = λ κs lives.
    let f = g.D.Disk.face in
    let sites = c.args.sites.now.items in
    let h = c.in-Host.host in
    let acts = site_acts g (goal.at.restart_as-requires-clause-made g c).In-Host in
    c.requires.made acts.stands.rank h (acts_ranked f c.args.id sites c.in-Some.place h acts)

pub returns-clause-peers : goal.returns-clause-peers
returns-clause-peers g c =
    let f = g.D.Disk.face in
    let sites = c.args.sites.now.items in
    let h = c.in-Host.host in
    let acts = site_acts g (goal.at.returns-clause-peers g c).In-Host in
    let k = c.restart_as.new.host in
    ok_then c.restart_as.result
    (λ (same : peer_in f k ≡ peer_in f h). acts_added f c.args.id sites c.in-Some.place h acts [] k
    (same ∙ sym (with_nothing (peer_in f h)))
    ∙ nothing_added c.args.id (peers_of f (hosts_of sites)))
    c.restart_as.ensures.peer

pub returns-clause-on : goal.returns-clause-on
returns-clause-on g c =
    let f = g.D.Disk.face in
    let sites = c.args.sites.now.items in
    let h = c.in-Host.host in
    let acts = site_acts g (goal.at.returns-clause-on g c).In-Host in
    ok_then c.restart_as.result (acts_on f c.args.id sites c.in-Some.place h acts c.restart_as.new.host)
    c.restart_as.ensures.on

pub returns-clause-counted : goal.returns-clause-counted
returns-clause-counted g c =
    let f = g.D.Disk.face in
    let sites = c.args.sites.now.items in
    let h = c.in-Host.host in
    let acts = site_acts g (goal.at.returns-clause-counted g c).In-Host in
    counted_one f sites c.in-Some.place h c.restart_as.new.host c.restart_as.result
    (acts_there f c.args.id sites c.in-Some.place h acts) c.restart_as.ensures.acted

pub returns-clause-fallen : goal.returns-clause-fallen
returns-clause-fallen g c =
    let f = g.D.Disk.face in
    let sites = c.args.sites.now.items in
    let h = c.in-Host.host in
    let acts = site_acts g (goal.at.returns-clause-fallen g c).In-Host in
    let k = c.restart_as.new.host in
    subst
    (λ ps. OnErr c.restart_as.result
    (HaveFallen f (hosts_of sites) ps (hosts_of (slice_set sites c.in-Some.place (site.Host k)))))
    (nothing_added c.args.id (peers_of f (hosts_of sites)))
    (err_map c.restart_as.result (acts_fell f c.args.id sites c.in-Some.place h acts [] k)
    (fell_each f c.restart_as.result h k (λ batches. batches) c.restart_as.ensures.falls))

pub returns-in_default-clause-power : goal.returns-in_default-clause-power
returns-in_default-clause-power g c =
    power_absent g.D.Disk.face c.args.id c.args.sites.now.items
    (subst (λ ss. peer_at c.args.id (peers_of g.D.Disk.face (hosts_of ss)) ≡ None) c.deref.ensures.value
    c.in_default.ensures.none)

pub returns-clause-power : goal.returns-clause-power
returns-clause-power g c =
    let acts = site_acts g (goal.at.returns-clause-power g c).In-Host in
    power_lost g.D.Disk.face c.args.id c.args.sites.now.items c.in-Some.place c.in-Host.host acts
    c.restart_as.new.host c.restart_as.ensures.burns c.restart_as.ensures.power.cuts
