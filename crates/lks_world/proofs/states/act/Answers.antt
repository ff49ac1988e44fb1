use Rattle.std.proofs.Common.{◌≡◌, sym, subst}
use Rattle.std.specs.Prelude.{Some, IfOk, OnOk, OnErr, slice_set}
use Rattle.lks_law.specs.Entries.{notes_at}
use Rattle.lks_law.specs.World.{Deed, peer_at, reaction_at, with_records}
use Rattle.lks_world.proofs.HostLaws.{ok_then, stayed}
use Rattle.lks_world.proofs.SiteLaws.{acts_at, never_idle, acts_there, acts_ranked, acts_found, acts_added, acts_on}
use Rattle.lks_world.proofs.SiteLaws.{counted_one}
use Rattle.lks_law.specs.Batches.{with_batch}
use Rattle.lks_world.specs.Hosts.{HaveFallen, peer_in, peers_of}
use Rattle.lks_world.specs.Sites.{hosts_of}
use Rattle.lks_world.specs.declared.sites.Site.TheVariants as site
use Rattle.lks_world.proofs.Fallen.{fell_each}
use Rattle.lks_world.proofs.SiteLaws.{acts_fell}
use Rattle.lks_world.proofs.Stopped.{err_map}
use Rattle.lks_world.proofs.PowerEnds.{power_kept}
use Rattle.lks_world.proofs.states.act.Goals as goal

pub returns-in_default-clause-on : goal.returns-in_default-clause-on
returns-in_default-clause-on g c = stayed g.D.Disk.face (hosts_of c.args.sites.now.items)

pub unreachable-requires : goal.unreachable-requires
unreachable-requires g c =
    never_idle g.D.Disk.face c.deed.inside.peer c.deref.result.now c.args.sites.now.items c.in-Some.place
    c.index_mut.result.now c.deref.ensures.value c.in-Some.ensures c.index_mut.ensures.value c.in-Idle.field-0
    c.in-Idle.is

pub act_as-requires-clause-ready : goal.act_as-requires-clause-ready
act_as-requires-clause-ready g c = λ κs lives.
    let sites = c.args.sites.now.items in
    let h = c.in-Host.host in
    let acts = acts_at g.D.Disk.face c.deed.inside.peer c.deref.result.now sites c.in-Some.place
    c.index_mut.result.now c.deref.ensures.value c.in-Some.ensures c.index_mut.ensures.value h c.in-Host.is in
    c.requires.ready acts.stands.rank h (acts_ranked g.D.Disk.face c.deed.inside.peer sites c.in-Some.place h acts)

pub returns-clause-sends : goal.returns-clause-sends
returns-clause-sends g c =
    let sites = c.args.sites.now.items in
    let h = c.in-Host.host in
    let acts = acts_at g.D.Disk.face c.deed.inside.peer c.deref.result.now sites c.in-Some.place
    c.index_mut.result.now c.deref.ensures.value c.in-Some.ensures c.index_mut.ensures.value h c.in-Host.is in
    subst
    (λ (v : Deed). IfOk c.act_as.result
    (λ d. d.sends
    ≡ (reaction_at c.args.tick (peer_at v.peer (peers_of g.D.Disk.face (hosts_of sites))) v.input).sends))
    c.deed.view_is
    (subst (λ o. IfOk c.act_as.result (λ d. d.sends ≡ (reaction_at c.args.tick o c.deed.inside.input).sends))
    (sym (acts_found g.D.Disk.face c.deed.inside.peer sites c.in-Some.place h acts)) c.act_as.ensures.sends)

pub returns-clause-notes : goal.returns-clause-notes
returns-clause-notes g c =
    let sites = c.args.sites.now.items in
    let h = c.in-Host.host in
    let acts = acts_at g.D.Disk.face c.deed.inside.peer c.deref.result.now sites c.in-Some.place
    c.index_mut.result.now c.deref.ensures.value c.in-Some.ensures c.index_mut.ensures.value h c.in-Host.is in
    subst
    (λ (v : Deed). IfOk c.act_as.result
    (λ d. d.notes
    ≡ notes_at (peer_at v.peer (peers_of g.D.Disk.face (hosts_of sites)))
    (reaction_at c.args.tick (peer_at v.peer (peers_of g.D.Disk.face (hosts_of sites))) v.input).records))
    c.deed.view_is
    (subst
    (λ o. IfOk c.act_as.result
    (λ d. d.notes ≡ notes_at o (reaction_at c.args.tick o c.deed.inside.input).records))
    (sym (acts_found g.D.Disk.face c.deed.inside.peer sites c.in-Some.place h acts)) c.act_as.ensures.notes)

pub returns-clause-peers : goal.returns-clause-peers
returns-clause-peers g c =
    let sites = c.args.sites.now.items in
    let h = c.in-Host.host in
    let k = c.act_as.new.host in
    let place = c.in-Some.place in
    let acts = acts_at g.D.Disk.face c.deed.inside.peer c.deref.result.now sites place c.index_mut.result.now
    c.deref.ensures.value c.in-Some.ensures c.index_mut.ensures.value h c.in-Host.is in
    subst
    (λ (v : Deed). OnOk c.act_as.result
    (peers_of g.D.Disk.face (hosts_of (slice_set sites place (site.Host k)))
    ≡ with_records v.peer
    (reaction_at c.args.tick (peer_at v.peer (peers_of g.D.Disk.face (hosts_of sites))) v.input).records
    (peers_of g.D.Disk.face (hosts_of sites)))) c.deed.view_is
    (subst
    (λ o. OnOk c.act_as.result
    (peers_of g.D.Disk.face (hosts_of (slice_set sites place (site.Host k)))
    ≡ with_records c.deed.inside.peer (reaction_at c.args.tick o c.deed.inside.input).records
    (peers_of g.D.Disk.face (hosts_of sites))))
    (sym (acts_found g.D.Disk.face c.deed.inside.peer sites place h acts))
    (ok_then c.act_as.result (acts_added g.D.Disk.face c.deed.inside.peer sites place h acts _ k)
    c.act_as.ensures.peer))

pub returns-clause-on : goal.returns-clause-on
returns-clause-on g c =
    let sites = c.args.sites.now.items in
    let h = c.in-Host.host in
    let acts = acts_at g.D.Disk.face c.deed.inside.peer c.deref.result.now sites c.in-Some.place
    c.index_mut.result.now c.deref.ensures.value c.in-Some.ensures c.index_mut.ensures.value h c.in-Host.is in
    ok_then c.act_as.result
    (acts_on g.D.Disk.face c.deed.inside.peer sites c.in-Some.place h acts c.act_as.new.host)
    c.act_as.ensures.on

pub returns-clause-counted : goal.returns-clause-counted
returns-clause-counted g c =
    let sites = c.args.sites.now.items in
    let h = c.in-Host.host in
    let acts = acts_at g.D.Disk.face c.deed.inside.peer c.deref.result.now sites c.in-Some.place
    c.index_mut.result.now c.deref.ensures.value c.in-Some.ensures c.index_mut.ensures.value h c.in-Host.is in
    counted_one g.D.Disk.face sites c.in-Some.place h c.act_as.new.host c.act_as.result
    (acts_there g.D.Disk.face c.deed.inside.peer sites c.in-Some.place h acts) c.act_as.ensures.acted

pub returns-clause-fallen : goal.returns-clause-fallen
returns-clause-fallen g c =
    let f = g.D.Disk.face in
    let sites = c.args.sites.now.items in
    let h = c.in-Host.host in
    let acts = acts_at f c.deed.inside.peer c.deref.result.now sites c.in-Some.place c.index_mut.result.now
    c.deref.ensures.value c.in-Some.ensures c.index_mut.ensures.value h c.in-Host.is in
    let k = c.act_as.new.host in
    let place = c.in-Some.place in
    let records = (reaction_at c.args.tick (Some (peer_in f h)) c.deed.inside.input).records in
    subst
    (λ (v : Deed). OnErr c.act_as.result
    (HaveFallen f (hosts_of sites)
    (with_records v.peer
    (reaction_at c.args.tick (peer_at v.peer (peers_of f (hosts_of sites))) v.input).records
    (peers_of f (hosts_of sites))) (hosts_of (slice_set sites place (site.Host k))))) c.deed.view_is
    (subst
    (λ o. OnErr c.act_as.result
    (HaveFallen f (hosts_of sites)
    (with_records c.deed.inside.peer (reaction_at c.args.tick o c.deed.inside.input).records
    (peers_of f (hosts_of sites))) (hosts_of (slice_set sites place (site.Host k)))))
    (sym (acts_found f c.deed.inside.peer sites place h acts))
    (err_map c.act_as.result (acts_fell f c.deed.inside.peer sites place h acts records k)
    (fell_each f c.act_as.result h k (λ batches. with_batch batches records) c.act_as.ensures.falls)))

pub returns-clause-power : goal.returns-clause-power
returns-clause-power g c =
    let f = g.D.Disk.face in
    let sites = c.args.sites.now.items in
    let h = c.in-Host.host in
    let acts = acts_at f c.deed.inside.peer c.deref.result.now sites c.in-Some.place c.index_mut.result.now
    c.deref.ensures.value c.in-Some.ensures c.index_mut.ensures.value h c.in-Host.is in
    power_kept f c.deed.inside.peer sites c.in-Some.place h acts c.act_as.new.host c.act_as.ensures.power
