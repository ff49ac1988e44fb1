use Rattle.std.proofs.Common.{◌∙◌, inl, refl, ap, sym, subst}
use Rattle.lks_law.specs.World.{peer_at}
use Rattle.lks_world.proofs.GivingLaws.{expects_at}
use Rattle.lks_world.proofs.SameSites.{same_set}
use Rattle.lks_world.specs.Giving.{peer_named}
use Rattle.lks_world.specs.Hosts.{peers_of}
use Rattle.lks_world.specs.Sites.{hosts_of, StandsAt}
use Rattle.lks_world.proofs.giving.expected.Goals as goal

pub returns-in-Some-clause-same : goal.returns-in-Some-clause-same
returns-in-Some-clause-same g c =
    same_set c.args.sites.now.items c.in-Some.place c.index_mut.result.now c.expected.new.self
    c.index_mut.ensures.value c.expected.ensures.same

pub returns-in-Some-clause-expected : goal.returns-in-Some-clause-expected
returns-in-Some-clause-expected g c =
    let f = g.D.Disk.face in
    let named = c.peer_of.ensures ∙ ap peer_named c.name.ensures in
    expects_at f c.args.done.now c.args.sites.now.items c.in-Some.place c.index_mut.result.now c.expected.result
    (subst (λ id. StandsAt f id c.args.sites.now.items c.in-Some.place) named
    (subst (λ ss. StandsAt f c.peer_of.result ss c.in-Some.place) c.deref.ensures.value c.in-Some.ensures))
    c.index_mut.ensures.value c.expected.ensures.expected

pub returns-in-None-clause-expected : goal.returns-in-None-clause-expected
returns-in-None-clause-expected g c =
    let f = g.D.Disk.face in
    let named = c.peer_of.ensures ∙ ap peer_named c.name.ensures in
    let none = ap (λ ss. peer_at c.peer_of.result (peers_of f (hosts_of ss))) (sym c.deref.ensures.value)
    ∙ c.in-None.ensures.none in
    inl (ap (λ id. peer_at id (peers_of f (hosts_of c.args.sites.now.items))) (sym named) ∙ none, refl)
