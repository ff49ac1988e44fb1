use Rattle.std.proofs.Common.{◌≡◌, inl, inr, rules, subst}
use Rattle.lks_law.specs.World.{deposits, honest_peer, station_of}
use Rattle.lks_node.proofs.Beginnings.{unsorted_adopted}
use Rattle.lks_node.proofs.opening.sort_bodies.Goals as goal
use Rattle.lks_host.specs.Owners.{HasPeer, sort_in}
use Rattle.lks_host.specs.Sorted.{SortsAs}
use Rattle.lks_host.specs.declared.sorting.PeerSort.{PeerSort}
use Rattle.lks_host.specs.declared.sorting.PeerSort.TheVariants.{Begun, Whole}

pub returns-in-Ok-Whole-clause-causes : goal.returns-in-Ok-Whole-clause-causes
returns-in-Ok-Whole-clause-causes g c = λ p there.
    let own = station_of c.args.plan.now p in
    let begun = deposits c.args.plan.now.aus p.copies in
    let peer = c.in-Ok-Whole.peer in
    let list = c.as_slice.result.now in
    let is : c.in-Ok-Whole.field-0 ≡ Whole peer list = search rules in
    let has : HasPeer own c.args.pool.now c.args.plan.now.aus p.copies c.args.bodies.now (Whole peer list) = subst
    (HasPeer own c.args.pool.now c.args.plan.now.aus p.copies c.args.bodies.now) is
    (c.in-Ok-Whole.ensures.peer p there) in
    unsorted_adopted g.D.Disk.face c.args.plan.now p c.args.journal list peer c.args.bodies.now c.requires.read has.2
    (honest_peer c.args.id c.args.plan.now) c.adopt.result there
    (inl
    (subst (λ (s : PeerSort). SortsAs own begun c.args.bodies.now (sort_in s)) is
    (c.in-Ok-Whole.ensures.sorts p there))) c.adopt.ensures.causes

pub returns-in-Ok-Begun-clause-causes : goal.returns-in-Ok-Begun-clause-causes
returns-in-Ok-Begun-clause-causes g c = λ p there.
    let own = station_of c.args.plan.now p in
    let begun = deposits c.args.plan.now.aus p.copies in
    let peer = c.in-Ok-Begun.peer in
    let list = c.as_slice-in-Ok-Begun.result.now in
    let is : c.in-Ok-Begun.field-0 ≡ Begun peer list = search rules in
    let has : HasPeer own c.args.pool.now c.args.plan.now.aus p.copies c.args.bodies.now (Begun peer list) = subst
    (HasPeer own c.args.pool.now c.args.plan.now.aus p.copies c.args.bodies.now) is
    (c.in-Ok-Begun.ensures.peer p there) in
    unsorted_adopted g.D.Disk.face c.args.plan.now p c.args.journal list peer c.args.bodies.now c.requires.read has.1
    (honest_peer c.args.id c.args.plan.now) c.adopt-in-Ok-Begun.result there
    (inr
    (subst (λ (s : PeerSort). SortsAs own begun c.args.bodies.now (sort_in s)) is
    (c.in-Ok-Begun.ensures.sorts p there))) c.adopt-in-Ok-Begun.ensures.causes
