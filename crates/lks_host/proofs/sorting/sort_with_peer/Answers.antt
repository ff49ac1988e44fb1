use Rattle.std.proofs.Common.{◌≡◌, ◌<◌, ◌≤◌, ◌∙◌, ap, sym, subst, ℕ, List, length, take, arith, rules}
use Rattle.std.specs.Prelude.{Option, None, All, map}
use Rattle.std.proofs.lemmas.List.{take_all}
use Rattle.lks_base.specs.declared.records.Record.{Record}
use Rattle.lks_law.specs.Batches.{alone}
use Rattle.lks_law.specs.World.{honest_peer, standing_of}
use Rattle.lks_peer.specs.Knows.{knowing_of}
use Rattle.lks_host.specs.Fits.{IsSpelled}
use Rattle.lks_host.specs.Sorted.{AreAlike, spelled_each}
use Rattle.lks_host.specs.declared.sorting.Sorter.{Sorter}
use Rattle.lks_host.proofs.FirstBatches.{option_at}
use Rattle.lks_host.proofs.Owners.{owned_begun}
use Rattle.lks_host.proofs.Starting.{started_as, started_upto, peer_as}
use Rattle.lks_host.proofs.sorting.sort_with_peer.Goals as goal

pub returns-then-batches-len-clause-peer : goal.returns-then-batches-len-clause-peer
returns-then-batches-len-clause-peer g c = λ p there.
    let plan = c.args.plan.now in
    let pool = c.args.pool.now in
    let bodies = c.args.batches.now in
    let begun = c.in_ok-peer.begun.items in
    let short : length bodies < length begun = search rules in
    let alike : take (length begun) bodies ≡ take (length bodies) (spelled_each begun) =
    subst (λ (l : List Record). AreAlike l bodies None) c.deref.ensures.value
    (subst (λ (o : Option ℕ). AreAlike c.deref.result.now bodies o) c.in_default.is c.in_ok-place.ensures.alike)
    in
    let front : c.from_vec.result ≡ take (length bodies) begun = search rules in
    owned_begun plan pool p c.in_ok-peer.peer begun c.from_vec.result bodies
    (option_at (λ q. knowing_of pool (standing_of plan q)) (honest_peer c.args.id plan) p c.in_ok-peer.peer there
    c.in_ok-peer.ensures.peer)
    (option_at (λ q. (standing_of plan q).journal) (honest_peer c.args.id plan) p begun there c.in_ok-peer.ensures.list)
    short (sym (take_all (length begun) bodies (omega (arith, short))) ∙ alike) front
    (subst (λ (l : List Record). All IsSpelled (map alone (take (length bodies) l))) c.deref.ensures.value
    (c.in_ok-place.ensures.spelled c.in_default.is))

pub sort_rest-requires-clause-upto : goal.sort_rest-requires-clause-upto
sort_rest-requires-clause-upto g c =
    let s : Sorter = c.begin_sorter.result in
    started_upto c.args.plan.now c.args.pool.now c.in_ok-peer.peer c.in_ok-peer.begun.items s
    c.begin_sorter.ensures.0 (ap (λ v. v.items) c.begin_sorter.ensures.1) c.begin_sorter.ensures.2
    c.begin_sorter.ensures.3
    (honest_peer c.args.id c.args.plan.now) c.in_ok-peer.ensures.peer c.in_ok-peer.ensures.list

pub sort_rest-requires-clause-spelled : goal.sort_rest-requires-clause-spelled
sort_rest-requires-clause-spelled g c =
    let bodies = c.args.batches.now in
    let begun = c.in_ok-peer.begun.items in
    let enough : length begun ≤ length bodies = search rules in
    let all : c.begin_sorter.result.list.items ≡ begun = ap (λ v. v.items) c.begin_sorter.ensures.1 in
    subst (λ (l : List Record). All IsSpelled (map alone l)) (take_all (length bodies) begun enough ∙ sym all)
    (subst (λ (l : List Record). All IsSpelled (map alone (take (length bodies) l))) c.deref.ensures.value
    (c.in_ok-place.ensures.spelled c.in_default.is))

pub returns-clause-peer : goal.returns-clause-peer
returns-clause-peer g c = λ p there.
    let plan = c.args.plan.now in
    let s : Sorter = c.begin_sorter.result in
    peer_as plan c.args.pool.now c.args.batches.now p s c.sort_rest.result
    (started_as plan c.args.pool.now c.in_ok-peer.peer c.in_ok-peer.begun.items s c.begin_sorter.ensures.0
    (ap (λ v. v.items) c.begin_sorter.ensures.1) c.begin_sorter.ensures.2 c.begin_sorter.ensures.3
    (honest_peer c.args.id plan) p there c.in_ok-peer.ensures.peer c.in_ok-peer.ensures.list)
    c.sort_rest.ensures.peer
