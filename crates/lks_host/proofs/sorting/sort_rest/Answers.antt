use Rattle.std.proofs.Common.{◌≡◌, ◌≤◌, ◌+◌, inr, sym, subst, ℕ, List, length, arith, rules}
use Rattle.std.specs.Prelude.{sum_by}
use Rattle.lks_host.proofs.Few.{count_few, fails_behind}
use Rattle.lks_host.proofs.Owners.{all_bodies, owned_whole, spell_each}
use Rattle.lks_host.specs.Owners.{HasPeer, Spell}
use Rattle.lks_host.specs.Sorted.{spelled_each}
use Rattle.lks_host.specs.declared.sorting.Sorter.{Sorter}
use Rattle.lks_host.proofs.sorting.sort_rest.Goals as goal

pub overflow_cast-result : goal.overflow_cast-result
overflow_cast-result g c =
    let count : c.len-count.result ≡ length c.args.sorter.list.items = search rules in
    let few : c.len-count.result + c.in-Some.place ≤ sum_by length c.args.batches.now =
    count_few c.args.sorter.peer.own c.args.sorter.list.items c.take_all.new.sorter.list.items c.args.batches.now
    c.len-count.result c.in-Some.place c.in_ok-place.field-0
    count c.in-Some.is c.in_ok-place.ensures.taken c.requires.alike in
    omega (arith, few)

pub returns-in-Some-clause-sorts : goal.returns-in-Some-clause-sorts
returns-in-Some-clause-sorts g c =
    let begun = c.args.sorter.list.items in
    let count : c.len-count.result ≡ length begun = search rules in
    inr (
      c.requires.alike,
      c.in-Some.place,
      omega (arith, count),
      fails_behind c.args.sorter.peer.own begun c.take_all.new.sorter.list.items c.args.batches.now
          c.len-count.result c.in-Some.place c.in_ok-place.field-0 count c.in-Some.is c.in_ok-place.ensures.taken,
    )

pub returns-in-None-clause-peer : goal.returns-in-None-clause-peer
returns-in-None-clause-peer g c = λ aus copies before.
    let old = c.args.sorter in
    let new : Sorter = c.take_all.new.sorter in
    let bodies = c.args.batches.now in
    let count : c.len-count.result ≡ length old.list.items = search rules in
    let spell : Spell bodies new.list.items =
    subst (λ (bs : List (List ℕ)). Spell bs new.list.items)
    (all_bodies old.list.items bodies c.len-count.result count c.requires.alike)
    (c.in_ok-place.ensures.spell c.in-None.is (spelled_each old.list.items)
    (spell_each old.list.items c.requires.spelled)) in
    subst (HasPeer old.peer.own c.args.pool.now aus copies bodies) (sym c.whole.ensures)
    (owned_whole c.args.pool.now aus copies old new bodies c.requires.pool (c.in_ok-place.ensures.same c.in-None.is)
    (c.in_ok-place.ensures.upto c.in-None.is aus copies before) spell)
