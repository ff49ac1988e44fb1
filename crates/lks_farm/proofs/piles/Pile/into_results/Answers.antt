use Rattle.std.proofs.Common.{◌≡◌, length, refl, rules}
use Rattle.lks_farm.proofs.Piling.{all_gathered, one_gathered}
use Rattle.lks_farm.proofs.piles.Pile.into_results.Goals as goal

pub loop-place-init : goal.loop-place-init
loop-place-init g c =
    let given = c.into_iter-place-iterator.ensures.into_iter_gives.0 in
    rw (given, c.new-all.ensures.items)
    (tt, tt, record { left = g.N.Batch.asked; places = c.self.invariant.places; so = refl })

pub loop-place-preserved : goal.loop-place-preserved
loop-place-preserved g c =
    let next = c.in-Some.ensures.steps.0 in (
      tt,
      tt,
      rw c.in_ok-push.ensures.items
          (one_gathered g.N.Batch.asked c.loop-place.all.items c.in-Some-place.done
          c.loop-place.place-iterator.rest.items c.next.new.self.rest.items (rw c.in-Some-place.is at next)
          c.loop-place.invariant.2),
    )

pub returns : goal.returns
returns g c =
    let none : length c.loop-place.place-iterator.rest.items ≡ 0 = search rules in
    all_gathered g.N.Batch.asked c.loop-place.all.items c.loop-place.place-iterator.rest.items none
    c.loop-place.invariant.2
