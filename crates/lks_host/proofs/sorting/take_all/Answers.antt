use Rattle.std.proofs.Common.{◌∙◌, ◌<◌, ◌+◌, List, length, take, arith}
use Rattle.lks_base.specs.declared.plans.AuPlan.{AuPlan}
use Rattle.lks_base.specs.declared.plans.Holding.{Holding}
use Rattle.lks_host.specs.Sorted.{AreTaken, IsUpTo}
use Rattle.lks_host.proofs.Listing.{step_taken}
use Rattle.lks_host.proofs.Owners.{spell_next}
use Rattle.lks_host.proofs.sorting.take_all.Goals as goal

pub loop-place-preserved : goal.loop-place-preserved
loop-place-preserved g c =
    let few : c.loop-place.place < length c.args.batches.now = omega arith in
    let next : AreTaken c.args.sorter.now.peer.own c.args.sorter.now.list.items
    (take (c.loop-place.place + 1) c.args.batches.now) c.take_body.new.sorter.list.items
    × ((aus : List AuPlan) (copies : List Holding) → IsUpTo aus copies c.loop-place.sorter
    → IsUpTo aus copies c.take_body.new.sorter) =
    step_taken c.args.sorter.now.peer.own c.args.sorter.now.list.items c.loop-place.sorter c.take_body.new.sorter
    c.args.batches.now c.loop-place.place c.index-batches-place.result c.as_slice.result.now
    c.in_ok-take_body.field-0 c.loop-place.invariant.own c.loop-place.invariant.taken few c.index-batches-place.is
    c.as_slice.ensures c.if-not-branch.false c.in_ok-take_body.ensures.taken in
    record {
      own = c.in_ok-take_body.ensures.same.0 ∙ c.loop-place.invariant.own;
      pool = c.in_ok-take_body.ensures.same.1 ∙ c.loop-place.invariant.pool;
      taken = next.0;
      upto = λ aus copies before. next.1 aus copies (c.loop-place.invariant.upto aus copies before);
      spell = λ front before.
          spell_next c.loop-place.sorter c.take_body.new.sorter c.args.batches.now c.loop-place.place
          c.index-batches-place.result c.as_slice.result.now c.in_ok-take_body.field-0
          few c.index-batches-place.is c.as_slice.ensures c.if-not-branch.false c.in_ok-take_body.ensures.taken
          front (c.loop-place.invariant.spell front before);
    }
