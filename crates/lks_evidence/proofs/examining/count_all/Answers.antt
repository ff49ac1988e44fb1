use Rattle.std.proofs.Common.{arith}
use Rattle.lks_evidence.proofs.Counts.{fits_more, repairs_more, repairs_all}
use Rattle.lks_evidence.proofs.examining.count_all.Goals as goal

pub overflow_cast-replaced : goal.overflow_cast-replaced
overflow_cast-replaced c =
    let fits = fits_more c.args.set.now c.loop-shelf.shelf-index c.loop-shelf.replaced c.count_repairs.result
    c.shelf-item.result c.deref.result.now c.requires
    c.loop-shelf-test.true c.shelf-item.is c.deref.ensures.value c.count_repairs.ensures.few
    c.loop-shelf.invariant.few in
    omega (arith, fits.0)

pub overflow_add-replaced : goal.overflow_add-replaced
overflow_add-replaced c =
    let fits = fits_more c.args.set.now c.loop-shelf.shelf-index c.loop-shelf.replaced c.count_repairs.result
    c.shelf-item.result c.deref.result.now c.requires
    c.loop-shelf-test.true c.shelf-item.is c.deref.ensures.value c.count_repairs.ensures.few
    c.loop-shelf.invariant.few in
    omega (arith, fits.1)

pub loop-shelf-preserved : goal.loop-shelf-preserved
loop-shelf-preserved c = record {
  sum =
      repairs_more c.args.set.now c.loop-shelf.shelf-index c.loop-shelf.replaced c.count_repairs.result
      c.shelf-item.result c.deref.result.now
      c.loop-shelf-test.true c.shelf-item.is c.deref.ensures.value c.count_repairs.ensures.exact
      c.loop-shelf.invariant.sum;
  few =
      (fits_more c.args.set.now c.loop-shelf.shelf-index c.loop-shelf.replaced c.count_repairs.result
      c.shelf-item.result c.deref.result.now c.requires
      c.loop-shelf-test.true c.shelf-item.is c.deref.ensures.value c.count_repairs.ensures.few
      c.loop-shelf.invariant.few).2;
}

pub returns : goal.returns
returns c =
    repairs_all c.args.set.now c.loop-shelf.shelf-index c.loop-shelf.replaced c.loop-shelf-test.false
    c.loop-shelf.invariant.sum
