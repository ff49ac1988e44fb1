use Rattle.std.proofs.Common.{◌≡◌, ◌∙◌, sym, arith, ◌<◌, length}
use Rattle.lks_law.specs.Batches.{alone}
use Rattle.lks_record.specs.Spelling.{batch_spelling}
use Rattle.lks_host.proofs.Listing.{more_alike}
use Rattle.lks_host.proofs.Owners.{more_spelled}
use Rattle.lks_host.proofs.sorting.first_unlike.Goals as goal

pub loop-place-preserved : goal.loop-place-preserved
loop-place-preserved c =
    let few : c.loop-place.place < length c.args.begun.now = omega arith in
    let enough : c.loop-place.place < length c.args.batches.now = omega arith in
    let same : c.index-batches-place.result
    ≡ batch_spelling (alone c.index-begun-place.result) = sym c.as_slice.ensures
    ∙ c.in_ok-is_deposit.ensures.same.0 c.if-not-branch.false in
    record {
      alike =
          more_alike c.args.begun.now c.args.batches.now c.loop-place.place c.index-begun-place.result
          c.index-batches-place.result few enough c.index-begun-place.is c.index-batches-place.is same
          c.loop-place.invariant.alike;
      spelled =
          more_spelled c.args.begun.now c.loop-place.place c.index-begun-place.result few c.index-begun-place.is
          c.in_ok-is_deposit.ensures.spelled c.loop-place.invariant.spelled;
    }
