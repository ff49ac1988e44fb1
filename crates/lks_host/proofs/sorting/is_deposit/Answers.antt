use Rattle.std.proofs.Common.{◌≡◌, ◌∙◌, ap, sym, subst, length, arith}
use Rattle.lks_record.specs.Reading.{decode_of}
use Rattle.lks_host.specs.Fits.{IsSpelled}
use Rattle.lks_host.proofs.sorting.is_deposit.Goals as goal

pub returns-clause-spelled : goal.returns-clause-spelled
returns-clause-spelled c =
    let bytes = c.in_ok-bytes.ensures in
    let one : length c.from_ref.result.now ≡ 1 = ap length c.from_ref.ensures.value in
    subst IsSpelled c.from_ref.ensures.value
    (record {
      count = (omega (arith, one), omega (arith, one));
      read = ap decode_of (sym bytes.spelled) ∙ bytes.read;
      short = omega (arith, ap length bytes.spelled, bytes.short);
    })
