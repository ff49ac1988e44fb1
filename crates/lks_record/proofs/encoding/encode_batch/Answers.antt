use Rattle.std.proofs.Common.{◌++◌, List, ℕ, length, ap, ◌∙◌, arith}
use Rattle.lks_record.specs.Spelling.{batch_spelling, IsWithin, IsSized}
use Rattle.lks_record.specs.Reading.{decode_of}
use Rattle.lks_record.proofs.Laws.{both, spelling_read}
use Rattle.lks_record.proofs.Sizes.{short_batch}
use Rattle.lks_record.proofs.encoding.encode_batch.Goals as goal

pub returns-in-Ok-clause-read : goal.returns-in-Ok-clause-read
returns-in-Ok-clause-read c =
    let put = c.in-Ok.ensures in
    ap decode_of
    (put.spelled ∙ ap (λ (front : List ℕ). front ++ batch_spelling c.args.list.now) c.in_ok-out.ensures.items)
    ∙ spelling_read c.args.list.now
    (c.requires.count, both IsWithin IsSized c.args.list.now c.requires.within put.sized)

pub returns-in-Ok-clause-short : goal.returns-in-Ok-clause-short
returns-in-Ok-clause-short c =
    let put = c.in-Ok.ensures in
    let spelled = put.spelled
    ∙ ap (λ (front : List ℕ). front ++ batch_spelling c.args.list.now) c.in_ok-out.ensures.items in
    omega (
      arith,
      ap length spelled,
      short_batch c.args.list.now
          (c.requires.count, both IsWithin IsSized c.args.list.now c.requires.within put.sized),
    )
