use Rattle.std.proofs.Common.{arith}
use Rattle.std.proofs.lemmas.Grind.{common_steps}
use Rattle.lks_record.specs.Spelling.{IsSized}
use Rattle.lks_record.proofs.Laws.{one_more}
use Rattle.lks_record.proofs.encoding.put_batch.Goals as goal

pub loop-item-preserved : goal.loop-item-preserved
loop-item-preserved c =
    let put = c.in_ok-put_record.ensures in (
      grind (arith, common_steps, put.spelled, c.loop-item.invariant.0, c.item-item.is),
      one_more IsSized c.args.list.now c.loop-item.item-index c.item-item.result c.loop-item-test.true
          c.item-item.is put.sized c.loop-item.invariant.1,
    )
