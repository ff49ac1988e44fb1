use Rattle.std.proofs.Common.{arith}
use Rattle.std.proofs.lemmas.Grind.{common_steps}
use Rattle.lks_hash.proofs.RunningLaws.{hashes_more, running_more}
use Rattle.lks_saying.proofs.sayings.hash_all.Goals as goal

pub loop-block-preserved : goal.loop-block-preserved
loop-block-preserved g c =
    record {
      hashes = grind (arith, common_steps, hashes_more, c.in_ok-push.ensures.items);
      second = grind (arith, common_steps);
      last = grind (arith, common_steps, running_more);
    }
