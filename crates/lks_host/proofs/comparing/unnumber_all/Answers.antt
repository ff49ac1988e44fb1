use Rattle.std.proofs.Common.{arith}
use Rattle.lks_host.proofs.Lacking.{lack_more}
use Rattle.lks_host.proofs.comparing.unnumber_all.Goals as goal

pub loop-r-preserved : goal.loop-r-preserved
loop-r-preserved c =
    lack_more _ _ _ c.r-item.result c.unnumber.new.r (omega arith) c.unnumber.ensures c.loop-r.invariant
