use Rattle.std.proofs.Common.{arith}
use Rattle.lks_outside.proofs.Ringing.{rang_more}
use Rattle.lks_outside.proofs.desks.ring_each.Goals as goal

pub loop-bell-preserved : goal.loop-bell-preserved
loop-bell-preserved g c =
    rang_more _ _ _ _ _ c.bell-item.result c.ring_wanting.new.bell (omega arith) c.ring_wanting.ensures
    c.loop-bell.invariant
