-- Copies that aren't larger than an AU.
use Rattle.std.specs.Prelude.{Bool, nat_le, length}
use Rattle.std.specs.List.{list_all}
use Rattle.lks_base.specs.declared.limits.TheConstants.{MOST_BLOCKS}
use Rattle.lks_base.specs.declared.plans.Holding.{Holding}
use Rattle.lks_base.specs.declared.plans.PeerPlan.{PeerPlan}

abbrev pub is_small_copy : Holding → Bool
is_small_copy copy = nat_le (length copy.blocks) MOST_BLOCKS

abbrev pub is_small_peer : PeerPlan → Bool
is_small_peer p = list_all is_small_copy p.copies
