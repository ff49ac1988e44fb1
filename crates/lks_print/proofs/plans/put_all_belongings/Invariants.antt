use Rattle.std.proofs.Common.{◌≡◌, ◌++◌, take}
use Rattle.std.specs.List.{flat_map}
use Rattle.lks_print.specs.Scripts.{belongings}
use Rattle.lks_print.proofs.plans.put_all_belongings.Given as goal

abbrev pub invariant-loop-peer : goal.invariant-loop-peer
invariant-loop-peer l = l.out.items ≡ l.fn.out.items ++ flat_map belongings (take l.peer-index l.peers)
