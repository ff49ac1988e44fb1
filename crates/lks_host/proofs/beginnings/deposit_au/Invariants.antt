use Rattle.std.proofs.Common.{◌≡◌, ◌++◌, ◌-◌, drop, length}
use Rattle.std.specs.List.{filter_map}
use Rattle.lks_law.specs.World.{deposit_for}
use Rattle.lks_host.proofs.beginnings.deposit_au.Given as goal

abbrev pub invariant-loop-copy : goal.invariant-loop-copy
invariant-loop-copy l = record {
  list : l.list.items ++ drop l.left (filter_map (deposit_for l.au) (drop l.copy-index l.copies))
      ≡ l.fn.list.items ++ drop l.fn.skip (filter_map (deposit_for l.au) l.copies);
  left : l.left - length (filter_map (deposit_for l.au) (drop l.copy-index l.copies))
      ≡ l.fn.skip - length (filter_map (deposit_for l.au) l.copies);
}
