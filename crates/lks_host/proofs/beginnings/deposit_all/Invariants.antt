use Rattle.std.proofs.Common.{◌≡◌, ◌++◌, drop}
use Rattle.std.specs.List.{filter_map, flat_map}
use Rattle.lks_law.specs.World.{deposit_for}
use Rattle.lks_host.proofs.beginnings.deposit_all.Given as goal

abbrev pub invariant-loop-au : goal.invariant-loop-au
invariant-loop-au l =
    l.list.items ++ drop l.left (flat_map (λ au. filter_map (deposit_for au) l.copies) (drop l.au-index l.aus))
    ≡ drop l.fn.skip (flat_map (λ au. filter_map (deposit_for au) l.copies) l.aus)
