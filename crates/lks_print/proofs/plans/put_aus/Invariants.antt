use Rattle.std.proofs.Common.{◌≡◌, ◌++◌, take}
use Rattle.std.specs.List.{flat_map}
use Rattle.lks_print.specs.Scripts.{au_line}
use Rattle.lks_print.proofs.plans.put_aus.Given as goal

abbrev pub invariant-loop-au : goal.invariant-loop-au
invariant-loop-au l = l.out.items ≡ l.fn.out.items ++ flat_map au_line (take l.au-index l.aus)
