use Rattle.std.proofs.Common.{◌≡◌, ◌-◌, map}
use Rattle.std.specs.List.{range_with_len}
use Rattle.lks_drill.specs.Drill.{holding_of, draw_before}
use Rattle.lks_drill.proofs.copies.copies.Given as goal

abbrev pub invariant-loop-au : goal.invariant-loop-au
invariant-loop-au l = record {
  copies : l.copies.items
      ≡ map (λ au. holding_of l.peer au (draw_before l.fn.draws (au - 1))) (range_with_len 1 (l.au - 1));
  draws : l.draws ≡ draw_before l.fn.draws (l.au - 1);
}
