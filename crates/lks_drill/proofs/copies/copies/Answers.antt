use Rattle.std.proofs.Common.{◌≡◌, ◌-◌, ◌∙◌, ap, map, arith}
use Rattle.std.specs.List.{range_with_len}
use Rattle.lks_drill.specs.Drill.{holding_of, draw_before}
use Rattle.lks_drill.proofs.copies.copies.Goals as goal

pub returns-clause-copies : goal.returns-clause-copies
returns-clause-copies c =
    let all : c.loop-au.au - 1 ≡ 2 = omega arith in
    c.from_vec.ensures ∙ c.loop-au.invariant.copies
    ∙ ap (λ n. map (λ au. holding_of c.args.peer au (draw_before c.args.draws.now (au - 1))) (range_with_len 1 n)) all
