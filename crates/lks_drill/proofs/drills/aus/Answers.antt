use Rattle.std.proofs.Common.{◌≡◌, ◌-◌, ◌∙◌, ap, map, arith}
use Rattle.std.specs.List.{range_with_len}
use Rattle.lks_drill.specs.Drill.{au_of_drill, aus_of_drill}
use Rattle.lks_drill.proofs.drills.aus.Goals as goal

pub returns : goal.returns
unfolding aus_of_drill
returns c =
    let all : c.loop-id.id - 1 ≡ 2 = omega arith in
    c.from_vec.ensures ∙ c.loop-id.invariant ∙ ap (λ n. map au_of_drill (range_with_len 1 n)) all
