use Rattle.std.proofs.Common.{◌≡◌, ◌-◌, ◌∙◌, ap, arith}
use Rattle.std.specs.List.{range_with_len, flat_map}
use Rattle.lks_drill.specs.Drill.{audits_of, steps_of_drill}
use Rattle.lks_drill.proofs.drills.steps.Goals as goal

pub returns : goal.returns
unfolding steps_of_drill
returns c =
    let all : c.loop-peer.peer - 1 ≡ 12 = omega arith in
    c.from_vec.ensures ∙ c.loop-peer.invariant ∙ ap (λ n. flat_map audits_of (range_with_len 1 n)) all
