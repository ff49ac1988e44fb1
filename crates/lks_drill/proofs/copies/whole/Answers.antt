use Rattle.std.proofs.Common.{◌≡◌, ◌∙◌, ap, map, arith}
use Rattle.std.specs.List.{range_with_len}
use Rattle.std.proofs.lemmas.Grind.{common_steps}
use Rattle.std.proofs.lemmas.List.FromFn.{map-range_with_len_more}
use Rattle.lks_drill.specs.Drill.{block_of, whole_copy}
use Rattle.lks_drill.proofs.copies.whole.Goals as goal

pub loop-i-preserved : goal.loop-i-preserved
loop-i-preserved c =
    rw (map-range_with_len_more block_of 0 c.loop-i.i c.loop-i.i (omega arith))
    (grind (arith, common_steps, c.in_ok-push.ensures.items))

pub returns : goal.returns
unfolding whole_copy
returns c =
    let all : c.loop-i.i ≡ 128 = omega arith in
    c.loop-i.invariant ∙ ap (λ n. map block_of (range_with_len 0 n)) all
