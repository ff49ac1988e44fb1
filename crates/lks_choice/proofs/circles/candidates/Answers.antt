use Rattle.std.proofs.Common.{not, ◌&&◌, cond, [], ◌∷◌, ◌++◌, get_or, ap, sym, ◌∙◌}
use Rattle.lks_base.specs.Checking.{has_member}
use Rattle.lks_choice.specs.Circles.{candidates, may_stand}
use Rattle.lks_choice.proofs.Candidates.{candidates_more}
use Rattle.lks_choice.proofs.circles.candidates.Goals as goal

pub loop-p-init : goal.loop-p-init
unfolding candidates
loop-p-init c = c.new-those.ensures.items

pub loop-p-preserved : goal.loop-p-preserved
loop-p-preserved c =
    let x = get_or c.args.nominees.now c.loop-p.p-index 0 in
    c.in_ok-consider.ensures
    ∙ ap
    (λ those. those
    ++ cond (may_stand c.args.own c.args.inner.now c.args.circle.now x && not (has_member those x)) (x ∷ [])
    []) c.loop-p.invariant
    ∙ sym
    (candidates_more c.args.own c.args.inner.now c.args.circle.now c.args.nominees.now c.loop-p.p-index
    c.loop-p-test.true)
