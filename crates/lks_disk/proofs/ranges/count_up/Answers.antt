use Rattle.std.proofs.Common.{◌≡◌, length, sym, ◌∙◌, ap, arith}
use Rattle.std.proofs.lemmas.List.{take_all}
use Rattle.lks_disk.specs.Ranges.{counting}
use Rattle.lks_disk.proofs.Counting.{counts_up}
use Rattle.lks_disk.proofs.ranges.count_up.Goals as goal

pub loop-i-preserved : goal.loop-i-preserved
loop-i-preserved c =
    counts_up c.args.choice c.loop-i.i c.loop-i.range (omega (arith, c.loop-i-test.true, c.loop-i.auto.range))
    c.loop-i.invariant

pub returns : goal.returns
returns c =
    let at_end : c.loop-i.i ≡ length c.args.range.now = omega (arith, c.loop-i-test.false, c.loop-i.auto.i-end) in
    sym (take_all c.loop-i.i c.loop-i.range (omega (arith, at_end, c.loop-i.auto.range))) ∙ c.loop-i.invariant
    ∙ ap (λ (k : _). counting c.args.choice k) at_end
