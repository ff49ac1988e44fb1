use Rattle.std.proofs.Common.{◌≡◌, ◌∙◌, ◌++◌, ◌∷◌, [], ap, sym, take, arith}
use Rattle.std.specs.Cmp.Lexicographic.{bytes_decides}
use Rattle.std.proofs.lemmas.List.{take_more}
use Rattle.lks_evidence.proofs.Fronts.{not_other}
use Rattle.lks_evidence.proofs.hashing.same_front.Goals as goal

pub loop-i-preserved : goal.loop-i-preserved
loop-i-preserved c =
    let a = c.args.a.now in
    let b = c.args.b.now in
    let i = c.loop-i.i in
    let same : c.index-a-i.result ≡ c.index-b-i.result =
    sym c.as_slice.ensures
    ∙ (bytes_decides c.as_slice.result.now c.as_slice-in-loop-i.result.now).0 (not_other _ c.if-ne.ensures)
    ∙ c.as_slice-in-loop-i.ensures in
    take_more a i c.index-a-i.result (omega (arith, c.loop-i-test.true, c.if-n-a.false))
    ∙ ap (λ x. take i a ++ x ∷ []) (sym c.index-a-i.is)
    ∙ (λ k. c.loop-i.invariant k ++ same k ∷ [])
    ∙ sym
    (take_more b i c.index-b-i.result (omega (arith, c.loop-i-test.true, c.if-n-b.false))
    ∙ ap (λ x. take i b ++ x ∷ []) (sym c.index-b-i.is))
