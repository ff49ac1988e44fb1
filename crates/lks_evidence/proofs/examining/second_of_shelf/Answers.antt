use Rattle.std.proofs.Common.{◌∙◌, ap, sym, subst, arith, take, ◌++◌, ◌∷◌, []}
use Rattle.std.proofs.lemmas.Grind.{common_steps}
use Rattle.std.proofs.lemmas.List.{take_more, length-take-le}
use Rattle.lks_evidence.specs.Marks.{IsMark, mark_after}
use Rattle.lks_evidence.specs.Recounts.{IsRecountIf}
use Rattle.lks_evidence.proofs.Marking.{mark_on}
use Rattle.lks_evidence.proofs.Recounting.{recount_on}
use Rattle.lks_evidence.proofs.examining.second_of_shelf.Goals as goal

pub loop-i-preserved : goal.loop-i-preserved
loop-i-preserved c =
    let plan = c.args.plan.now in
    let set = c.args.set.now in
    let peer = c.args.shelf.now.peer in
    let journal = c.as_slice-journal.result.now in
    let i = c.loop-i.i in
    let item = c.index-journal-i.result in
    let next = take_more journal i item c.loop-i-test.true
    ∙ ap (λ x. take i journal ++ x ∷ []) (sym c.index-journal-i.is) in
    record {
      doubt = grind (arith, common_steps);
      last =
          subst (λ js. IsRecountIf plan set peer js c.in_ok-last.last)
          (sym next)
          (subst (IsRecountIf plan set peer (take i journal ++ item ∷ [])) (sym c.in_ok-last.ensures)
          (recount_on plan set peer (take i journal) item c.in_ok-judged.judged.last c.in_ok-judged.ensures.last));
      mark =
          subst (λ js. IsMark js c.after-mark.result) (sym next)
          (subst (IsMark (take i journal ++ item ∷ []))
          (ap (λ n. mark_after n c.loop-i.mark item) (length-take-le i journal (omega (arith, c.loop-i-test.true)))
          ∙ sym c.after-mark.ensures)
          (mark_on (take i journal) c.loop-i.mark item c.loop-i.invariant.mark));
    }
