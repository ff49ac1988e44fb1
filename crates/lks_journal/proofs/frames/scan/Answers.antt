use Rattle.std.proofs.Common.{◌≡◌, [], ◌∷◌, ◌++◌, List, ℕ, sym, ◌∙◌, ap, subst}
use Rattle.lks_journal.specs.Fronts.{IsScanned}
use Rattle.lks_journal.proofs.Bodies.{scanned_start, scanned_more, scanned_damaged}
use Rattle.lks_journal.proofs.frames.scan.Goals as goal

pub frames-init : goal.frames-init
frames-init c =
    subst (λ (l : List (List ℕ)). IsScanned c.args.file.now l c.args.file.now) (sym c.new-bodies.ensures.items)
    (scanned_start c.args.file.now)

pub returns-in-Short-clause-err : goal.returns-in-Short-clause-err
returns-in-Short-clause-err c =
    scanned_damaged c.args.file.now c.frames.bodies.items c.frames.rest.now c.frames.invariant c.in-Short.ensures

pub frames-preserved : goal.frames-preserved
frames-preserved c =
    let items : c.push.new.self.items ≡ c.frames.bodies.items ++ c.in-Whole.body.now ∷ [] =
    c.in_ok-push-in-Whole.ensures.items
    ∙ ap (λ (b : List ℕ). c.frames.bodies.items ++ b ∷ []) c.in_ok-copy_of-in-Whole.ensures in
    subst (λ (l : List (List ℕ)). IsScanned c.args.file.now l c.in-Whole.after.now) (sym items)
    (scanned_more c.args.file.now c.frames.bodies.items c.frames.rest.now c.in-Whole.body.now c.in-Whole.after.now
    c.frames.invariant c.in-Whole.ensures)
