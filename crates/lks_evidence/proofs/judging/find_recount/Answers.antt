use Rattle.std.proofs.Common.{◌≡◌, ◌∙◌, ap, cond, subst, sym}
use Rattle.std.specs.Prelude.{IfOk}
use Rattle.lks_law.specs.Journal.{contents_of}
use Rattle.lks_evidence.specs.Recounts.{recount_of}
use Rattle.lks_evidence.proofs.Marking.{recent_is}
use Rattle.lks_evidence.proofs.judging.find_recount.Goals as goal

pub returns-in_ok-copy : goal.returns-in_ok-copy
returns-in_ok-copy c =
    let plan = c.args.case.now.plan.now in
    let set = c.args.case.now.set.now in
    let before = c.args.before.now in
    let r = c.args.r.now in
    subst (λ w. IfOk c.recount_of.result (λ k. k ≡ w))
    ((λ i. recount_of plan set c.args.case.now.poller (c.recent-recent.ensures i) (c.in_ok-copy.ensures i) r)
    ∙ recent_is plan set c.args.case.now.poller (contents_of r.au before) r before c.args.mark c.requires.mark
    ∙ ap (λ t. cond t c.args.last (recount_of plan set c.args.case.now.poller before (contents_of r.au before) r))
    (sym (sym c.covers.ensures ∙ c.if-covers.false)))
    c.recount_of.ensures
