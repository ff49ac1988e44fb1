use Rattle.std.proofs.Common.{◌∙◌, sym, subst, All}
use Rattle.std.proofs.lemmas.List.Elements.{All-push}
use Rattle.lks_evidence.specs.Held.{IsHeldFrom}
use Rattle.lks_evidence.proofs.Holdings.{held_from}
use Rattle.lks_evidence.proofs.examining.is_held.Goals as goal

pub returns-clause-held : goal.returns-clause-held
returns-clause-held c =
    let P = IsHeldFrom c.args.aus.now c.args.journal.now c.args.place in
    subst (All P) (sym c.in_ok-push.ensures.items)
    (All-push P _ _ c.requires.held
    (held_from c.args.aus.now c.args.journal.now c.r.inside.au c.args.place c.count_deposited-count.result
    (sym c.is_deposited.ensures ∙ c.if-not-is_deposited.false)
    (sym c.count_deposits.ensures ∙ c.if-count_deposits-ne1.false) c.count_deposited-count.ensures))
