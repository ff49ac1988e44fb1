use Rattle.std.proofs.Common.{◌≡◌, ◌∙◌, ap, subst, sym}
use Rattle.std.specs.Prelude.{IfOk, option_map}
use Rattle.lks_evidence.proofs.Borne.{borne, not_borne}
use Rattle.lks_evidence.specs.Rules.{is_over}
use Rattle.lks_evidence.proofs.voters.start_of.Goals as goal

pub returns-in-Some-clause-founded : goal.returns-in-Some-clause-founded
returns-in-Some-clause-founded c =
    let q = c.args.ballot.now in
    let v = c.args.vote.now in
    subst (λ t. IfOk c.start_over.result (λ s. s.founded ≡ t))
    (ap (λ blocks. is_over q blocks v) c.deref.ensures.value
    ∙ borne c.args.aus.now q c.args.journal.now v c.in-Some.version.items
    (sym (ap (option_map (λ w. w.items)) c.in-Some.is) ∙ c.in_ok-version.ensures))
    c.start_over.ensures.founded

pub returns-in-None-clause-founded : goal.returns-in-None-clause-founded
returns-in-None-clause-founded c =
    not_borne c.args.aus.now c.args.ballot.now c.args.journal.now c.args.vote.now
    (sym (ap (option_map (λ w. w.items)) c.in-None.is) ∙ c.in_ok-version.ensures)
