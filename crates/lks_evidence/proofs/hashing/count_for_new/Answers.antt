use Rattle.std.proofs.Common.{◌∙◌, ap, cond, sym, length}
use Rattle.std.specs.Prelude.{Some, None, option_map}
use Rattle.std.proofs.lemmas.Bool.{le-ltb, lt-ltb}
use Rattle.lks_evidence.proofs.Fronts.{for_replaced}
use Rattle.lks_evidence.proofs.hashing.count_for_new.Goals.{then-b-copy, else-b-copy}
use Rattle.lks_evidence.proofs.hashing.count_for_new.Goals as goal

pub returns-clause-count : goal.returns-clause-count
returns-clause-count c =
    let copy = c.args.copy.now in
    let bytes = c.args.bytes.now in
    c.count_linked.ensures.count
    ∙ for_replaced c.args.ballot.now copy c.args.b bytes c.second.result c.args.votes.now c.args.hashes.now _
    c.second.ensures c.requires
    (elim c.if-b-copy.branch [
      | then-b-copy w
          ↦ ap (option_map (λ x. x.now)) w.block-is
          ∙ ap (λ t. cond t (Some bytes) None) (sym (lt-ltb c.args.b (length copy) w.if-b-copy.true))
      | else-b-copy w
          ↦ ap (option_map (λ x. x.now)) w.block-is
          ∙ ap (λ t. cond t (Some bytes) None) (sym (le-ltb c.args.b (length copy) w.if-b-copy.false))
    ])
