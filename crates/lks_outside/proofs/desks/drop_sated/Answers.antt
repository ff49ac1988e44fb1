use Rattle.std.proofs.Common.{rules}
use Rattle.std.proofs.lemmas.Fn.{filter_same}
use Rattle.lks_outside.specs.Bells.{heard_of, wants}
use Rattle.lks_outside.proofs.desks.drop_sated.Goals as goal

pub returns : goal.returns
returns g c =
    filter_same _ (λ b. wants (heard_of g.B.Bell.rung g.B.Bell.limit b)) _ (λ x b f' k. search rules) _ _
    c.retain.ensures.filtered
