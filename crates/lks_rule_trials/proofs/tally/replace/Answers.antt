use Rattle.std.proofs.Common.{[], ◌∷◌, refl, sym, subst}
use Rattle.lks_tally.specs.Keeping.{Tallied, IsCacheOf}
use Rattle.lks_tally.proofs.Caching.{cache_forgotten}
use Rattle.lks_rule_trials.proofs.tally.replace.Goals as goal

pub returns-clause-cache : goal.returns-clause-cache
returns-clause-cache c =
    let Serves : Tallied → Type 0 = λ t. IsCacheOf t ((65 ∷ []) ∷ c.args.bytes ∷ []) in
    subst Serves (sym c.forget_from.ensures)
    (cache_forgotten c.args.tally.now 1 ((65 ∷ []) ∷ c.args.copy.now.0 ∷ []) ((65 ∷ []) ∷ c.args.bytes ∷ [])
    c.requires.cache refl)
