use Rattle.std.proofs.Common.{[], ◌∷◌, sym, subst}
use Rattle.lks_tally.specs.Keeping.{IsCacheOf}
use Rattle.lks_poller.specs.Polling.{Polled}
use Rattle.lks_poller.proofs.Laws.{cache_replaced}
use Rattle.lks_rule_trials.proofs.poller.note_repair.Goals as goal

pub returns-clause-cache : goal.returns-clause-cache
returns-clause-cache c =
    let Serves : Polled → Type 0 = λ s. IsCacheOf s.tally ((65 ∷ []) ∷ c.args.bytes ∷ []) in
    subst Serves (sym c.replaced.ensures)
    (cache_replaced c.args.session.now 1 c.args.bytes ((65 ∷ []) ∷ c.args.copy.now.0 ∷ []) c.requires.cache)
