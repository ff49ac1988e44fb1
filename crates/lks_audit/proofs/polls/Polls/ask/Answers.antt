use Rattle.std.proofs.Common.{◌≡◌, ◌∙◌, ◌<◌, rules, subst, sym, get_or, true, false}
use Rattle.lks_audit.specs.Seen.{MayAsk}
use Rattle.lks_poller.specs.Polling.{Polled}
use Rattle.lks_audit.proofs.polls.Polls.ask.Goals as goal

found : (c : goal.After-index_mut) → get_or c.args.self.now c.in-Some.i c.index_mut.result.now ≡ c.index_mut.result.now
found c = search rules

pub asked-requires-clause-ended : goal.asked-requires-clause-ended
unfolding MayAsk
asked-requires-clause-ended c =
    subst (λ (s : Polled). s.shut ≡ true) (found c)
    (c.requires c.in-Some.i c.index_mut.result.now (sym c.place.ensures ∙ c.in-Some.is)).0

pub asked-requires-clause-idle : goal.asked-requires-clause-idle
unfolding MayAsk
asked-requires-clause-idle c =
    subst (λ (s : Polled). s.suppliers.waiting ≡ false) (found c)
    (c.requires c.in-Some.i c.index_mut.result.now (sym c.place.ensures ∙ c.in-Some.is)).1

pub asked-requires-clause-within : goal.asked-requires-clause-within
unfolding MayAsk
asked-requires-clause-within c =
    subst (λ (s : Polled). c.args.block < s.tally.ballot.count) (found c)
    (c.requires c.in-Some.i c.index_mut.result.now (sym c.place.ensures ∙ c.in-Some.is)).2
