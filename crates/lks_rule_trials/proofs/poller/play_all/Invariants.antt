use Rattle.std.proofs.Common.{◌≡◌, [], ◌∷◌}
use Rattle.lks_tally.specs.Keeping.{IsCacheOf}
use Rattle.lks_rule_trials.proofs.poller.play_all.Given as goal

abbrev pub invariant-loop-at : goal.invariant-loop-at
invariant-loop-at g l = record {
  count : l.session.tally.ballot.count ≡ 2;
  cache : IsCacheOf l.session.tally ((65 ∷ []) ∷ l.copy.0 ∷ []);
}
