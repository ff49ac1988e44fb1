use Rattle.std.proofs.Common.{◌≡◌, [], ◌∷◌, length}
use Rattle.lks_tally.specs.Keeping.{IsCacheOf, IsReserved}
use Rattle.lks_rule_trials.proofs.tally.repair_counted.Given as goal

abbrev pub invariant-loop-at : goal.invariant-loop-at
invariant-loop-at g l = record {
  reserved : IsReserved l.tally;
  three : length l.tally.votes ≡ 3;
  count : l.tally.ballot.count ≡ 2;
  cache : IsCacheOf l.tally ((65 ∷ []) ∷ l.copy.0 ∷ []);
}
