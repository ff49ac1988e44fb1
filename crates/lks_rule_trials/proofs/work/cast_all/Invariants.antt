use Rattle.std.proofs.Common.{◌≡◌, [], length}
use Rattle.lks_tally.specs.Keeping.{IsReserved}
use Rattle.lks_rule_trials.proofs.work.cast_all.Given as goal

abbrev pub invariant-loop-i : goal.invariant-loop-i
invariant-loop-i l = record {
  reserved : IsReserved l.tally;
  all : length l.tally.votes ≡ l.i;
  count : l.tally.ballot.count ≡ l.fn.tally.ballot.count;
  kept : l.tally.kept ≡ 0;
  hashes : l.tally.hashes ≡ [];
}
