use Rattle.std.proofs.Common.{◌≡◌, ◌++◌, drop}
use Rattle.lks_tally.specs.Heads.{others}
use Rattle.lks_tally.proofs.counts.voters_of_others.Given as goal

abbrev pub invariant-loop-i : goal.invariant-loop-i
invariant-loop-i l = l.ids.items ++ others l.b (drop l.i l.votes) (drop l.i l.heads) ≡ others l.b l.votes l.heads
