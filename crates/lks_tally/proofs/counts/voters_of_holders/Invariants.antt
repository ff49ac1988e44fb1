use Rattle.std.proofs.Common.{◌≡◌, ◌++◌, drop}
use Rattle.lks_tally.specs.Heads.{holders}
use Rattle.lks_tally.proofs.counts.voters_of_holders.Given as goal

abbrev pub invariant-loop-i : goal.invariant-loop-i
invariant-loop-i l = l.ids.items ++ holders l.b (drop l.i l.votes) (drop l.i l.heads) ≡ holders l.b l.votes l.heads
