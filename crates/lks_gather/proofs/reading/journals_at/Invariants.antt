use Rattle.lks_gather.proofs.Cuts.{IsBefore}
use Rattle.lks_gather.proofs.reading.journals_at.Given as goal

abbrev pub invariant-loop-at : goal.invariant-loop-at
invariant-loop-at l = IsBefore l.starts l.at l.bytes
