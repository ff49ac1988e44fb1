use Rattle.std.proofs.Common.{◌≡◌, drop}
use Rattle.lks_law.specs.Sessions.{first_in}
use Rattle.lks_evidence.specs.Records.{join_in}
use Rattle.lks_evidence.proofs.records.find_join.Given as goal

abbrev pub invariant-loop-r : goal.invariant-loop-r
invariant-loop-r l = first_in (join_in l.q) (drop l.r-index l.journal) ≡ first_in (join_in l.q) l.journal
