use Rattle.std.proofs.Common.{◌≡◌, drop}
use Rattle.lks_law.specs.Sessions.{first_in, commitment_in}
use Rattle.lks_evidence.proofs.records.find_commitment.Given as goal

abbrev pub invariant-loop-r : goal.invariant-loop-r
invariant-loop-r l = first_in (commitment_in l.q) (drop l.r-index l.journal) ≡ first_in (commitment_in l.q) l.journal
