use Rattle.std.proofs.Common.{◌≡◌, drop}
use Rattle.lks_law.specs.Journal.{opening_of}
use Rattle.lks_evidence.proofs.records.find_opening.Given as goal

abbrev pub invariant-loop-r : goal.invariant-loop-r
invariant-loop-r l = opening_of l.n (drop l.r-index l.journal) ≡ opening_of l.n l.journal
