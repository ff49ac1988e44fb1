use Rattle.std.proofs.Common.{◌≡◌, drop}
use Rattle.lks_law.specs.Journal.{deposit_of}
use Rattle.lks_evidence.proofs.records.find_deposit.Given as goal

abbrev pub invariant-loop-r : goal.invariant-loop-r
invariant-loop-r l = deposit_of l.au (drop l.r-index l.journal) ≡ deposit_of l.au l.journal
