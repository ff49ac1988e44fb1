use Rattle.std.proofs.Common.{◌≡◌, drop}
use Rattle.lks_evidence.specs.Rules.{shelf_of}
use Rattle.lks_evidence.proofs.voters.shelf_of.Given as goal

abbrev pub invariant-loop-shelf : goal.invariant-loop-shelf
invariant-loop-shelf l = shelf_of (drop l.shelf-index l.set) l.peer ≡ shelf_of l.set l.peer
