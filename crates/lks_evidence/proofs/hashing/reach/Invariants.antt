use Rattle.std.proofs.Common.{◌≡◌, take}
use Rattle.lks_tally.specs.Heads.{heads}
use Rattle.lks_evidence.proofs.hashing.reach.Given as goal

abbrev pub invariant-loop-b : goal.invariant-loop-b
invariant-loop-b l = l.hashes ≡ heads l.ballot (take l.b l.blocks) l.votes
