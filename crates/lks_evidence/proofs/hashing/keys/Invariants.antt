use Rattle.std.proofs.Common.{◌≡◌, take}
use Rattle.lks_tally.specs.Heads.{keys_of}
use Rattle.lks_evidence.proofs.hashing.keys.Given as goal

abbrev pub invariant-loop-vote : goal.invariant-loop-vote
invariant-loop-vote l = l.keys.items ≡ keys_of l.ballot (take l.vote-index l.votes)
