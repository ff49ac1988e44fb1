use Rattle.std.proofs.Common.{◌≡◌, take}
use Rattle.lks_tally.proofs.counts.copy_votes.Given as goal

abbrev pub invariant-loop-vote : goal.invariant-loop-vote
invariant-loop-vote l = l.copies.items ≡ take l.vote-index l.votes
