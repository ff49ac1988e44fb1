use Rattle.std.proofs.Common.{◌≡◌, drop}
use Rattle.lks_evidence.specs.Rules.{first_failing, is_long}
use Rattle.lks_evidence.proofs.polls.first_unlike.Given as goal

abbrev pub invariant-loop-vote : goal.invariant-loop-vote
invariant-loop-vote l =
    first_failing (is_long l.count) (drop l.vote-index l.votes) ≡ first_failing (is_long l.count) l.votes
