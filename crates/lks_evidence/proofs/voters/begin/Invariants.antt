use Rattle.std.proofs.Common.{◌≡◌, drop, take}
use Rattle.std.specs.Prelude.{option_map}
use Rattle.lks_tally.specs.Heads.{heads}
use Rattle.lks_evidence.specs.declared.findings.Why.TheVariants as why
use Rattle.lks_evidence.specs.Rules.{◌▹◌, first_failing, is_founded}
use Rattle.lks_evidence.proofs.voters.begin.Given as goal

abbrev pub invariant-loop-vote : goal.invariant-loop-vote
invariant-loop-vote l = record {
  doubt :
      l.doubt ▹ option_map why.Vote (first_failing (is_founded l.aus l.set l.ballot) (drop l.vote-index l.votes))
      ≡ option_map why.Vote (first_failing (is_founded l.aus l.set l.ballot) l.votes);
  hashes : l.hashes.items ≡ heads l.ballot (take l.b l.copy) (take l.vote-index l.votes);
}
