-- What a job asks for.
use Rattle.std.specs.Prelude.{◌≡◌, ℕ, List, length}
use Rattle.lks_base.specs.Kinds.{is_second}
use Rattle.lks_blocks.specs.Block.{bytes_of}
use Rattle.lks_hash.specs.Running.{hashes_of}
use Rattle.lks_tally.specs.declared.ballots.Ballot.{Ballot}
use Rattle.lks_tally.specs.declared.ballots.Verdict.{Verdict}
use Rattle.lks_tally.specs.Counting.{key_for, verdict_on}
use Rattle.lks_tally.specs.Keeping.{IsSame}
use Rattle.lks_work.specs.declared.jobs.VoteJob.{VoteJob}
use Rattle.lks_work.specs.declared.jobs.TallyJob.{TallyJob}

-- what all votes of the poll are about
abbrev pub ballot_of : VoteJob → Ballot
ballot_of job = record { poll = job.poll; au = job.au; kind = job.kind; nonce = job.nonce; count = length job.refs }

-- the vote of the job's peer over what its references name: the running hash under the peer's key after each block
abbrev pub vote_of : VoteJob → List (List ℕ)
vote_of job = hashes_of (is_second job.kind) (key_for (ballot_of job) job.peer) (bytes_of job.refs)

-- the verdict of the job's votes on what its references name
abbrev pub verdict_of : TallyJob → Verdict
verdict_of job =
    verdict_on job.tally.limits.quorum job.tally.limits.minority job.tally.ballot job.tally.votes
    (bytes_of job.refs)

-- the same but for the running hashes that the tally keeps
pub record IsSameJob (old new : TallyJob) : Type 0 where
  pub peer : new.peer ≡ old.peer
  pub number : new.number ≡ old.number
  pub tag : new.tag ≡ old.tag
  pub refs : new.refs ≡ old.refs
  pub tally : IsSame new.tally old.tally
