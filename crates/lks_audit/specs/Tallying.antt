-- The tally of a running poll as a job.
use Rattle.std.specs.Prelude.{◌≡◌, true, false, if◌then◌else◌, Option, Some, None, List, length}
use Rattle.lks_versions.specs.Places.{tag_at}
use Rattle.lks_versions.specs.declared.places.Place.{Place}
use Rattle.lks_blocks.specs.Block.{bytes_of}
use Rattle.lks_law.specs.Answering.{version_at}
use Rattle.lks_law.specs.Polls.{Station, ballot_of, limits_of}
use Rattle.lks_law.specs.State.{Copy, Poll, blocks_at}
use Rattle.lks_poller.specs.Polling.{Polled}
use Rattle.lks_tally.specs.Keeping.{IsSame, kept_after}
pub use Rattle.lks_tally.specs.Running.{may_tally}
use Rattle.lks_versions.specs.declared.versions.PinTag.{PinTag}
use Rattle.lks_work.specs.declared.jobs.TallyJob.{TallyJob}
use Rattle.lks_work.specs.declared.results.TallyDone.{TallyDone}

-- the name of the newest version of its AU
abbrev pub tag_of : List Place → List Copy → Poll → PinTag
tag_of places copies p = tag_at p.opening.au (version_at p.opening.au copies) places

-- where its votes may be counted
abbrev pub tag_ready : List Place → List Copy → Option Poll → Option PinTag
tag_ready places copies None = None
tag_ready places copies (Some p) = if may_tally p then Some (tag_of places copies p) else None

-- this peer's count of the poll's inner votes on the newest version of its copy
pub record IsTallyOf (own : Station) (places : List Place) (copies : List Copy) (p : Poll) (j : TallyJob) : Type 0 where
  pub peer : j.peer ≡ own.id
  pub number : j.number ≡ p.number
  pub tag : j.tag ≡ tag_of places copies p
  pub blocks : bytes_of j.refs ≡ blocks_at p.opening.au copies
  pub ballot : j.tally.ballot ≡ ballot_of own p.number p.opening (length (blocks_at p.opening.au copies))
  pub limits : j.tally.limits ≡ limits_of own.rules p.opening
  pub votes : j.tally.votes ≡ p.inner_votes

-- the job of a poll, if it runs: there is one exactly where it is ready
abbrev pub IsTallyIn : Station → List Place → List Copy → Option Poll → Option TallyJob → Type 0
IsTallyIn own places copies None None = Unit {0}
IsTallyIn own places copies None (Some j) = ⊥
IsTallyIn own places copies (Some p) None = may_tally p ≡ false
IsTallyIn own places copies (Some p) (Some j) = (may_tally p ≡ true) × IsTallyOf own places copies p j

-- what was hashed is of this poll and its votes over the copy that is held, with the hashes that a count keeps
pub record IsSameTally (copies : List Copy) (s : Polled) (done : TallyDone) : Type 0 where
  pub tally : IsSame done.job.tally s.tally
  pub kept : done.job.tally.kept ≡ kept_after done.verdict s.tally.kept s.tally.ballot.count
  pub blocks : bytes_of done.job.refs ≡ blocks_at s.tally.ballot.au copies
