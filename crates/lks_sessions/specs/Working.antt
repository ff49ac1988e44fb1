-- The vote in a committed session as a job.
use Rattle.std.specs.Prelude.{◌≡◌, Option, Some, None, List}
use Rattle.lks_versions.specs.Places.{tag_at}
use Rattle.lks_versions.specs.declared.places.Place.{Place}
use Rattle.lks_blocks.specs.Block.{Block, bytes_of}
use Rattle.lks_law.specs.Polls.{Station}
use Rattle.lks_law.specs.Taking.{Pinned}
use Rattle.lks_sessions.specs.declared.stages.PinnedSession.{PinnedSession}
use Rattle.lks_versions.specs.declared.versions.PinTag.{PinTag}
use Rattle.lks_work.specs.declared.jobs.VoteJob.{VoteJob}

-- the name of the version to which the peer committed
abbrev pub tag_of : List Place → Pinned → PinTag
tag_of places p = tag_at p.committed.joined.au p.committed.commitment.version places

-- where it has still to vote
abbrev pub tag_waiting : List Place → Option Pinned → Option PinTag
tag_waiting places None = None
tag_waiting places (Some p) = Some (tag_of places p)

-- this peer's vote in the session, over the blocks of that version
pub record IsVoteOf (own : Station) (places : List Place) (p : Pinned) (j : VoteJob) : Type 0 where
  pub peer : j.peer ≡ own.id
  pub poll : j.poll ≡ p.committed.joined.poll
  pub au : j.au ≡ p.committed.joined.au
  pub kind : j.kind ≡ p.committed.commitment.kind
  pub nonce : j.nonce ≡ p.committed.commitment.nonce
  pub tag : j.tag ≡ tag_of places p
  pub blocks : bytes_of j.refs ≡ p.blocks

-- the job of a session, if there is one: there is a job exactly then
abbrev pub IsVoteIn : Station → List Place → Option Pinned → Option VoteJob → Type 0
IsVoteIn own places None None = Unit {0}
IsVoteIn own places None (Some j) = ⊥
IsVoteIn own places (Some p) None = ⊥
IsVoteIn own places (Some p) (Some j) = IsVoteOf own places p j

-- this peer's vote in the session over these blocks, whatever their name
pub record IsJobOf (own : Station) (p : PinnedSession) (blocks : List Block) (j : VoteJob) : Type 0 where
  pub peer : j.peer ≡ own.id
  pub poll : j.poll ≡ p.committed.joined.poll
  pub au : j.au ≡ p.committed.joined.au
  pub kind : j.kind ≡ p.committed.commitment.kind
  pub nonce : j.nonce ≡ p.committed.commitment.nonce
  pub refs : j.refs ≡ blocks
