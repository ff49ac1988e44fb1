-- Which job it is, and what it is of.
use Rattle.std.specs.Prelude.{◌==◌, ◌&&◌, Bool, false, not, List}
use Rattle.std.specs.List.{list_any}
use Rattle.lks_base.specs.declared.events.PeerStep.{PeerStep}
use Rattle.lks_base.specs.declared.events.PeerStep.TheVariants.{Work, Tally}
use Rattle.lks_blocks.specs.Block.{Block}
use Rattle.lks_versions.specs.declared.versions.PinTag.{PinTag}
use Rattle.lks_work.specs.declared.jobs.Job.{Job}
use Rattle.lks_work.specs.declared.jobs.Job.TheVariants as jobs
use Rattle.lks_work.specs.declared.jobs.JobName.{JobName}
use Rattle.lks_work.specs.declared.jobs.JobName.TheVariants as names
use Rattle.lks_work.specs.declared.results.JobDone.{JobDone}
use Rattle.lks_work.specs.declared.results.JobDone.TheVariants as results

abbrev pub name_of : Job → JobName
name_of (jobs.Vote job) = names.Vote job.peer job.poll
name_of (jobs.Tally job) = names.Tally job.peer job.number

abbrev pub name_done : JobDone → JobName
name_done (results.Vote done) = names.Vote done.job.peer done.job.poll
name_done (results.Tally done) = names.Tally done.job.peer done.job.number

-- the step that is worked for
abbrev pub step_named : JobName → PeerStep
step_named (names.Vote peer poll) = Work peer poll
step_named (names.Tally peer number) = Tally peer number

-- whether two names are of one job
unfoldable pub is_job : JobName → JobName → Bool
is_job (names.Vote peer poll) (names.Vote other named) =
    (peer == other) && ((poll.poller == named.poller) && (poll.number == named.number))
is_job (names.Vote peer poll) (names.Tally other number) = false
is_job (names.Tally peer number) (names.Vote other poll) = false
is_job (names.Tally peer number) (names.Tally other named) = (peer == other) && (number == named)

-- whether the job is none of these
abbrev pub is_left : List JobName → JobName → Bool
is_left out name = not (list_any (λ other. is_job name other) out)

-- the blocks that it names
abbrev pub refs_of : Job → List Block
refs_of (jobs.Vote job) = job.refs
refs_of (jobs.Tally job) = job.refs

-- the blocks that were hashed
abbrev pub refs_done : JobDone → List Block
refs_done (results.Vote done) = done.job.refs
refs_done (results.Tally done) = done.job.refs

-- the name of the version that was hashed
abbrev pub tag_done : JobDone → PinTag
tag_done (results.Vote done) = done.job.tag
tag_done (results.Tally done) = done.job.tag
