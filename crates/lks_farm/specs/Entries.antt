-- Jobs under their numbers, as the lists of a farm have them.
use Rattle.std.specs.Prelude.{◌≡◌, ℕ, List, All}
use Rattle.lks_blocks.specs.Block.{Block, AllOf}
use Rattle.lks_work.specs.Asked.{IsSameJob}
use Rattle.lks_work.specs.declared.jobs.TallyJob.{TallyJob}
use Rattle.lks_work.specs.declared.jobs.Job.{Job}
use Rattle.lks_work.specs.declared.jobs.Job.TheVariants as jobs
use Rattle.lks_work.specs.declared.results.JobDone.{JobDone}
use Rattle.lks_work.specs.declared.results.JobDone.TheVariants as results
use Rattle.lks_farm.specs.declared.jobs.JobNumber.{JobNumber}
use Rattle.lks_farm.specs.declared.jobs.FarmJob.{FarmJob}
use Rattle.lks_farm.specs.declared.jobs.FarmDone.{FarmDone}
use Rattle.lks_farm.specs.declared.entries.Asked.{Asked}
use Rattle.lks_farm.specs.declared.entries.Asked.TheVariants as asked
use Rattle.lks_farm.specs.declared.entries.NumberedJob.{NumberedJob}

-- the job, a tally's without the running hashes that it keeps
abbrev pub asked_of : Job → Asked
asked_of (jobs.Vote job) = asked.Vote job
asked_of (jobs.Tally job) =
    asked.Tally
    (record {
      peer = job.peer;
      number = job.number;
      tag = job.tag;
      refs = job.refs;
      ballot = job.tally.ballot;
      limits = job.tally.limits;
      votes = job.tally.votes;
    })

-- hashing a tally's job leaves what was asked
pub asked_same : (old new : TallyJob) → IsSameJob old new → asked_of (jobs.Tally new) ≡ asked_of (jobs.Tally old)
asked_same old new s =
    λ i. asked.Tally
    (record {
      peer = s.peer i;
      number = s.number i;
      tag = s.tag i;
      refs = s.refs i;
      ballot = s.tally.0 i;
      limits = s.tally.1 i;
      votes = s.tally.2 i;
    })

-- the job that was done
abbrev pub job_of : JobDone → Job
job_of (results.Vote done) = jobs.Vote done.job
job_of (results.Tally done) = jobs.Tally done.job

-- the blocks that the job is over
abbrev pub refs_of : Asked → List Block
refs_of (asked.Vote job) = job.refs
refs_of (asked.Tally job) = job.refs

abbrev pub under : JobNumber → Job → NumberedJob
under number job = record { number = number; job = asked_of job }

abbrev pub entry_of : FarmJob → NumberedJob
entry_of f = under f.number f.job

-- the entry of the job that was done
abbrev pub entry_done : FarmDone → NumberedJob
entry_done f = under f.number (job_of f.done)

-- the job has references of this pool alone
abbrev pub IsOf : List ℕ → NumberedJob → Type 0
IsOf pool e = AllOf pool (refs_of e.job)

-- each of the jobs has
abbrev pub EachIsOf : List ℕ → List NumberedJob → Type 0
EachIsOf pool es = All (IsOf pool) es
