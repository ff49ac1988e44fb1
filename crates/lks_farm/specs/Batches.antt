-- Jobs that are hashed side by side.
use Rattle.std.specs.Prelude.{◌≡◌, ℕ, List, All, map}
use Rattle.lks_blocks.specs.Block.{AllOf}
use Rattle.lks_farm.specs.Entries.{asked_of, job_of}
use Rattle.lks_farm.specs.Entries.{refs_of as asked_refs}
use Rattle.lks_farm.specs.declared.entries.Asked.{Asked}
use Rattle.lks_work.specs.Names.{refs_of, refs_done}
use Rattle.lks_work.specs.declared.jobs.Job.{Job}
use Rattle.lks_work.specs.declared.results.JobDone.{JobDone}

-- the jobs are over blocks of this pool
abbrev pub AreOf : List ℕ → List Job → Type 0
AreOf pool jobs = All (λ j. AllOf pool (refs_of j)) jobs

-- and the results
abbrev pub AreDoneOf : List ℕ → List JobDone → Type 0
AreDoneOf pool done = All (λ d. AllOf pool (refs_done d)) done

-- what the job asked for that was done
abbrev pub asked_done : JobDone → Asked
asked_done d = asked_of (job_of d)

-- each job was done, in their order
unfoldable pub AreDone : List Job → List JobDone → Type 0
AreDone jobs done = map asked_done done ≡ map asked_of jobs

-- what is asked for is over blocks of this pool
abbrev pub EachAskedIsOf : List ℕ → List Asked → Type 0
EachAskedIsOf pool asked = All (λ a. AllOf pool (asked_refs a)) asked
