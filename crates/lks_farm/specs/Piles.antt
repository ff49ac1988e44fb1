-- The jobs of a batch that several threads take.
use Rattle.std.specs.Prelude.{◌≡◌, Option, None, Some, List, ◌++◌, map}
use Rattle.std.specs.List.{AllZip}
use Rattle.lks_farm.specs.Batches.{asked_done}
use Rattle.lks_farm.specs.Entries.{asked_of}
use Rattle.lks_farm.specs.declared.entries.Asked.{Asked}
use Rattle.lks_work.specs.declared.jobs.Job.{Job}
use Rattle.lks_work.specs.declared.results.JobDone.{JobDone}

-- no result yet, or that of the job which asks this
abbrev pub IsPlaceOf : Option JobDone → Asked → Type 0
IsPlaceOf None asked = Unit {0}
IsPlaceOf (Some done) asked = asked_done done ≡ asked

-- Of the jobs that ask this the first ones are left, and each has its place for a result.
pub record IsPile (asked : List Asked) (jobs : List Job) (done : List (Option JobDone)) : Type 0 where
  pub taken : List Asked
  pub left : map asked_of jobs ++ taken ≡ asked
  pub places : AllZip IsPlaceOf done asked
