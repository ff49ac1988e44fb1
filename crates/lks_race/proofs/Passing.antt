-- The blocks of a job go with it to where it is hashed, and come back with its result.
use Rattle.std.proofs.Common.{ℕ, List, sym, subst}
use Rattle.lks_blocks.specs.Block.{AllOf}
use Rattle.lks_farm.proofs.Batching.{refs_asked, refs_told}
use Rattle.lks_farm.specs.Entries.{asked_of, entry_done}
use Rattle.lks_farm.specs.Entries.{refs_of as asked_refs}
use Rattle.lks_farm.specs.declared.jobs.FarmDone.{FarmDone}
use Rattle.lks_work.specs.Names.{refs_done, refs_of}
use Rattle.lks_work.specs.declared.jobs.Job.{Job}

-- a job that is offered
pub asked_here : (pool : List ℕ) (j : Job) → AllOf pool (refs_of j) → AllOf pool (asked_refs (asked_of j))
asked_here pool j of = subst (AllOf pool) (sym (refs_asked j)) of

-- a job that was taken
pub asked_there : (pool : List ℕ) (j : Job) → AllOf pool (asked_refs (asked_of j)) → AllOf pool (refs_of j)
asked_there pool j of = subst (AllOf pool) (refs_asked j) of

-- a result that was collected
pub told_here : (pool : List ℕ) (f : FarmDone) → AllOf pool (asked_refs (entry_done f).job)
    → AllOf pool (refs_done f.done)
told_here pool f of = subst (AllOf pool) (refs_told f.done) of
