-- Jobs and their results.
use Rattle.std.proofs.Common.{◌≡◌, ◌∙◌, ℕ, List, [], ◌∷◌, ◌++◌, ap, refl, sym, subst, append_assoc, length, map, arith}
use Rattle.std.proofs.lemmas.List.{append-nil, map-append}
use Rattle.std.proofs.lemmas.List.Elements.{All-cons, All-head, All-nil, All-tail}
use Rattle.lks_blocks.specs.Block.{AllOf}
use Rattle.lks_farm.specs.Batches.{asked_done, AreDone, AreDoneOf, AreOf, EachAskedIsOf}
use Rattle.lks_farm.specs.Entries.{asked_of}
use Rattle.lks_farm.specs.Entries.{refs_of as asked_refs}
use Rattle.lks_farm.specs.declared.entries.Asked.{Asked}
use Rattle.lks_work.specs.Names.{refs_of, refs_done}
use Rattle.lks_work.specs.declared.jobs.Job.{Job}
use Rattle.lks_work.specs.declared.jobs.Job.TheVariants as jobs
use Rattle.lks_work.specs.declared.results.JobDone.{JobDone}
use Rattle.lks_work.specs.declared.results.JobDone.TheVariants as results

-- one more of the jobs is done
pub one_done : (done : List JobDone) (d : JobDone) (j : Job) (left more : List Job) (all : List Asked)
    → map asked_done done ++ map asked_of left ≡ all → left ≡ j ∷ more → asked_done d ≡ asked_of j
    → map asked_done (done ++ d ∷ []) ++ map asked_of more ≡ all
one_done done d j left more all so is same =
    ap (λ (asked : List Asked). asked ++ map asked_of more) (map-append asked_done done (d ∷ []))
    ∙ append_assoc (map asked_done done) (asked_done d ∷ []) (map asked_of more)
    ∙ ap (λ (a : Asked). map asked_done done ++ a ∷ map asked_of more) same
    ∙ ap (λ (js : List Job). map asked_done done ++ map asked_of js) (sym is)
    ∙ so

-- the blocks of a job are those that were asked for
pub refs_asked : (j : Job) → asked_refs (asked_of j) ≡ refs_of j
refs_asked (jobs.Vote job) = refl
refs_asked (jobs.Tally job) = refl

pub refs_told : (d : JobDone) → asked_refs (asked_done d) ≡ refs_done d
refs_told (results.Vote done) = refl
refs_told (results.Tally done) = refl

pub one_of : (pool : List ℕ) (j : Job) (d : JobDone) → asked_done d ≡ asked_of j → AllOf pool (refs_of j)
    → AllOf pool (refs_done d)
one_of pool j d same of = subst (AllOf pool) (sym (refs_asked j) ∙ ap asked_refs (sym same) ∙ refs_told d) of

-- what is done of jobs over blocks of a pool is over such blocks
pub done_of : (pool : List ℕ) (jobs : List Job) (done : List JobDone) → map asked_done done ≡ map asked_of jobs
    → AreOf pool jobs → AreDoneOf pool done
done_of pool [] [] same of = All-nil (λ d. AllOf pool (refs_done d))
done_of pool [] (d ∷ done) same of = absurd cc
done_of pool (j ∷ jobs) [] same of = absurd cc
done_of pool (j ∷ jobs) (d ∷ done) same of =
    let first : asked_done d ≡ asked_of j = cc in
    let rest : map asked_done done ≡ map asked_of jobs = cc in
    All-cons (λ e. AllOf pool (refs_done e)) d done
    (one_of pool j d first (All-head (λ i. AllOf pool (refs_of i)) j jobs of))
    (done_of pool jobs done rest (All-tail (λ i. AllOf pool (refs_of i)) j jobs of))

-- all jobs are done
pub all_done : (jobs : List Job) (done : List JobDone) (left : List Job) → length left ≡ 0
    → map asked_done done ++ map asked_of left ≡ map asked_of jobs → AreDone jobs done
unfolding AreDone
all_done jobs done (j ∷ left) none so = absurd (omega (arith, none))
all_done jobs done [] none so = sym (append-nil (map asked_done done)) ∙ so

-- what jobs over blocks of a pool ask for is over such blocks
pub asked_of_all : (pool : List ℕ) (jobs : List Job) → AreOf pool jobs → EachAskedIsOf pool (map asked_of jobs)
asked_of_all pool [] of = All-nil (λ a. AllOf pool (asked_refs a))
asked_of_all pool (j ∷ jobs) of =
    All-cons (λ a. AllOf pool (asked_refs a)) (asked_of j) (map asked_of jobs)
    (subst (AllOf pool) (sym (refs_asked j)) (All-head (λ i. AllOf pool (refs_of i)) j jobs of))
    (asked_of_all pool jobs (All-tail (λ i. AllOf pool (refs_of i)) j jobs of))
