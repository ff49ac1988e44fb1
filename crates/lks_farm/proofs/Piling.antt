-- The jobs of a pile, and the places of their results.
use Rattle.std.proofs.Common.{◌≡◌, ◌∙◌, ◌<◌, ℕ, zero, suc, Option, None, Some, List, [], ◌∷◌, ◌++◌, ap, refl, sym}
use Rattle.std.proofs.Common.{subst, append_assoc, length, map, arith}
use Rattle.std.specs.Prelude.{All, slice_get, slice_set}
use Rattle.std.specs.List.{AllZip}
use Rattle.std.proofs.lemmas.List.{append-nil, map-append}
use Rattle.std.proofs.lemmas.List.Elements.{All-head, All-tail}
use Rattle.lks_farm.specs.Batches.{asked_done}
use Rattle.lks_farm.specs.Entries.{asked_of}
use Rattle.lks_farm.specs.Piles.{IsPlaceOf}
use Rattle.lks_farm.specs.declared.entries.Asked.{Asked}
use Rattle.lks_work.specs.declared.jobs.Job.{Job}
use Rattle.lks_work.specs.declared.results.JobDone.{JobDone}

-- places without a result are places of any jobs
pub all_empty : (done : List (Option JobDone)) (asked : List Asked) → All (λ o. o ≡ None) done
    → length done ≡ length asked → AllZip IsPlaceOf done asked
all_empty [] [] none same = tt
all_empty [] (a ∷ asked) none same = absurd (omega (arith, same))
all_empty (o ∷ done) [] none same = absurd (omega (arith, same))
all_empty (o ∷ done) (a ∷ asked) none same =
    let here : o ≡ None = All-head (λ o. o ≡ None) o done none in
    (rw here tt, all_empty done asked (All-tail (λ o. o ≡ None) o done none) (omega (arith, same)))

-- where the last job that is left was
asked_behind : (less : List Job) (a : Asked) (taken : List Asked)
    → slice_get (map asked_of less ++ a ∷ taken) (length less) ≡ Some a
asked_behind [] a taken = refl
asked_behind (j ∷ less) a taken = asked_behind less a taken

-- a result comes to its place
pub placed : (done : List (Option JobDone)) (asked : List Asked) (place : ℕ) (d : JobDone)
    → slice_get asked place ≡ Some (asked_done d) → AllZip IsPlaceOf done asked
    → AllZip IsPlaceOf (slice_set done place (Some d)) asked
placed [] [] place d at zip = absurd cc
placed [] (a ∷ asked) place d at zip = absurd zip
placed (o ∷ done) [] place d at zip = absurd zip
placed (o ∷ done) (a ∷ asked) zero d at zip = let same : asked_done d ≡ a = cc in (same, zip.1)
placed (o ∷ done) (a ∷ asked) (suc place) d at zip = (zip.0, placed done asked place d at zip.1)

-- there is a place for each job
pub has_place : (done : List (Option JobDone)) (asked : List Asked) (place : ℕ) (a : Asked)
    → slice_get asked place ≡ Some a → AllZip IsPlaceOf done asked → place < length done
has_place [] [] place a at zip = absurd cc
has_place [] (b ∷ asked) place a at zip = absurd zip
has_place (o ∷ done) [] place a at zip = absurd zip
has_place (o ∷ done) (b ∷ asked) zero a at zip = omega arith
has_place (o ∷ done) (b ∷ asked) (suc place) a at zip =
    let below = has_place done asked place a at zip.1 in omega (arith, below)

-- Results are gathered from their places.

pub record AreGathered (asked : List Asked) (all : List JobDone) (rest : List (Option JobDone)) : Type 0 where
  pub left : List Asked
  pub places : AllZip IsPlaceOf rest left
  pub so : map asked_done all ++ left ≡ asked

pub one_gathered : (asked : List Asked) (all : List JobDone) (d : JobDone) (rest after : List (Option JobDone))
    → rest ≡ Some d ∷ after → AreGathered asked all rest → AreGathered asked (all ++ d ∷ []) after
one_gathered asked all d rest after is g =
    gathered g.left (subst (λ ps. AllZip IsPlaceOf ps g.left) is g.places) g.so where
      gathered : (left : List Asked) → AllZip IsPlaceOf (Some d ∷ after) left → map asked_done all ++ left ≡ asked
          → AreGathered asked (all ++ d ∷ []) after
      gathered [] zip so = absurd zip
      gathered (a ∷ left) zip so = record {
        left = left;
        places = zip.1;
        so =
            ap (λ (asks : List Asked). asks ++ left) (map-append asked_done all (d ∷ []))
            ∙ append_assoc (map asked_done all) (asked_done d ∷ []) left
            ∙ ap (λ b. map asked_done all ++ b ∷ left) zip.0 ∙ so;
      }

pub all_gathered : (asked : List Asked) (all : List JobDone) (rest : List (Option JobDone)) → length rest ≡ 0
    → AreGathered asked all rest → map asked_done all ≡ asked
all_gathered asked all (o ∷ rest) none g = absurd (omega (arith, none))
all_gathered asked all [] none g = gathered g.left g.places g.so where
  gathered : (left : List Asked) → AllZip IsPlaceOf [] left → map asked_done all ++ left ≡ asked
      → map asked_done all ≡ asked
  gathered [] zip so = sym (append-nil (map asked_done all)) ∙ so
  gathered (a ∷ left) zip so = absurd zip
