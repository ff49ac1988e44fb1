-- A disk holds the batches of one history.
use Rattle.std.proofs.Common.{◌≡◌, ◌≢◌, ℕ, ap, ◌∙◌, sym, List, [], ◌∷◌, ◌++◌, length, refl, arith}
use Rattle.std.specs.Prelude.{Some, slice_get}
use Rattle.std.proofs.lemmas.List.{length-append, length-map}
use Rattle.lks_base.specs.declared.events.Event.{Event}
use Rattle.lks_base.specs.declared.plans.Plan.{Plan}
use Rattle.lks_base.specs.declared.records.Record.{Record}
use Rattle.lks_disk.specs.Face.{Face}
use Rattle.lks_host.specs.Bodies.{bodies_of}
use Rattle.lks_field.proofs.Once.{held_once}
use Rattle.lks_field.specs.Frames.{frames, HoldsBodies}
use Rattle.lks_law.specs.Batches.{batches_at}
use Rattle.lks_record.specs.Spelling.{batch_spelling}
use Rattle.lks_world.specs.Disks.{honest_disks}
use Rattle.lks_world.specs.Held.{HoldsBatches, HaveBatches, IsFresh}

pub same_bodies : (content : List ℕ) (batches others : List (List Record)) → HoldsBodies (bodies_of batches) content
    → HoldsBodies (bodies_of others) content → bodies_of batches ≡ bodies_of others
same_bodies content batches others held also = held_once (bodies_of batches) (bodies_of others) content held also

-- one batch more is one body more
more_bodies : (batches : List (List Record)) (batch : List Record)
    → bodies_of batches ≢ bodies_of (batches ++ batch ∷ [])
more_bodies batches batch same =
    let one : length (batch ∷ []) ≡ 1 = refl in
    omega (
      arith,
      ap length same,
      length-map batches batch_spelling,
      length-map (batches ++ batch ∷ []) batch_spelling,
      length-append batches (batch ∷ []),
      one,
    )

-- where there are no bytes, there is no closed gate
not_empty : (bodies : List (List ℕ)) (content : List ℕ) → content ≡ [] → HoldsBodies bodies content → ⊥
not_empty bodies content none held =
    omega (arith, ap length (sym none ∙ held.file_is), length-append (frames bodies) (held.gate ∷ held.rest))

pub never_fresh : {D : Type 0} (f : Face D) (plan : Plan) (history : List Event) (disks : List D) (place : ℕ)
    (disk : D)
    → slice_get (honest_disks plan.peers disks) place ≡ Some disk → IsFresh f disk
    → HaveBatches f plan history disks → ⊥
never_fresh f plan history disks place disk at fresh have =
    not_empty (bodies_of (batches_at place plan history)) (f.seen disk) fresh.empty (have place disk at).holds

module _ {D : Type 0} (f : Face D) (plan : Plan) (history other : List Event) where
  pub held_bodies : (place : ℕ) (disk : D) → HoldsBatches f plan history place disk
      → HoldsBatches f plan other place disk
      → bodies_of (batches_at place plan history) ≡ bodies_of (batches_at place plan other)
  held_bodies place disk held also =
      same_bodies (f.seen disk) (batches_at place plan history) (batches_at place plan other) held.holds also.holds

  -- where disks hold the batches of one history, they do not hold those of another
  pub never_others : (disks : List D) (place : ℕ) (disk : D)
      → slice_get (honest_disks plan.peers disks) place ≡ Some disk
      → bodies_of (batches_at place plan history) ≢ bodies_of (batches_at place plan other)
      → HaveBatches f plan history disks → HaveBatches f plan other disks → ⊥
  never_others disks place disk at differ have also =
      differ (held_bodies place disk (have place disk at) (also place disk at))

  pub never_more : (disks : List D) (place : ℕ) (disk : D) (batch : List Record)
      → slice_get (honest_disks plan.peers disks) place ≡ Some disk
      → batches_at place plan other ≡ batches_at place plan history ++ batch ∷ []
      → HaveBatches f plan history disks → HaveBatches f plan other disks → ⊥
  never_more disks place disk batch at more =
      never_others disks place disk at
      (λ same. more_bodies (batches_at place plan history) batch (same ∙ ap bodies_of more))
