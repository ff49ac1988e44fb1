-- What calls on the disks of honest peers are to all disks.
use Rattle.std.proofs.Common.{◌≡◌, ◌∙◌, ℕ, zero, suc, Bool, true, false, cond, List, [], ◌∷◌, refl}
use Rattle.std.specs.Prelude.{Option, Some, None, slice_get}
use Rattle.lks_disk.specs.Face.{Face}
use Rattle.lks_base.specs.declared.plans.PeerPlan.{PeerPlan}
use Rattle.lks_world.proofs.CountLaws.{untouched, unblamed, are_counted_then}
use Rattle.lks_world.specs.Counts.{honest_ids, ServesHonest}
use Rattle.lks_world.specs.Disks.{honest_disks}
use Rattle.lks_world.specs.declared.faults.WorldFault.{WorldFault}
use Rattle.lks_world.specs.declared.faults.WorldFault.TheVariants.{Disk}

module _ {D : Type 0} (f : Face D) (peers : List PeerPlan) where
  -- calls after calls
  pub serves_then : (xs ys zs : List D) (fault : Option WorldFault) → ServesHonest f peers xs ys None
      → ServesHonest f peers ys zs fault → ServesHonest f peers xs zs fault
  serves_then xs ys zs fault first next = record {
    count = next.count ∙ first.count;
    corrupt = next.corrupt ∙ first.corrupt;
    rest = next.rest ∙ first.rest;
    honest =
        are_counted_then f (honest_ids peers) (honest_disks peers xs) (honest_disks peers ys)
        (honest_disks peers zs) fault first.honest next.honest;
  }

  -- no call
  pub serves_none : (disks : List D) (fault : Option WorldFault) → ((id : ℕ) → fault ≡ Some (Disk id) → ⊥)
      → ServesHonest f peers disks disks fault
  serves_none disks fault none =
      record {
        count = refl;
        corrupt = refl;
        rest = refl;
        honest = untouched f (honest_ids peers) (honest_disks peers disks) fault none;
      }

  -- without a word on who failed
  pub serves_unblamed : (xs ys : List D) (fault : Option WorldFault) → ServesHonest f peers xs ys fault
      → ServesHonest f peers xs ys None
  serves_unblamed xs ys fault served =
      record {
        count = served.count;
        corrupt = served.corrupt;
        rest = served.rest;
        honest = unblamed f (honest_ids peers) (honest_disks peers xs) (honest_disks peers ys) fault
            served.honest;
      }

-- the disks of honest peers are among all disks, at the same places before and after
pub record IsPlace {D : Type 0} (xs ys : List D) (d e : D) : Type 0 where
  pub place : ℕ
  pub before : slice_get xs place ≡ Some d
  pub after : slice_get ys place ≡ Some e

pub place_among : {D : Type 0} (peers : List PeerPlan) (xs ys : List D) (k : ℕ) (d e : D)
    → slice_get (honest_disks peers xs) k ≡ Some d → slice_get (honest_disks peers ys) k ≡ Some e
    → IsPlace xs ys d e
place_among [] xs ys k d e at also = absurd cc
place_among (p ∷ ps) [] ys k d e at also = absurd cc
place_among (p ∷ ps) (x ∷ xs) [] k d e at also = absurd cc
place_among {D = D} (p ∷ ps) (x ∷ xs) (y ∷ ys) k d e at also = by_peer p.corrupt k at also (place_among ps xs ys)
  where
    next : IsPlace xs ys d e → IsPlace (x ∷ xs) (y ∷ ys) d e
    next is = record { place = suc is.place; before = is.before; after = is.after }

    by_peer : (b : Bool) (k : ℕ) → slice_get (cond b (honest_disks ps xs) (x ∷ honest_disks ps xs)) k ≡ Some d
        → slice_get (cond b (honest_disks ps ys) (y ∷ honest_disks ps ys)) k ≡ Some e
        → ((k : ℕ) (d e : D) → slice_get (honest_disks ps xs) k ≡ Some d → slice_get (honest_disks ps ys) k ≡ Some e
        → IsPlace xs ys d e)
        → IsPlace (x ∷ xs) (y ∷ ys) d e
    by_peer true k at also later = next (later k d e at also)
    by_peer false zero at also later = record { place = 0; before = at; after = also }
    by_peer false (suc k) at also later = next (later k d e at also)
