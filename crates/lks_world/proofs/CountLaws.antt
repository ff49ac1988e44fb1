-- Counts of faults over one call and then another.
use Rattle.std.proofs.Common.{◌≡◌, ◌≤◌, ◌∙◌, inl, inr, ap, sym, ℕ, zero, suc, List, [], ◌∷◌, length, refl, arith}
use Rattle.std.specs.Prelude.{Option, Some, None, map, slice_get}
use Rattle.lks_disk.specs.Counts.{Rose}
use Rattle.lks_disk.specs.Face.{Face}
use Rattle.lks_world.specs.Counts.{AreCounted}
use Rattle.lks_world.specs.declared.faults.WorldFault.{WorldFault}
use Rattle.lks_world.specs.declared.faults.WorldFault.TheVariants.{Disk}

pub some_is : {X : Type 0} {x y : X} → Some x ≡ Some y → x ≡ y
some_is e = cc

pub rose_from : (a b c : ℕ) → a ≤ b → Rose b c → Rose a c
rose_from a b c low rose = elim rose [ inl more ↦ inl (omega (arith, low, more)) | inr end ↦ inr end ]

-- lists of one length have something at the same places
pub there_too : {X : Type 0} (xs ys : List X) → length ys ≡ length xs → (place : ℕ) (x : X)
    → slice_get xs place ≡ Some x → (y : X) × (slice_get ys place ≡ Some y)
there_too [] ys same place x at = absurd cc
there_too (x ∷ xs) [] same place y at = absurd (omega (arith, same))
there_too (x ∷ xs) (y ∷ ys) same zero z at = (y, refl)
there_too (x ∷ xs) (y ∷ ys) same (suc place) z at = there_too xs ys (omega (arith, same)) place z at

module _ {D : Type 0} (f : Face D) (ids : List ℕ) where
  pub untouched : (disks : List D) (fault : Option WorldFault) → ((id : ℕ) → fault ≡ Some (Disk id) → ⊥)
      → AreCounted f ids disks disks fault
  untouched disks fault none = record {
    count = refl;
    fuses = refl;
    later = λ place d e at also. let same = ap f.faults (some_is (sym at ∙ also)) in omega (arith, same);
    cause = λ id is. absurd (none id is);
  }

  pub are_counted_then : (xs ys zs : List D) (fault : Option WorldFault) → AreCounted f ids xs ys None
      → AreCounted f ids ys zs fault → AreCounted f ids xs zs fault
  are_counted_then xs ys zs fault first next = record {
    count = next.count ∙ first.count;
    fuses = next.fuses ∙ first.fuses;
    later = λ place d e at then.
        let mid = there_too xs ys first.count place d at in
        let low = first.later place d mid.0 at mid.1 in
        let high = next.later place mid.0 e mid.1 then in
        omega (arith, low, high);
    cause = λ id is.
        let risen = next.cause id is in
        let old = there_too ys xs (sym first.count) risen.place risen.disk risen.there in
        record {
          place = risen.place;
          disk = old.0;
          now = risen.now;
          named = risen.named;
          there = old.1;
          stays = risen.stays;
          rose = rose_from _ _ _ (first.later risen.place old.0 risen.disk old.1 risen.there) risen.rose;
        };
  }

  pub unblamed : (xs ys : List D) (fault : Option WorldFault) → AreCounted f ids xs ys fault
      → AreCounted f ids xs ys None
  unblamed xs ys fault counted =
      record { count = counted.count; fuses = counted.fuses; later = counted.later; cause = λ id is. absurd cc }

  -- a disk stands before the others, as it was
  pub counted_behind : (i : ℕ) (x : D) (xs ys : List D) (fault : Option WorldFault) → AreCounted f ids xs ys fault
      → AreCounted f (i ∷ ids) (x ∷ xs) (x ∷ ys) fault
  counted_behind i x xs ys fault counted = record {
    count = ap suc counted.count;
    fuses = ap (λ bs. f.fused x ∷ bs) counted.fuses;
    later = by_place;
    cause = λ id is.
        let risen = counted.cause id is in
        record {
          place = suc risen.place;
          disk = risen.disk;
          now = risen.now;
          named = risen.named;
          there = risen.there;
          stays = risen.stays;
          rose = risen.rose;
        };
  }
    where
      by_place : (place : ℕ) (d e : D) → slice_get (x ∷ xs) place ≡ Some d → slice_get (x ∷ ys) place ≡ Some e
          → f.faults d ≤ f.faults e
      by_place zero d e at also = let same = ap f.faults (some_is (sym at ∙ also)) in omega (arith, same)
      by_place (suc place) d e at also = counted.later place d e at also

  -- the first disk changed
  pub counted_first : (i : ℕ) (d e : D) (xs : List D) (fault : Option WorldFault) → f.fused e ≡ f.fused d
      → f.faults d ≤ f.faults e
      → ((id : ℕ) → fault ≡ Some (Disk id) → (i ≡ id) × Rose (f.faults d) (f.faults e))
      → AreCounted f (i ∷ ids) (d ∷ xs) (e ∷ xs) fault
  counted_first i d e xs fault fuse le cause = record {
    count = refl;
    fuses = ap (λ b. b ∷ map f.fused xs) fuse;
    later = by_place;
    cause =
        λ id is.
        record {
          place = 0;
          disk = d;
          now = e;
          named = ap Some (cause id is).0;
          there = refl;
          stays = refl;
          rose = (cause id is).1;
        };
  }
    where
      by_place : (place : ℕ) (x y : D) → slice_get (d ∷ xs) place ≡ Some x → slice_get (e ∷ xs) place ≡ Some y
          → f.faults x ≤ f.faults y
      by_place zero x y at also =
          let first = ap f.faults (some_is at) in let next = ap f.faults (some_is also) in
          omega (arith, le, first, next)
      by_place (suc place) x y at also = let same = ap f.faults (some_is (sym at ∙ also)) in omega (arith, same)
