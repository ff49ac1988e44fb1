-- What a power cut leaves is an outcome of a crash.
use Rattle.std.proofs.Common.{◌≡◌, inr, ⊎_elim, ℕ, zero, suc, ◌+◌, ◌-◌, ◌%◌, ◌<◌, ◌≤◌, ◌==◌, Bool, true, false}
use Rattle.std.proofs.Common.{if◌then◌else◌, append_assoc, List, [], ◌∷◌, ◌++◌, length, get_or, take, drop}
use Rattle.std.proofs.Common.{length-append, length-take, length-drop, refl, sym, ◌∙◌, ap, subst, arith}
use Rattle.std.proofs.lemmas.List.{take_at, drop_at, drop_all, length-take-le, places, same_lists, get_or-take}
use Rattle.std.proofs.lemmas.List.{get_or-drop}
use Rattle.std.proofs.lemmas.Bool.{cases_lt}
use Rattle.lks_disk.specs.Device.{Torn}
use Rattle.lks_disk.specs.Ranges.{replaced, counting, Fits}
use Rattle.lks_disk.specs.Crash.{IsImage, AllFit, all_undone, all_garbled, left_by}
use Rattle.lks_disk.specs.declared.calls.Call.{Call}
use Rattle.lks_disk.specs.declared.calls.Call.TheVariants.{Written, Synced}
use Rattle.lks_disk.proofs.TornWrites.{torn_same}
use Rattle.lks_disk.proofs.Images.{AllWithin, AllWithin-AllFit, image_now, length-replaced}

undone_image : (calls : List Call) (x : List ℕ) → IsImage calls x (all_undone calls x)
undone_image [] x = refl
undone_image (Synced ∷ calls) x = refl
undone_image (Written at n over ∷ calls) x =
    let before = all_undone calls (replaced at n over x) in
    inr (before, undone_image calls (replaced at n over x), torn_same at n before)

-- what stands at a place after bytes were put over a range hangs on what stood there
replaced_at : (b m : ℕ) (y d c : List ℕ) → length y ≡ m → b + m ≤ length d → b + m ≤ length c → (k e : ℕ)
    → get_or c k e ≡ get_or d k e → get_or (replaced b m y c) k e ≡ get_or (replaced b m y d) k e
replaced_at b m y d c size long_d long_c k e same = grind (arith, places, same, size, long_d, long_c)

-- torn in one range, and then the same bytes in another
module _ (a n : ℕ) (d c : List ℕ) (torn : Torn a n d c) where
  before_at : (k e : ℕ) → k < a → get_or c k e ≡ get_or d k e
  before_at k e lt =
      sym (get_or-take a c k e lt) ∙ ap (λ (l : List ℕ). get_or l k e) torn.before ∙ get_or-take a d k e lt

  after_at : (k e : ℕ) → a + n ≤ k → get_or c k e ≡ get_or d k e
  after_at k e le =
      let at_k : a + n + (k - (a + n)) ≡ k = omega arith in
      ap (λ (i : ℕ). get_or c i e) (sym at_k) ∙ sym (get_or-drop (a + n) c (k - (a + n)) e)
      ∙ ap (λ (l : List ℕ). get_or l (k - (a + n)) e) torn.after
      ∙ get_or-drop (a + n) d (k - (a + n)) e ∙ ap (λ (i : ℕ). get_or d i e) at_k

  pub torn_replaced : (b m : ℕ) (y : List ℕ) → length y ≡ m → b + m ≤ length d
      → Torn a n (replaced b m y d) (replaced b m y c)
  torn_replaced b m y size within =
      let long_c : b + m ≤ length c = omega (arith, within, torn.no_shorter) in
      let size_d = length-replaced b m y d within in
      let size_c = length-replaced b m y c long_c in
      let fronts = sym (length-take a c) ∙ ap length torn.before ∙ length-take a d in
      let backs = sym (length-drop (a + n) c) ∙ ap length torn.after ∙ length-drop (a + n) d in
      record {
        before =
            same_lists (take a (replaced b m y c)) (take a (replaced b m y d))
            (omega (
              arith,
              length-take a (replaced b m y c),
              length-take a (replaced b m y d),
              size,
              size_c,
              size_d,
              fronts,
              within,
              long_c,
            ))
            (λ k e h.
            let lt : k < a = omega (arith, h, length-take a (replaced b m y c)) in
            get_or-take a (replaced b m y c) k e lt
            ∙ replaced_at b m y d c size within long_c k e (before_at k e lt)
            ∙ sym (get_or-take a (replaced b m y d) k e lt));
        after =
            same_lists (drop (a + n) (replaced b m y c)) (drop (a + n) (replaced b m y d))
            (omega (
              arith,
              length-drop (a + n) (replaced b m y c),
              length-drop (a + n) (replaced b m y d),
              size,
              size_c,
              size_d,
              backs,
              within,
              long_c,
            ))
            (λ k e h.
            get_or-drop (a + n) (replaced b m y c) k e
            ∙ replaced_at b m y d c size within long_c (a + n + k) e (after_at (a + n + k) e (omega arith))
            ∙ sym (get_or-drop (a + n) (replaced b m y d) k e));
        no_shorter = omega (arith, size, size_c, size_d, torn.no_shorter, within, long_c);
        no_longer = omega (arith, size, size_c, size_d, torn.no_longer, within, long_c);
      }

-- what was there before a write, and any bytes in its range
ranges_torn : (at n : ℕ) (over y x : List ℕ) → Fits at n over x → length y ≡ n
    → Torn at n (replaced at n over x) (replaced at n y x)
ranges_torn at n over y x fits size =
    let size_y = length-replaced at n y x fits.within in
    let size_over = length-replaced at n over x fits.within in
    record {
      before = front y ∙ sym (front over);
      after = ⊎_elim
          (λ less. drop_all (at + n) (replaced at n y x) (omega (arith, size_y, size, fits.short less))
          ∙ sym (drop_all (at + n) (replaced at n over x) (omega (arith, size_over, less, fits.short less))))
          (λ all. back y size ∙ sym (back over (omega (arith, all, fits.few))))
          (cases_lt (length over) n);
      no_shorter = omega (arith, size_y, size_over, size, fits.few);
      no_longer = ⊎_elim
          (λ less. omega (arith, size_y, size, fits.within, fits.short less))
          (λ all. omega (arith, size_y, size_over, size, fits.within, fits.few, all))
          (cases_lt (length over) n);
    }
  where
    near : length (take at x) ≡ at
    near = length-take-le at x (omega (arith, fits.within))

    front : (z : List ℕ) → take at (replaced at n z x) ≡ take at x
    front z =
        ap (λ (l : List ℕ). take at l) (append_assoc (take at x) z (drop (at + n) x))
        ∙ take_at (take at x) (z ++ drop (at + n) x) at near

    back : (z : List ℕ) → length z ≡ n → drop (at + n) (replaced at n z x) ≡ drop (at + n) x
    back z is =
        drop_at (take at x ++ z) (drop (at + n) x) (at + n) (omega (arith, length-append (take at x) z, near, is))

length-counting : (c n : ℕ) → length (counting c n) ≡ n
length-counting c zero = refl
length-counting c (suc n) = omega (arith, length-append (counting c n) ((c + n) % 256 ∷ []), length-counting c n)

-- the ranges count up over torn bytes as over those that were torn
garbled_torn : (choice : ℕ) (calls : List Call) (a n : ℕ) (d c : List ℕ) → AllWithin calls (length d) → Torn a n d c
    → Torn a n (all_garbled choice calls d) (all_garbled choice calls c)
garbled_torn choice [] a n d c fit torn = torn
garbled_torn choice (Synced ∷ calls) a n d c fit torn = torn
garbled_torn choice (Written at m over ∷ calls) a n d c fit torn =
    let y = counting choice m in
    let size : length y ≡ m = length-counting choice m in
    let same_size : length (replaced at m y d)
    ≡ length d = omega (arith, length-replaced at m y d fit.0, size, fit.0) in
    garbled_torn choice calls a n (replaced at m y d) (replaced at m y c)
    (subst (λ (s : ℕ). AllWithin calls s) (sym same_size) fit.1) (torn_replaced a n d c torn at m y size fit.0)

garbled_image : (choice : ℕ) (calls : List Call) (x : List ℕ) → AllFit calls x
    → IsImage calls x (all_garbled choice calls x)
garbled_image choice [] x fit = refl
garbled_image choice (Synced ∷ calls) x fit = refl
garbled_image choice (Written at n over ∷ calls) x fit =
    let before = replaced at n over x in
    inr (
      all_garbled choice calls before,
      garbled_image choice calls before fit.1,
      garbled_torn choice calls at n before (replaced at n (counting choice n) x)
          (AllWithin-AllFit calls before fit.1)
          (ranges_torn at n over (counting choice n) x fit.0 (length-counting choice n)),
    )

-- by each choice
pub left_image : (choice : ℕ) (calls : List Call) (x : List ℕ) → AllFit calls x
    → IsImage calls x (left_by choice calls x)
left_image choice calls x fit = by_choice (choice == 0) (choice == 1)
  where
    by_choice : (none one : Bool)
        → IsImage calls x (if none then all_undone calls x else (if one then x else all_garbled choice calls x))
    by_choice true one = undone_image calls x
    by_choice false true = image_now calls x
    by_choice false false = garbled_image choice calls x fit
