-- What a crash may leave of writes that wait, and how that goes on with each call.
use Rattle.std.proofs.Common.{◌≡◌, inl, inr, ⊎_elim, ℕ, suc, ◌+◌, ◌-◌, ◌<◌, ◌≤◌, true, List, [], ◌∷◌, ◌++◌, length}
use Rattle.std.proofs.Common.{take, drop, refl, sym, ◌∙◌, ap, subst, arith, length-append, length-drop, reverse}
use Rattle.std.proofs.lemmas.List.{reverse-append, length-take-le}
use Rattle.lks_disk.specs.Device.{Holds, Torn, Follows, Elapses}
use Rattle.lks_disk.specs.Ranges.{replaced}
use Rattle.lks_disk.specs.Crash.{Kept, IsImage, WasImage, undone, AllFit, IsSound, IsWritten, may_leave, moment}
use Rattle.lks_disk.specs.Crash.{left_since, is_pending, synced}
use Rattle.lks_disk.proofs.TornWrites.{torn_written, undone_written, fits_written, torn_same}
use Rattle.lks_disk.specs.declared.calls.Call.{Call}
use Rattle.lks_disk.specs.declared.calls.Call.TheVariants.{Written, Synced}

-- the ranges of the writes that wait lie within so many bytes
abbrev pub AllWithin : List Call → ℕ → Type 0
AllWithin [] size = Unit {0}
AllWithin (Synced ∷ calls) size = Unit {0}
AllWithin (Written at n over ∷ calls) size = (at + n ≤ size) × AllWithin calls size

-- the length of bytes with a range replaced
pub length-replaced : (at n : ℕ) (bytes x : List ℕ) → at + n ≤ length x
    → length (replaced at n bytes x) ≡ at + length bytes + (length x - (at + n))
length-replaced at n bytes x within =
    omega (
      arith,
      length-append (take at x ++ bytes) (drop (at + n) x),
      length-append (take at x) bytes,
      length-take-le at x (omega (arith, within)),
      length-drop (at + n) x,
    )

AllWithin-more : (calls : List Call) (m n : ℕ) → m ≤ n → AllWithin calls m → AllWithin calls n
AllWithin-more [] m n le all = tt
AllWithin-more (Synced ∷ calls) m n le all = tt
AllWithin-more (Written at k over ∷ calls) m n le all = (omega (arith, all.0, le), AllWithin-more calls m n le all.1)

pub AllWithin-AllFit : (calls : List Call) (x : List ℕ) → AllFit calls x → AllWithin calls (length x)
AllWithin-AllFit [] x fit = tt
AllWithin-AllFit (Synced ∷ calls) x fit = tt
AllWithin-AllFit (Written at n over ∷ calls) x fit =
    let f = fit.0 in
    let no_longer : length (replaced at n over x)
    ≤ length x = omega (arith, length-replaced at n over x f.within, f.within, f.few) in (
      f.within,
      AllWithin-more calls (length (replaced at n over x)) (length x) no_longer
          (AllWithin-AllFit calls (replaced at n over x) fit.1),
    )

-- what is there is an outcome
pub image_now : (calls : List Call) (x : List ℕ) → IsImage calls x x
image_now [] x = refl
image_now (Synced ∷ calls) x = refl
image_now (Written at n _ ∷ calls) x = inl refl

-- the bytes, the calls and the flag after a write
pub sound_written : (at : ℕ) (old piece new over : List ℕ) (calls room after : List Call) (count capacity : ℕ)
    → at ≤ length old → over ≡ take (length piece) (drop at old)
    → Holds old at piece new → AllFit (reverse calls) old → room ≡ calls
    → after ≡ room ++ Written at (length piece) over ∷ [] → count < capacity
    → IsSound new (reverse after) true count capacity
sound_written at old piece new over calls room after count capacity within over_is holds fit same is more =
    let call : Call = Written at (length piece) (take (length piece) (drop at old)) in
    let calls_are : reverse after ≡ call ∷ reverse calls =
    ap reverse (is ∙ (λ i. same i ++ Written at (length piece) (over_is i) ∷ [])) ∙ reverse-append calls (call ∷ []) in
    let fits : AllFit (call ∷ reverse calls) new = (
      fits_written at old piece new within holds,
      subst (λ (l : List ℕ). AllFit (reverse calls) l) (sym (undone_written at old piece new within holds)) fit,
    )
    in
    record {
      waits = ap is_pending (sym calls_are);
      room = λ _. more;
      fit = subst (λ (l : List Call). AllFit l new) (sym calls_are) fits;
    }

-- one call more, which leads from these bytes
pub elapses : (call : Call) (calls : List Call) (x y : List ℕ) → undone call y ≡ x
    → Elapses (length calls) (length (call ∷ calls)) (λ t c. WasImage (length calls - t) calls x c)
    (λ t c. WasImage (length (call ∷ calls) - t) (call ∷ calls) y c) (λ c. IsImage (call ∷ calls) y c)
elapses call calls x y was = record {
  later = omega arith;
  nothing_else =
      λ t c le left. ⊎_elim (λ now. inr now)
      (λ past. inl (subst (λ (l : List ℕ). WasImage (length calls - t) calls l c) was past))
      (subst (λ (n : ℕ). WasImage n (call ∷ calls) y c) (count t le) left);
  keeps =
      λ t c le past. subst (λ (n : ℕ). WasImage n (call ∷ calls) y c) (sym (count t le))
      (inr (subst (λ (l : List ℕ). WasImage (length calls - t) calls l c) (sym was) past));
}
  where
    count : (t : ℕ) → t ≤ length calls → length (call ∷ calls) - t ≡ suc (length calls - t)
    count t le = omega arith

pub elapses_same : (calls : List Call) (x : List ℕ) (may : List ℕ → Type 0)
    → Elapses (length calls) (length calls) (λ t c. WasImage (length calls - t) calls x c)
    (λ t c. WasImage (length calls - t) calls x c) may
elapses_same calls x may =
    record { later = omega arith; nothing_else = λ t c le left. inl left; keeps = λ t c le left. left }

-- after a write, each outcome is an earlier one with the range torn
pub follows_written : (old new : Kept) (at : ℕ) (piece : List ℕ) → at ≤ length old.bytes
    → IsWritten at piece old new → Follows (Torn at (length piece)) (may_leave old) (may_leave new)
follows_written old new at piece within is c now =
    ⊎_elim
    (λ here. (
      old.bytes,
      image_now old.calls old.bytes,
      subst (λ (l : List ℕ). Torn at (length piece) old.bytes l) (sym here)
          (torn_written at old.bytes piece new.bytes within is.bytes),
    ))
    (λ torn. (
      torn.0,
      subst (λ (l : List ℕ). IsImage old.calls l torn.0)
          (undone_written at old.bytes piece new.bytes within is.bytes) torn.1,
      torn.2,
    ))
    (subst (λ (l : List Call). IsImage l new.bytes c) is.calls now)

pub elapses_written : (old new : Kept) (at : ℕ) (piece : List ℕ) → at ≤ length old.bytes
    → IsWritten at piece old new
    → Elapses (moment old) (moment new) (left_since old) (left_since new) (may_leave new)
elapses_written old new at piece within is =
    let call : Call = Written at (length piece) (take (length piece) (drop at old.bytes)) in
    let time = elapses call old.calls old.bytes new.bytes
    (undone_written at old.bytes piece new.bytes within is.bytes) in
    subst
    (λ (l : List Call). Elapses (length old.calls) (length l) (left_since old)
    (λ t c. WasImage (length l - t) l new.bytes c) (λ c. IsImage l new.bytes c)) (sym is.calls) time

pub follows_same : (k : Kept) (at n : ℕ) → Follows (Torn at n) (may_leave k) (may_leave k)
follows_same k at n c now = (c, now, torn_same at n c)

pub elapses_still : (k : Kept) → Elapses (moment k) (moment k) (left_since k) (left_since k) (may_leave k)
elapses_still k = elapses_same k.calls k.bytes (may_leave k)

-- a sync logged, or none where no write waits
sync_elapses : (calls : List Call) (x : List ℕ)
    → Elapses (length calls) (length (synced calls)) (λ t c. WasImage (length calls - t) calls x c)
    (λ t c. WasImage (length (synced calls) - t) (synced calls) x c) (λ c. IsImage (synced calls) x c)
sync_elapses [] x = elapses_same [] x (λ c. IsImage [] x c)
sync_elapses (Synced ∷ calls) x = elapses_same (Synced ∷ calls) x (λ c. IsImage (Synced ∷ calls) x c)
sync_elapses (Written at n over ∷ calls) x = elapses Synced (Written at n over ∷ calls) x x refl

pub elapses_synced : (old new : Kept) → new.bytes ≡ old.bytes → new.calls ≡ synced old.calls
    → Elapses (moment old) (moment new) (left_since old) (left_since new) (may_leave new)
elapses_synced old new bytes calls =
    let P : List ℕ → List Call
    → Type 0 = λ x l. Elapses (length old.calls) (length l) (left_since old)
    (λ t c. WasImage (length l - t) l x c) (λ c. IsImage l x c) in
    subst (λ (x : List ℕ). P x new.calls) (sym bytes)
    (subst (λ (l : List Call). P old.bytes l) (sym calls) (sync_elapses old.calls old.bytes))
