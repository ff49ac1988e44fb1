-- Disks that are read back one after another.
use Rattle.std.proofs.Common.{◌≡◌, ◌≤◌, ◌<◌, ◌+◌, ◌∙◌, ap, sym, subst, ℕ, false, true≢false, zero, suc, List, [], ◌∷◌}
use Rattle.std.proofs.Common.{◌++◌, length, get_or, drop, refl, arith, append_assoc}
use Rattle.std.proofs.lemmas.List.{append-nil}
use Rattle.std.proofs.lemmas.List.Elements.{All-nil, All-cons}
use Rattle.std.specs.Prelude.{All, Option, Some, None, Result, Ok, Err, IsErrOf, IsErrAnd, slice_get, slice_set}
use Rattle.std.specs.List.{insert, remove}
use Rattle.lks_disk.specs.Face.{Face}
use Rattle.lks_world.specs.declared.faults.WorldFault.{WorldFault}
use Rattle.lks_world.proofs.CountLaws.{rose_from, some_is}
use Rattle.lks_world.specs.Counts.{fault_in}
use Rattle.lks_world.specs.declared.faults.WorldFault.TheVariants.{Disk}
use Rattle.lks_world.specs.declared.faults.WorldFault.TheVariants as wanting
use Rattle.lks_field.specs.Frames.{AreBodies, HoldsBodies}
use Rattle.lks_gather.specs.Texts.{Filed}
use Rattle.lks_journal.specs.Called.{Called}
use Rattle.lks_journal.specs.Stays.{Stays}
use Rattle.lks_journal.specs.declared.faults.JournalFault.{JournalFault}
use Rattle.lks_journal.specs.declared.faults.JournalFault.TheVariants.{Cut}
use Rattle.lockss.specs.ReadingBack.{AreOn, AreReopened, IsJournal, IsReadAt, IsReopened, ReadsBack}

-- what is taken out of a list and put back is in its place
pub put_in_place : {X : Type 0} (xs : List X) (i : ℕ) (x : X) → i < length xs
    → insert (remove xs i) i x ≡ slice_set xs i x
put_in_place [] i x lt = absurd (omega (arith, lt))
put_in_place (y ∷ ys) zero x lt = refl
put_in_place (y ∷ ys) (suc i) x lt = ap (λ (l : List _). y ∷ l) (put_in_place ys i x (omega (arith, lt)))

-- the fault of an answer
pub err_fault : {T : Type 0} (r : Result T WorldFault) (fault : WorldFault) → IsErrAnd r (λ e. e ≡ fault) → (id : ℕ)
    → fault_in r ≡ Some (Disk id) → fault ≡ Disk id
err_fault (Ok x) fault is id named = absurd is
err_fault (Err e) fault is id named = sym is ∙ some_is named

pub wants_memory : {T : Type 0} (r : Result T WorldFault) → IsErrAnd r (λ e. e ≡ wanting.Memory) → (id : ℕ)
    → fault_in r ≡ Some (Disk id) → ⊥
wants_memory r is id named = let e = err_fault r wanting.Memory is id named in absurd cc

pub get_is : {X : Type 0} (xs : List X) (i : ℕ) (x : X) → i < length xs → x ≡ get_or xs i x → slice_get xs i ≡ Some x
get_is [] i x lt is = absurd (omega (arith, lt))
get_is (y ∷ ys) zero x lt is = ap Some (sym is)
get_is (y ∷ ys) (suc i) x lt is = get_is ys i x (omega (arith, lt)) is

pub named_at : {X : Type 0} (xs : List X) (i : ℕ) (d x : X) → i < length xs → get_or xs i d ≡ x
    → slice_get xs i ≡ Some x
named_at [] i d x lt is = absurd (omega (arith, lt))
named_at (y ∷ ys) zero d x lt is = ap Some is
named_at (y ∷ ys) (suc i) d x lt is = named_at ys i d x (omega (arith, lt)) is

pub none_named : {X : Type 0} (xs : List (Option X)) (i : ℕ) → i < length xs
    → ((x : X) → get_or xs i None ≡ Some x → ⊥) → slice_get xs i ≡ Some None
none_named [] i lt none = absurd (omega (arith, lt))
none_named (None ∷ ys) zero lt none = refl
none_named (Some x ∷ ys) zero lt none = absurd (none x refl)
none_named (y ∷ ys) (suc i) lt none = none_named ys i (omega (arith, lt)) none

there_at : {X : Type 0} (xs : List X) (i : ℕ) → i < length xs → (x : X) × (slice_get xs i ≡ Some x)
there_at [] i lt = absurd (omega (arith, lt))
there_at (y ∷ ys) zero lt = (y, refl)
there_at (y ∷ ys) (suc i) lt = there_at ys i (omega (arith, lt))

module _ {D : Type 0} (f : Face D) where
  -- what was read holds what it held
  pub still_journal : (d e : D) → IsReopened f d e → IsJournal f d → IsJournal f e
  still_journal d e is had =
      record {
        bodies = had.bodies;
        holds = subst (HoldsBodies had.bodies) (sym is.bytes) had.holds;
        unfused = is.fused ∙ had.unfused;
      }

  pub reopened_same : (d : D) → IsReopened f d d
  reopened_same d =
      record {
        bytes = refl;
        crash = λ c leaves. leaves;
        later = omega arith;
        fused = refl;
        calls = refl;
        choice = refl;
        burns = refl;
        cuts = refl;
      }

  pub reopened_then : (a b c : D) → IsReopened f a b → IsReopened f b c → IsReopened f a c
  reopened_then a b c first next = record {
    bytes = next.bytes ∙ first.bytes;
    crash = λ x leaves. first.crash x (next.crash x leaves);
    later = omega (arith, first.later, next.later);
    fused = next.fused ∙ first.fused;
    calls = next.calls ∙ first.calls;
    choice = next.choice ∙ first.choice;
    burns = next.burns ∙ first.burns;
    cuts = next.cuts ∙ first.cuts;
  }

  -- none was read yet
  pub none_reopened : (owners : List (Option ℕ)) (ds : List D) → length owners ≤ length ds → AreReopened f owners ds ds
  none_reopened [] ds enough = refl
  none_reopened (o ∷ owners) [] enough = absurd (omega (arith, enough))
  none_reopened (None ∷ owners) (d ∷ ds) enough = (refl, none_reopened owners ds (omega (arith, enough)))
  none_reopened (Some id ∷ owners) (d ∷ ds) enough = (reopened_same d, none_reopened owners ds (omega (arith, enough)))

  -- one more was
  pub one_reopened : (owners : List (Option ℕ)) (ds es : List D) (place id : ℕ) (e x : D)
      → AreReopened f owners ds es → slice_get owners place ≡ Some (Some id) → slice_get es place ≡ Some e
      → IsReopened f e x
      → AreReopened f owners ds (slice_set es place x)
  one_reopened [] ds es place id e x are named at is = absurd cc
  one_reopened (o ∷ owners) [] es place id e x are named at is = absurd are
  one_reopened (o ∷ owners) (d ∷ ds) [] place id e x are named at is = absurd cc
  one_reopened (None ∷ owners) (d ∷ ds) (y ∷ es) zero id e x are named at is =
      let no : None ≡ Some id = some_is named in absurd cc
  one_reopened (Some k ∷ owners) (d ∷ ds) (y ∷ es) zero id e x are named at is =
      (reopened_then d y x are.0 (subst (λ z. IsReopened f z x) (sym (some_is at)) is), are.1)
  one_reopened (None ∷ owners) (d ∷ ds) (y ∷ es) (suc place) id e x are named at is =
      (are.0, one_reopened owners ds es place id e x are.1 named at is)
  one_reopened (Some k ∷ owners) (d ∷ ds) (y ∷ es) (suc place) id e x are named at is =
      (are.0, one_reopened owners ds es place id e x are.1 named at is)

  -- a disk that is owned is one that was read, or not yet
  pub reopened_at : (owners : List (Option ℕ)) (ds es : List D) (place id : ℕ) (e : D) → AreReopened f owners ds es
      → slice_get owners place ≡ Some (Some id) → slice_get es place ≡ Some e
      → (d : D) × (slice_get ds place ≡ Some d) × IsReopened f d e
  reopened_at [] ds es place id e are named at = absurd cc
  reopened_at (o ∷ owners) [] es place id e are named at = absurd are
  reopened_at (o ∷ owners) (d ∷ ds) [] place id e are named at = absurd cc
  reopened_at (None ∷ owners) (d ∷ ds) (y ∷ es) zero id e are named at =
      let no : None ≡ Some id = some_is named in absurd cc
  reopened_at (Some k ∷ owners) (d ∷ ds) (y ∷ es) zero id e are named at =
      (d, refl, subst (IsReopened f d) (some_is at) are.0)
  reopened_at (None ∷ owners) (d ∷ ds) (y ∷ es) (suc place) id e are named at =
      reopened_at owners ds es place id e are.1 named at
  reopened_at (Some k ∷ owners) (d ∷ ds) (y ∷ es) (suc place) id e are named at =
      reopened_at owners ds es place id e are.1 named at

  -- what was read so far, with more from this place on, is what is there
  abbrev pub Leads : List (Option ℕ) → List D → ℕ → List Filed → Type 0
  Leads owners ds place js =
      (more : List Filed) → AreOn f (drop place owners) (drop place ds) more → AreOn f owners ds (js ++ more)

  drop_suc : {X : Type 0} (xs : List X) (i : ℕ) (x : X) → slice_get xs i ≡ Some x → drop i xs ≡ x ∷ drop (suc i) xs
  drop_suc [] i x at = absurd cc
  drop_suc (y ∷ ys) zero x at = ap (λ z. z ∷ ys) (some_is at)
  drop_suc (y ∷ ys) (suc i) x at = drop_suc ys i x at

  drop_get : {X : Type 0} (xs : List X) (i : ℕ) (x : X) → slice_get xs i ≡ Some x → drop i xs ≡ x ∷ drop (i + 1) xs
  drop_get xs i x at = let e : suc i ≡ i + 1 = omega arith in drop_suc xs i x at ∙ ap (λ n. x ∷ drop n xs) e

  pub leads_past : (owners : List (Option ℕ)) (ds : List D) (place : ℕ) (js : List Filed) (d : D)
      → Leads owners ds place js → slice_get owners place ≡ Some None → slice_get ds place ≡ Some d
      → Leads owners ds (place + 1) js
  leads_past owners ds place js d leads named at = λ more on.
      leads more
      (subst (λ (os : List (Option ℕ)). AreOn f os (drop place ds) more)
      (sym (drop_get owners place None named))
      (subst (λ (xs : List D). AreOn f (None ∷ drop (place + 1) owners) xs more) (sym (drop_get ds place d at)) on))

  pub leads_more : (owners : List (Option ℕ)) (ds : List D) (place id : ℕ) (js : List Filed) (j : Filed) (d : D)
      → Leads owners ds place js → slice_get owners place ≡ Some (Some id) → slice_get ds place ≡ Some d
      → j.peer ≡ id → HoldsBodies j.bodies (f.seen d) → Leads owners ds (place + 1) (js ++ j ∷ [])
  leads_more owners ds place id js j d leads named at is holds = λ more on.
      subst (AreOn f owners ds) (sym (append_assoc js (j ∷ []) more))
      (leads (j ∷ more)
      (subst (λ (os : List (Option ℕ)). AreOn f os (drop place ds) (j ∷ more))
      (sym (drop_get owners place (Some id) named))
      (subst (λ (xs : List D). AreOn f (Some id ∷ drop (place + 1) owners) xs (j ∷ more))
      (sym (drop_get ds place d at)) (is, holds, on))))

  pub leads_whole : (owners : List (Option ℕ)) (ds : List D) (place : ℕ) (js : List Filed) → length owners ≤ place
      → Leads owners ds place js → AreOn f owners ds js
  leads_whole owners ds place js end leads =
      subst (AreOn f owners ds) (append-nil js)
      (leads []
      (subst (λ (os : List (Option ℕ)). AreOn f os (drop place ds) []) (sym (drop_past owners place end)) tt))
    where
      drop_past : {X : Type 0} (xs : List X) (i : ℕ) → length xs ≤ i → drop i xs ≡ []
      drop_past [] i le = drop_nil i
        where
          drop_nil : {X : Type 0} (i : ℕ) → drop {A = X} i [] ≡ []
          drop_nil zero = refl
          drop_nil (suc i) = refl
      drop_past (x ∷ xs) zero le = absurd (omega (arith, le))
      drop_past (x ∷ xs) (suc i) le = drop_past xs i (omega (arith, le))

  -- the bodies that a journal holds are bodies
  pub are_bodies : (owners : List (Option ℕ)) (ds : List D) (js : List Filed) → AreOn f owners ds js
      → All (λ j. AreBodies j.bodies) js
  are_bodies [] ds [] on = All-nil (λ (j : Filed). AreBodies j.bodies)
  are_bodies [] ds (j ∷ js) on = absurd on
  are_bodies (o ∷ owners) [] js on = absurd on
  are_bodies (None ∷ owners) (d ∷ ds) js on = are_bodies owners ds js on
  are_bodies (Some id ∷ owners) (d ∷ ds) [] on = absurd on
  are_bodies (Some id ∷ owners) (d ∷ ds) (j ∷ js) on =
      All-cons (λ (j : Filed). AreBodies j.bodies) j js on.1.are (are_bodies owners ds js on.2)

  -- a disk without a fuse, whose journal was read
  pub reopened_by : {T : Type 0} (old new : D) (result : Result T JournalFault) → f.fused old ≡ false
      → Stays f old new → Called f 1 old new result → IsReopened f old new
  reopened_by old new result unfused stays called = record {
    bytes = stays.bytes;
    crash = stays.crash;
    later = called.cause.later;
    fused = called.fuse.stays_set;
    calls = called.fuse.same_calls;
    choice = called.fuse.same_choice;
    burns = called.fuse.unset unfused;
    cuts = called.fuse.same_cuts;
  }

  -- it isn't cut off
  pub uncut_by : {T : Type 0} (old new : D) (result : Result T JournalFault) → f.fused old ≡ false
      → Called f 1 old new result → IsErrOf result Cut → ⊥
  uncut_by old new result unfused called is = true≢false (sym (called.fuse.cut is).0 ∙ unfused)

  -- one more disk was read, which failed or didn't
  pub reads_one : (owners : List (Option ℕ)) (ds es xs : List D) (place id : ℕ) (result : Result Filed WorldFault)
      (fault : Option WorldFault)
      → AreReopened f owners ds es → slice_get owners place ≡ Some (Some id) → IsReadAt f id place es xs result
      → ((peer : ℕ) → fault ≡ Some (Disk peer) → IsErrOf result (Disk peer)) → ReadsBack f owners ds xs fault
  reads_one owners ds es xs place id result fault are named at failed = record {
    are =
        subst (AreReopened f owners ds) (sym at.back)
        (one_reopened owners ds es place id at.disk at.now are named at.there at.read);
    cause = λ peer is.
        let cause = at.cause peer (failed peer is) in
        let had = reopened_at owners ds es place id at.disk are named at.there in
        record {
          place = place;
          disk = had.0;
          now = at.now;
          named = named ∙ ap (λ (n : ℕ). Some (Some n)) cause.0;
          there = had.1;
          stays = ap (λ (l : List D). slice_get l place) at.back ∙ set_there es place at.disk at.now at.there;
          rose = rose_from (f.faults had.0) (f.faults at.disk) (f.faults at.now) had.2.later cause.1;
        };
  }
    where
      set_there : (es : List D) (i : ℕ) (d x : D) → slice_get es i ≡ Some d → slice_get (slice_set es i x) i ≡ Some x
      set_there [] i d x at = absurd cc
      set_there (e ∷ es) zero d x at = refl
      set_there (e ∷ es) (suc i) d x at = set_there es i d x at

  -- past a disk that nobody owns
  pub leads_by : (owners : List (Option ℕ)) (ds : List D) (place : ℕ) (js : List Filed) → length owners ≤ length ds
      → place < length owners → Leads owners ds place js → slice_get owners place ≡ Some None
      → Leads owners ds (place + 1) js
  leads_by owners ds place js enough lt leads named =
      let d = there_at ds place (omega (arith, enough, lt)) in
      leads_past owners ds place js d.0 leads named d.1

  -- what was read is what the disk held at first
  pub leads_with : (owners : List (Option ℕ)) (ds es xs : List D) (place id : ℕ) (js : List Filed) (j : Filed)
      → AreReopened f owners ds es → slice_get owners place ≡ Some (Some id) → IsReadAt f id place es xs (Ok j)
      → Leads owners ds place js
      → Leads owners ds (place + 1) (js ++ j ∷ [])
  leads_with owners ds es xs place id js j are named at leads =
      let had = reopened_at owners ds es place id at.disk are named at.there in
      leads_more owners ds place id js j had.0 leads named had.1 at.filed.0
      (subst (HoldsBodies j.bodies) had.2.bytes at.filed.1)
