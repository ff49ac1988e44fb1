-- What a disk holds once the power was cut at a step.
use Rattle.std.proofs.Common.{◌≡◌, ◌≤◌, ◌<◌, ◌+◌, ◌-◌, ◌∙◌, ◌⊎◌, inl, inr, ⊎_elim, ap, sym, subst, ℕ, Bool, true}
use Rattle.std.proofs.Common.{false, List, [], ◌∷◌, ◌++◌, refl, arith, length, length-append}
use Rattle.std.specs.Int.{to_be_bytes, w32}
use Rattle.std.specs.Prelude.{Option, Some, Result, Ok, Err, OnErr, IsErrOf, slice_get, unwrap_or}
use Rattle.std.proofs.lemmas.Bool.{cases_lt}
use Rattle.lks_base.specs.declared.records.Record.{Record}
use Rattle.lks_disk.specs.Counts.{raised}
use Rattle.lks_disk.specs.Device.{FuseTold}
use Rattle.lks_disk.specs.Face.{Face, HasLost, fuse_of}
use Rattle.lks_field.proofs.Frames.{frames_push}
use Rattle.lks_field.specs.Frames.{frame, frames, HoldsBodies}
use Rattle.lks_host.proofs.Adding.{bodies_more}
use Rattle.lks_host.proofs.Standing.{fit_behind, read_more}
use Rattle.lks_host.specs.Behaving.{CallsFor}
use Rattle.lks_host.specs.Bodies.{bodies_of, ReadBack, last_batch}
use Rattle.lks_host.specs.Hosted.{StandsFor, LiesOn}
use Rattle.lks_host.specs.Recovering.{Recovers}
use Rattle.lks_host.specs.declared.hosts.Host.{Host}
use Rattle.lks_host.specs.declared.outcomes.Recovered.{Recovered}
use Rattle.lks_host.specs.Cutting.{Falls}
use Rattle.lks_journal.specs.Adding.{HoldsEither, KeepsOrAdds}
use Rattle.lks_journal.specs.Faults.{FuseRun}
use Rattle.lks_journal.specs.declared.faults.JournalFault.{JournalFault}
use Rattle.lks_journal.specs.declared.faults.JournalFault.TheVariants.{Cut}
use Rattle.lks_journal.specs.declared.journals.Journal.{Journal}
use Rattle.lks_law.specs.Batches.{with_batch}
use Rattle.lks_law.specs.Fitting.{AreFitting}
use Rattle.lks_law.specs.Polls.{Station}
use Rattle.lks_record.specs.Spelling.{batch_spelling}

module _ {D : Type 0} (f : Face D) where
  -- a host that stands for its batches still does after a power cut
  pub stays_on : (host : Host D) (disk : D) (batches : List (List Record)) → StandsFor f host batches
      → HasLost f host.journal.disk disk → LiesOn f host.peer.own disk batches
  stays_on host disk batches stood lost = record {
    holds = subst (HoldsBodies (bodies_of batches)) (sym (stood.disk.durable _ lost.left)) stood.disk.holds;
    read = stood.read;
    fit = stood.fit;
  }

  -- one that was cut off has the journal from before, or with the batch in progress where two calls were made
  pub cut_lies : (old new : Host D) (disk : D) (batches : List (List Record)) (records : List Record) (calls : ℕ)
      (result : Result (Unit {0}) JournalFault)
      → StandsFor f old batches → AreFitting old.peer.own old.peer.state records
      → KeepsOrAdds f old.journal new.journal (bodies_of batches) (bodies_of (with_batch batches records))
      result
      → IsErrOf result Cut → f.left old.journal.disk ≡ calls → ReadBack records → HasLost f new.journal.disk disk
      → LiesOn f old.peer.own disk batches ⊎ ((2 ≤ calls) × LiesOn f old.peer.own disk (with_batch batches records))
  cut_lies old new disk batches records calls result stood fit adds cut left read lost = elim (cases_lt calls 2) [
    | inl few ↦ inl (before (adds.early cut (omega (arith, few, left)) _ lost.left))
    | inr two ↦ ⊎_elim (λ holds. inl (before holds)) (λ holds. inr (two, after holds)) (adds.crash _ lost.left)
  ]
    where
      before : HoldsBodies (bodies_of batches) (f.seen disk) → LiesOn f old.peer.own disk batches
      before holds = record { holds = holds; read = stood.read; fit = stood.fit }

      after : HoldsBodies (bodies_of (with_batch batches records)) (f.seen disk)
          → LiesOn f old.peer.own disk (with_batch batches records)
      after holds = record {
        holds = holds;
        read = read_more batches records stood.read read;
        fit = fit_behind old.peer.own old.peer.state batches records stood.state stood.fit fit;
      }

pub on_err : {T F : Type 0} {P : Type 0} (r : Result T F) → P → OnErr r P
on_err (Ok x) p = tt
on_err (Err e) p = p

module _ {D : Type 0} (f : Face D) where
  -- a host that stands for its batches loses its power, and no more is left by what comes after
  pub falls_idle : (host : Host D) (cut disk : D) (batches : List (List Record)) → StandsFor f host batches
      → HasLost f host.journal.disk cut → ((c : List ℕ) → f.may_leave disk c → f.may_leave cut c)
      → Falls f batches batches disk
  falls_idle host cut disk batches stood lost less = record {
    leaves =
        λ c may. inl
        (subst (HoldsBodies (bodies_of batches))
        (sym (lost.durable c (less c may) ∙ stood.disk.durable _ lost.left)) stood.disk.holds);
  }

  -- the same of a step, whatever came of it
  pub falls_cut : (old new : Host D) (cut disk : D) (batches : List (List Record)) (records : List Record)
      (result : Result (Unit {0}) JournalFault)
      → KeepsOrAdds f old.journal new.journal (bodies_of batches) (bodies_of (with_batch batches records)) result
      → HasLost f new.journal.disk cut → ((c : List ℕ) → f.may_leave disk c → f.may_leave cut c)
      → Falls f batches (with_batch batches records) disk
  falls_cut old new cut disk batches records result adds lost less = record {
    leaves =
        λ c may. subst (HoldsEither (bodies_of batches) (bodies_of (with_batch batches records)))
        (sym (lost.durable c (less c may))) (adds.crash _ lost.left);
  }

-- records are one batch more
pub one_more : (batches : List (List Record)) (records : List Record) → (records ≡ [] → ⊥)
    → length (with_batch batches records) ≡ length batches + 1
one_more batches [] some = absurd (some refl)
one_more batches (r ∷ rs) some = length-append batches ((r ∷ rs) ∷ [])

-- and the last one
pub last_more : (batches : List (List Record)) (records : List Record) → (records ≡ [] → ⊥)
    → last_batch (with_batch batches records) ≡ records
last_more batches [] some = absurd (some refl)
last_more batches (r ∷ rs) some =
    let count : length (batches ++ (r ∷ rs) ∷ []) - 1
    ≡ length batches = omega (arith, length-append batches ((r ∷ rs) ∷ [])) in
    ap (λ (n : ℕ). unwrap_or (slice_get (batches ++ (r ∷ rs) ∷ []) n) []) count
    ∙ ap (λ (o : Option (List Record)). unwrap_or o []) (seam batches (r ∷ rs))
  where
    seam : (xs : List (List Record)) (x : List Record) → slice_get (xs ++ x ∷ []) (length xs) ≡ Some x
    seam [] x = refl
    seam (y ∷ ys) x = seam ys x

module _ {D : Type 0} (f : Face D) (back : Host D) (batches : List (List Record)) (records : List Record)
    (calls : ℕ) (found : Recovered) where
  -- the batch in progress is there, where two calls were made
  pub record IsKept : Type 0 where
    pub two : 2 ≤ calls
    pub stands : StandsFor f back (with_batch batches records)
    pub count : found.count ≡ length batches + 1
    pub last : found.last ≡ records

  -- or it isn't
  pub record IsLost : Type 0 where
    pub stands : StandsFor f back batches
    pub count : found.count ≡ length batches

  -- what a recovery found after a cut
  pub cut_read : (mid : Host D) (own : Station) → own ≡ mid.peer.own → (records ≡ [] → ⊥)
      → LiesOn f own mid.journal.disk batches ⊎
      ((2 ≤ calls) × LiesOn f own mid.journal.disk (with_batch batches records))
      → ((bs : List (List Record)) → LiesOn f mid.peer.own mid.journal.disk bs → Recovers f mid back bs (Ok found))
      → IsLost ⊎ IsKept
  cut_read mid own same some either recovers =
      let moved : (bs : List (List Record)) → LiesOn f own mid.journal.disk bs
      → LiesOn f mid.peer.own mid.journal.disk bs = λ bs lies. subst
      (λ (o : Station). LiesOn f o mid.journal.disk bs) same lies in
      elim either [
        | inl lies ↦ let r =
            recovers batches (moved batches lies) in inl (record { stands = r.stands; count = r.count })
        | inr p ↦ let r = recovers (with_batch batches records) (moved (with_batch batches records) p.1) in
            inr
            (record {
              two = p.0;
              stands = r.stands;
              count = r.count ∙ one_more batches records some;
              last = r.last ∙ last_more batches records some;
            })
      ]

  -- the number of batches says which
  pub kept_by_count : (before : ℕ) → IsLost ⊎ IsKept → before ≡ length batches → before < found.count → IsKept
  kept_by_count before either is more = ⊎_elim (λ l. absurd (omega (arith, l.count, is, more))) (λ k. k) either

  pub lost_by_count : (before : ℕ) → IsLost ⊎ IsKept → before ≡ length batches → found.count ≤ before → IsLost
  lost_by_count before either is few = ⊎_elim (λ l. l) (λ k. absurd (omega (arith, k.count, is, few))) either

-- a call that wasn't cut off burned no fuse
pub none_burned : {T : Type 0} (calls : ℕ) (old new : FuseTold) (result : Result T JournalFault)
    → FuseRun calls old new result → old.burned ≡ false → (IsErrOf result Cut → ⊥) → new.burns ≡ old.burns
none_burned calls old new result run whole uncut = by_state new.burned refl
  where
    by_state : (b : Bool) → new.burned ≡ b → new.burns ≡ old.burns
    by_state true burned = absurd (uncut (run.ends whole burned))
    by_state false still = run.no_burn (still ∙ sym whole)

-- the same of what a step adds
pub burns_kept : {D : Type 0} (f : Face D) (old new : Journal D) (records : List Record)
    (result : Result (Unit {0}) JournalFault)
    → CallsFor f old new records result → f.burned old.disk ≡ false → (IsErrOf result Cut → ⊥)
    → f.burns new.disk ≡ f.burns old.disk
burns_kept f old new [] result calls whole uncut = ap (λ j. f.burns j.disk) (calls.idle refl)
burns_kept f old new (r ∷ rs) result calls whole uncut =
    none_burned 4 (fuse_of f old.disk) (fuse_of f new.disk) result (calls.called (λ e. cc)).fuse whole uncut

pub none_or_some : (records : List Record) → (records ≡ []) ⊎ (records ≡ [] → ⊥)
none_or_some [] = inl refl
none_or_some (r ∷ rs) = inr (λ e. cc)

-- a short batch makes the journal little longer
pub little_longer : {D : Type 0} (f : Face D) (old new : Host D) (batches : List (List Record))
    (records : List Record)
    → StandsFor f old batches → StandsFor f new (with_batch batches records)
    → ((records ≡ [] → ⊥) → length (batch_spelling records) ≤ 32763) → new.journal.end ≤ old.journal.end + 32768
little_longer f old new batches [] stood stands short = omega (arith, stood.disk.end, stands.disk.end)
little_longer f old new batches (r ∷ rs) stood stands short =
    let body = batch_spelling (r ∷ rs) in
    let ends : new.journal.end ≡ length (frames (bodies_of batches ++ body ∷ [])) =
    stands.disk.end ∙ ap (λ (bs : List (List ℕ)). length (frames bs)) (sym (bodies_more batches (r ∷ rs) (λ e. cc))) in
    omega (
      arith,
      stood.disk.end,
      ends,
      ap length (frames_push (bodies_of batches) body),
      length-append (frames (bodies_of batches)) (frame body),
      frame_length body,
      short (λ e. cc),
    )
  where
    frame_length : (body : List ℕ) → length (frame body) ≡ 5 + length body
    frame_length body = omega (arith, length-append (to_be_bytes w32 (length body)) body)

-- a count that was raised, from the same to the same
pub raised_between : (a b c d : ℕ) → b ≡ a → c ≡ raised b → d ≡ c → d ≡ raised a
raised_between a b c d first once last = last ∙ once ∙ ap raised first
