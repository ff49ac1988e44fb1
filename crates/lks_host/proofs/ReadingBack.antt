-- Batches are read back from their bodies.
use Rattle.std.proofs.Common.{◌≡◌, ◌∙◌, ◌<◌, ◌+◌, ◌-◌, ap, sym, subst, ℕ, zero, suc, List, [], ◌∷◌, ◌++◌, length}
use Rattle.std.proofs.Common.{get_or, drop, refl, append_assoc}
use Rattle.std.proofs.lemmas.Option.{slice_get-map}
use Rattle.std.specs.Prelude.{Option, Some, None, Result, Ok, Err, OnOk, option_map, slice_get, unwrap_or}
use Rattle.std.proofs.lemmas.List.{append-nil, drop_more, length-map}
use Rattle.lks_base.specs.declared.records.Record.{Record}
use Rattle.lks_disk.specs.Face.{Face}
use Rattle.lks_host.specs.Hosted.{StandsFor, LiesOn}
use Rattle.lks_host.specs.declared.hosts.Host.{Host}
use Rattle.lks_field.proofs.Once.{held_once, not_both}
use Rattle.lks_journal.specs.Faults.{IsOfDisk}
use Rattle.lks_field.specs.Frames.{HoldsBodies, IsDamagedAt}
use Rattle.lks_journal.specs.Settled.{IsSettled}
use Rattle.lks_journal.specs.declared.faults.JournalFault.{JournalFault}
use Rattle.lks_journal.specs.declared.faults.JournalFault.TheVariants.{Full, Damaged}
use Rattle.lks_journal.specs.declared.faults.JournalFault.TheVariants as journal
use Rattle.lks_law.specs.Fitting.{AreFitting}
use Rattle.lks_law.specs.Polls.{Station}
use Rattle.lks_law.specs.State.{state_of, blank}
use Rattle.lks_host.specs.Bodies.{bodies_of, AreRead, with_front, read_on, records_of, records_at, last_of, last_batch}
use Rattle.lks_law.specs.Batches.{together}
use Rattle.lks_record.specs.Reading.{decode_of, Gives, Fails}
use Rattle.lks_record.specs.Spelling.{batch_spelling}
use Rattle.lks_record.specs.declared.fault.RecFault.{RecFault}
use Rattle.lks_record.specs.declared.fault.RecFault.TheVariants.{Short, Form, Tag, Limit, Trailing, Memory}

pub read_last : (list : List Record) → with_front list (records_of []) ≡ Ok list
unfolding records_of
read_last list = ap Ok (append-nil list)

fronts : (front more : List Record) (r : Result (List Record) RecFault)
    → with_front front (with_front more r) ≡ with_front (front ++ more) r
fronts front more (Ok list) = ap Ok (sym (append_assoc front more list))
fronts front more (Err fault) = refl

pub read_next : (front batch : List Record) (body : List ℕ) (bodies : List (List ℕ)) → decode_of body ≡ Ok batch
    → with_front front (records_of (body ∷ bodies)) ≡ with_front (front ++ batch) (records_of bodies)
unfolding records_of
read_next front batch body bodies is =
    ap (λ (r : Result (List Record) RecFault). with_front front (read_on r (records_of bodies))) is
    ∙ fronts front batch (records_of bodies)

pub read_fault : (front : List Record) (fault : RecFault) (body : List ℕ) (bodies : List (List ℕ))
    → decode_of body ≡ Err fault → with_front front (records_of (body ∷ bodies)) ≡ Err fault
unfolding records_of
read_fault front fault body bodies is =
    ap (λ (r : Result (List Record) RecFault). with_front front (read_on r (records_of bodies))) is

-- what was written is read
pub read_together : (batches : List (List Record)) → AreRead batches
    → records_of (bodies_of batches) ≡ Ok (together batches)
unfolding records_of
read_together [] read = refl
read_together (b ∷ bs) read =
    ap (λ (r : Result (List Record) RecFault). read_on r (records_of (bodies_of bs))) read.0
    ∙ ap (with_front b) (read_together bs read.1)

-- the first body of those that are left
pub next_body : (bodies : List (List ℕ)) (i : ℕ) (body : List ℕ) → i < length bodies → body ≡ get_or bodies i body
    → drop i bodies ≡ body ∷ drop (i + 1) bodies
next_body bodies i body lt is = drop_more bodies i body lt ∙ ap (λ (b : List ℕ). b ∷ drop (i + 1) bodies) (sym is)

-- a body that isn't read ends it
pub read_ends : {X : Type 0} (view : X → List Record) (r : Result X RecFault) (front : List Record) (body : List ℕ)
    (bodies whole : List (List ℕ))
    → OnOk r ⊥ → Gives view r (decode_of body)
    → with_front front (records_of (body ∷ bodies)) ≡ records_of whole → Gives view r (records_of whole)
read_ends view (Ok x) front body bodies whole never given is = absurd never
read_ends view (Err Short) front body bodies whole never given is = sym is ∙ read_fault front Short body bodies given
read_ends view (Err Form) front body bodies whole never given is = sym is ∙ read_fault front Form body bodies given
read_ends view (Err Tag) front body bodies whole never given is = sym is ∙ read_fault front Tag body bodies given
read_ends view (Err Limit) front body bodies whole never given is = sym is ∙ read_fault front Limit body bodies given
read_ends view (Err Trailing) front body bodies whole never given is =
    sym is ∙ read_fault front Trailing body bodies given
read_ends view (Err Memory) front body bodies whole never given is = tt

apart : (read : Result (List Record) RecFault) (list : List Record) (fault : RecFault) → read ≡ Ok list
    → read ≡ Err fault → ⊥
apart read list fault good bad = differ (sym good ∙ bad)
  where
    differ : Ok list ≡ Err fault → ⊥
    differ e = cc

-- batches that read back are read, unless memory is missing
pub only_memory : (fault : RecFault) (read : Result (List Record) RecFault) (list : List Record) → Fails fault read
    → read ≡ Ok list → fault ≡ Memory
only_memory Short read list failed is = absurd (apart read list Short is failed)
only_memory Form read list failed is = absurd (apart read list Form is failed)
only_memory Tag read list failed is = absurd (apart read list Tag is failed)
only_memory Limit read list failed is = absurd (apart read list Limit is failed)
only_memory Trailing read list failed is = absurd (apart read list Trailing is failed)
only_memory Memory read list failed is = refl

pub one_list : (r : Result (List Record) RecFault) (a b : List Record) → r ≡ Ok a → r ≡ Ok b → a ≡ b
one_list r a b first second = let e = sym first ∙ second in cc

-- what a journal says of a disk that holds bodies
pub of_disk : (fault : JournalFault) (bodies : List (List ℕ)) (file : List ℕ) → (fault ≡ Full → ⊥)
    → ((offset : ℕ) → fault ≡ Damaged offset → IsDamagedAt file offset) → HoldsBodies bodies file
    → IsOfDisk {T = Unit {0}} (Err fault)
of_disk Full bodies file not_full damaged holds = not_full refl
of_disk (Damaged offset) bodies file not_full damaged holds = not_both bodies file offset holds (damaged offset refl)
of_disk journal.Failed bodies file not_full damaged holds = tt
of_disk journal.Cut bodies file not_full damaged holds = tt
of_disk journal.Memory bodies file not_full damaged holds = tt

-- the batches that a disk holds are those of the bodies that were found
pub same_batches : {D : Type 0} (f : Face D) (own : Station) (disk : D) (batches : List (List Record))
    (bodies : List (List ℕ))
    → LiesOn f own disk batches → HoldsBodies bodies (f.seen disk) → bodies ≡ bodies_of batches
same_batches f own disk batches bodies lies found = held_once bodies (bodies_of batches) (f.seen disk) found lies.holds

-- a host whose journal was read again
pub stands_again : {D : Type 0} (f : Face D) (host : Host D) (own : Station) (disk : D)
    (batches : List (List Record)) (bodies : List (List ℕ))
    → LiesOn f own disk batches
    → bodies ≡ bodies_of batches → host.peer.own ≡ own → host.peer.state ≡ state_of own (together batches)
    → IsSettled f host.journal bodies → StandsFor f host batches
stands_again f host own disk batches bodies lies same same_own whole settled = record {
  state = whole ∙ ap (λ (o : Station). state_of o (together batches)) (sym same_own);
  disk = subst (IsSettled f host.journal) same settled;
  read = lies.read;
  fit = subst (λ (o : Station). AreFitting o (blank o) (together batches)) (sym same_own) lies.fit;
}

-- a disk of which no byte changed holds the same batches
pub lies_still : {D : Type 0} (f : Face D) (own : Station) (old new : D) (batches : List (List Record))
    → LiesOn f own old batches → f.seen new ≡ f.seen old → LiesOn f own new batches
lies_still f own old new batches lies same = record {
  holds = subst (HoldsBodies (bodies_of batches)) (sym same) lies.holds;
  read = lies.read;
  fit = lies.fit;
}

-- the batch at a place is read back
read_at : (batches : List (List Record)) (i : ℕ) (b : List Record) → AreRead batches → slice_get batches i ≡ Some b
    → decode_of (batch_spelling b) ≡ Ok b
read_at [] i b read is = absurd cc
read_at (x ∷ xs) zero b read is =
    let same : x ≡ b = cc in subst (λ (y : List Record). decode_of (batch_spelling y) ≡ Ok y) same read.0
read_at (x ∷ xs) (suc i) b read is = read_at xs i b read.1 is

-- and the last one too
pub last_read : (batches : List (List Record)) → AreRead batches → last_of (bodies_of batches) ≡ Ok (last_batch batches)
unfolding last_of
last_read batches read =
    ap (λ (n : ℕ). records_at (slice_get (bodies_of batches) (n - 1))) (length-map batches batch_spelling)
    ∙ ap records_at (slice_get-map batch_spelling batches (length batches - 1))
    ∙ there (slice_get batches (length batches - 1)) refl
  where
    there : (o : Option (List Record)) → slice_get batches (length batches - 1) ≡ o
        → records_at (option_map batch_spelling o) ≡ Ok (unwrap_or o [])
    there None is = refl
    there (Some b) is = read_at batches (length batches - 1) b read is
