-- What holds of each set that is read: its journals are of different honest peers, short, and their records are in
-- their limits.
use Rattle.std.proofs.Common.{◌≡◌, ◌==◌, ◌&&◌, ◌||◌, ◌+◌, ◌≤◌, ℕ, suc, Bool, true, false, cond, not, List, [], ◌∷◌}
use Rattle.std.proofs.Common.{◌++◌, length, map, Option, Some, None, Result, Ok, Err, refl, sym, ap, subst, ◌∙◌}
use Rattle.std.proofs.Common.{arith, append_assoc, length-append, zero, take}
use Rattle.std.specs.Cmp.{nat_eq_equiv}
use Rattle.std.specs.List.{All, flat_map, list_any, onto_first, IsDistinct}
use Rattle.std.specs.Prelude.{nat_eq, codes, IfOk}
use Rattle.std.specs.Str.{bytes_eq}
use Rattle.std.proofs.lemmas.Bool.{and_parts, eqb-true}
use Rattle.std.proofs.lemmas.List.{append-nil, length-map, map-append}
use Rattle.std.proofs.lemmas.List.Elements.{All-nil, All-cons, All-head, All-tail, All-push, All-append, All-weaker}
use Rattle.std.proofs.lemmas.Map.Keys.{IsDistinct-push}
use Rattle.std.proofs.lemmas.Map.Made.{length-le_from_is_member}
use Rattle.hex.specs.Hex.{decode_of}
use Rattle.hex.specs.declared.error.FromHexError.{FromHexError}
use Rattle.hex.proofs.HexLemmas.{decode_of-ok}
use Rattle.lks_base.specs.Checking.{has_honest, plan_fault}
use Rattle.lks_base.specs.declared.plans.PeerPlan.{PeerPlan}
use Rattle.lks_base.specs.declared.plans.Plan.{Plan}
use Rattle.lks_base.specs.declared.records.Record.{Record}
use Rattle.lks_base.specs.declared.records.Record.TheVariants.{Deposit, PollOpened, Nominated, OuterOpened, VoteIn}
use Rattle.lks_base.specs.declared.records.Record.TheVariants.{Shut, Asked, RepairBad, Replaced, Closed, Overdue}
use Rattle.lks_base.specs.declared.records.Record.TheVariants.{Joined, Committed, Voted, Served, Ended, Tuned}
use Rattle.lks_field.specs.Frames.{frame, frames}
use Rattle.lks_record.specs.Spelling.{spelling, batch_spelling, IsInLimits, IsBatch}
use Rattle.std.specs.Prelude.{slice_get}
use Rattle.lks_evidence.specs.Rules.{is_new}
use Rattle.lks_evidence.specs.Sizes.{most_records, IsShort, IsSmall}
use Rattle.lks_evidence.specs.declared.findings.Shelf.{Shelf}
use Rattle.lks_print.proofs.Heads.{is_good}
use Rattle.lks_script.specs.Grammar.{means_nothing, line_number, script_of}
use Rattle.lks_script.specs.declared.faults.ScriptFault.{ScriptFault}
use Rattle.lks_script.specs.declared.steps.Script.{Script}
use Rattle.lks_script.proofs.Sound.{plan_is_good}
use Rattle.lks_words.specs.Numbers.{◌>>=◌}
use Rattle.lks_words.specs.Words.{parts, id_in}
use Rattle.lks_words.proofs.Steps.{bind_some, if_some, if_else, some, same_some}
use Rattle.lks_gather.specs.declared.gathered.Gathered.{Gathered}
use Rattle.lks_gather.specs.Framed.{journal_in, Spells}
use Rattle.lks_gather.specs.Sets.{Book, Said, is_journal_at, script_from, journals_from, list_in, may_keep}
use Rattle.lks_gather.specs.Sets.{books_with, journal_line, with_book, books_end, books_in, with_books, with_script}
use Rattle.lks_gather.specs.Sets.{set_of, book_on, said_by, HaveNewPeers, Tells}
use Rattle.lks_gather.specs.Texts.{IsSaidPlan}
use Rattle.lks_print.proofs.FromReading.{said_script}
use Rattle.lks_gather.proofs.Journals.{has_book_on}
use Rattle.lks_gather.proofs.Spelled.{read_is_spelled}

-- ---- no more records than bytes

some_bytes : (r : Record) → 1 ≤ length (spelling r)
unfolding spelling
some_bytes (Deposit au blocks) = omega arith
some_bytes (PollOpened number au nonce inner tick limits kind) = omega arith
some_bytes (Nominated number voter nominees) = omega arith
some_bytes (OuterOpened number outer) = omega arith
some_bytes (VoteIn number voter hashes) = omega arith
some_bytes (Shut number) = omega arith
some_bytes (Asked number block voter) = omega arith
some_bytes (RepairBad number block voter) = omega arith
some_bytes (Replaced number au block bytes) = omega arith
some_bytes (Closed number outcome tick) = omega arith
some_bytes (Overdue au tick) = omega arith
some_bytes (Joined poll au tick low repairs) = omega arith
some_bytes (Committed poll nonce version kind) = omega arith
some_bytes (Voted poll hashes) = omega arith
some_bytes (Served poll block) = omega arith
some_bytes (Ended poll) = omega arith
some_bytes (Tuned quorum minority repairs) = omega arith

few_records : (batch : List Record) → length batch ≤ length (flat_map spelling batch)
few_records [] = omega arith
few_records (r ∷ batch) =
    omega (arith, some_bytes r, few_records batch, length-append (spelling r) (flat_map spelling batch))

few_in_frames : (batches : List (List Record))
    → length (flat_map (λ batch. batch) batches) ≤ length (frames (map batch_spelling batches))
unfolding frames
few_in_frames [] = omega arith
few_in_frames (batch ∷ batches) =
    let body = batch_spelling batch in
    omega (
      arith,
      few_records batch,
      few_in_frames batches,
      length-append batch (flat_map (λ b. b) batches),
      length-append (frame body) (frames (map batch_spelling batches)),
    )

all_within : (batches : List (List Record)) → All IsBatch batches → All IsInLimits (flat_map (λ batch. batch) batches)
all_within [] h = All-nil IsInLimits
all_within (batch ∷ batches) h =
    All-append IsInLimits batch (flat_map (λ b. b) batches) (All-head IsBatch batch batches h).1
    (all_within batches (All-tail IsBatch batch batches h))

pub few_spelled : (file : List ℕ) (list : List Record) → Spells file list → length list ≤ length file
few_spelled file list s =
    omega (
      arith,
      few_in_frames s.batches,
      ap length s.list_is,
      ap length s.file_is,
      length-append (frames (map batch_spelling s.batches)) (0 ∷ []),
    )

pub within_spelled : (file : List ℕ) (list : List Record) → Spells file list → All IsInLimits list
within_spelled file list s = subst (All IsInLimits) (sym s.list_is) (all_within s.batches s.are)

-- ---- texts that are no longer than this

abbrev pub AreShorter : ℕ → List (List ℕ) → Type 0
AreShorter most [] = Unit {0}
AreShorter most (text ∷ texts) = (length text ≤ most) × AreShorter most texts

looser : (most more : ℕ) (texts : List (List ℕ)) → most ≤ more → AreShorter most texts → AreShorter more texts
looser most more [] le h = tt
looser most more (text ∷ texts) le h = (omega (arith, le, h.0), looser most more texts le h.1)

one_longer : (ends : Bool) (x n : ℕ) (texts : List (List ℕ)) → AreShorter n texts
    → AreShorter (suc n) (cond ends ([] ∷ texts) (onto_first x texts))
one_longer true x n texts h = (omega arith, looser n (suc n) texts (omega arith) h)
one_longer false x n [] h = (omega arith, tt)
one_longer false x n (text ∷ texts) h = (omega (arith, h.0), looser n (suc n) texts (omega arith) h.1)

-- no part is longer than the whole
parts_shorter : (mark : ℕ) (text : List ℕ) → AreShorter (length text) (parts mark text)
parts_shorter mark [] = (omega arith, tt)
parts_shorter mark (x ∷ text) = one_longer (x == mark) x (length text) (parts mark text) (parts_shorter mark text)

rest_shorter : (cut : Bool) (b : ℕ) (bytes later : List ℕ) → length later ≤ length bytes
    → length (cond cut (b ∷ bytes) later) ≤ suc (length bytes)
rest_shorter true b bytes later le = omega arith
rest_shorter false b bytes later le = omega (arith, le)

journals_shorter : (starts : Bool) (bytes : List ℕ) → length (journals_from starts bytes) ≤ length bytes
unfolding journals_from
journals_shorter starts [] = omega arith
journals_shorter starts (b ∷ bytes) =
    rest_shorter (is_journal_at starts (b ∷ bytes)) b bytes (journals_from (b == 10) bytes)
    (journals_shorter (b == 10) bytes)

-- ---- books of different honest peers

-- the records in a text of at most so many bytes
pub record IsFine (most : ℕ) (list : List Record) : Type 0 where
  pub few : length list ≤ most
  pub within : All IsInLimits list

-- each is of an honest peer that has none before
abbrev pub AreNew : Plan → List Book → List Book → Type 0
AreNew plan before [] = Unit {0}
AreNew plan before (b ∷ books) = (may_keep plan before b.peer ≡ true) × AreNew plan (before ++ b ∷ []) books

new_push : (plan : Plan) (before books : List Book) (book : Book) → AreNew plan before books
    → may_keep plan (before ++ books) book.peer ≡ true → AreNew plan before (books ++ book ∷ [])
new_push plan before [] book h may =
    (subst (λ (bs : List Book). may_keep plan bs book.peer ≡ true) (append-nil before) may, tt)
new_push plan before (b ∷ books) book h may = (
  h.0,
  new_push plan (before ++ b ∷ []) books book h.1
      (subst (λ (bs : List Book). may_keep plan bs book.peer ≡ true) (sym (append_assoc before (b ∷ []) books))
      may),
)

pub record AreKept (plan : Plan) (most : ℕ) (books : List Book) : Type 0 where
  pub new : AreNew plan [] books
  pub distinct : IsDistinct nat_eq (map (λ b. b.peer) books)
  pub honest : All (λ b. has_honest plan.peers b.peer ≡ true) books
  pub fine : All (λ b. IsFine most b.list) books

none_kept : (plan : Plan) (most : ℕ) → AreKept plan most []
unfolding IsDistinct
none_kept plan most =
    record {
      new = tt;
      distinct = tt;
      honest = All-nil (λ (b : Book). has_honest plan.peers b.peer ≡ true);
      fine = All-nil (λ (b : Book). IsFine most b.list);
    }

from_decoded : (word : List ℕ) (read : Result (List ℕ) FromHexError) (list : List Record)
    → elim read as (λ _. Option (List Record)) [ Ok file ↦ journal_in file | Err fault ↦ None ] ≡ Some list
    → (file : List ℕ) × (read ≡ Ok file) × (journal_in file ≡ Some list)
from_decoded word (Ok file) list e = (file, refl, e)
from_decoded word (Err fault) list e = absurd cc

list_fine : (word : List ℕ) (list : List Record) → list_in word ≡ Some list → IsFine (length word) list
unfolding list_in
list_fine word list e =
    let a = from_decoded word (decode_of word) list e in
    let hex = decode_of-ok word a.0 a.1 in
    let spelled = read_is_spelled a.0 list hex.3 a.2 in
    record { few = omega (arith, few_spelled a.0 list spelled, hex.2); within = within_spelled a.0 list spelled }

is_false : (b : Bool) → not b ≡ true → b ≡ false
is_false true e = absurd cc
is_false false e = refl

same_members : (peer : ℕ) (books : List Book)
    → list_any (nat_eq peer) (map (λ b. b.peer) books) ≡ list_any (λ b. b.peer == peer) books
same_members peer [] = refl
same_members peer (b ∷ books) = λ i. nat_eq_equiv.symm peer b.peer i || same_members peer books i

peers_push : (books : List Book) (book : Book)
    → map (λ b. b.peer) (books ++ book ∷ []) ≡ map (λ b. b.peer) books ++ book.peer ∷ []
peers_push [] book = refl
peers_push (b ∷ books) book = ap (λ (l : List ℕ). b.peer ∷ l) (peers_push books book)

one_more : (plan : Plan) (most : ℕ) (books : List Book) (peer : ℕ) (list : List Record) → AreKept plan most books
    → may_keep plan books peer ≡ true → IsFine most list
    → AreKept plan most (books ++ record { peer = peer; list = list } ∷ [])
unfolding may_keep
one_more plan most books peer list kept may is =
    let book : Book = record { peer = peer; list = list } in
    let both = and_parts (has_honest plan.peers peer) (not (list_any (λ b. b.peer == peer) books)) may in
    record {
      new = new_push plan [] books book kept.new may;
      distinct =
          subst (IsDistinct nat_eq) (sym (peers_push books book))
          (IsDistinct-push nat_eq_equiv (map (λ b. b.peer) books) peer kept.distinct
          (same_members peer books ∙ is_false (list_any (λ b. b.peer == peer) books) both.1));
      honest = All-push (λ (b : Book). has_honest plan.peers b.peer ≡ true) books book kept.honest both.0;
      fine = All-push (λ (b : Book). IsFine most b.list) books book kept.fine is;
    }

line_kept : (plan : Plan) (most : ℕ) (books more : List Book) (words : List (List ℕ)) → AreShorter most words
    → AreKept plan most books → journal_line plan books words ≡ Some more → AreKept plan most more
unfolding journal_line books_with
line_kept plan most books more [] short kept e = absurd cc
line_kept plan most books more (key ∷ []) short kept e = absurd cc
line_kept plan most books more (key ∷ peer ∷ []) short kept e = absurd cc
line_kept plan most books more (key ∷ peer ∷ hex ∷ []) short kept e =
    let a = if_some (bytes_eq key (codes "journal"))
    (id_in peer >>= λ p. list_in hex >>= λ list. books_with plan books p list) more e in
    let b = bind_some (id_in peer) (λ p. list_in hex >>= λ list. books_with plan books p list) more a.1 in
    let c = bind_some (list_in hex) (λ list. books_with plan books b.0 list) more b.2 in
    let d = if_some (may_keep plan books b.0) (some (books ++ record { peer = b.0; list = c.0 } ∷ [])) more c.2 in
    let fine = list_fine hex c.0 c.1 in
    subst (AreKept plan most) (same_some (books ++ record { peer = b.0; list = c.0 } ∷ []) more d.1)
    (one_more plan most books b.0 c.0 kept d.0
    (record { few = omega (arith, fine.few, short.1.1.0); within = fine.within }))
line_kept plan most books more (key ∷ peer ∷ hex ∷ word ∷ words) short kept e = absurd cc

book_kept : (plan : Plan) (most : ℕ) (books more : List Book) (line : List ℕ) → length line ≤ most
    → AreKept plan most books → with_book plan books line ≡ Some more → AreKept plan most more
unfolding with_book
book_kept plan most books more line le kept =
    if_else (means_nothing line) (some books) (journal_line plan books (parts 32 line)) more
    (λ idle. subst (AreKept plan most) (same_some books more idle) kept)
    (line_kept plan most books more (parts 32 line)
    (looser (length line) most (parts 32 line) le (parts_shorter 32 line)) kept)

same_books : (x y : List Book) → ◌≡◌ {A = Result (List Book) ℕ} (Ok x) (Ok y) → x ≡ y
same_books x y e = cc

at_end : (ends : Bool) (k : ℕ) (books out : List Book)
    → cond {A = Result (List Book) ℕ} ends (Ok books) (Err k) ≡ Ok out → books ≡ out
at_end true k books out e = same_books books out e
at_end false k books out e = absurd cc

goes : (o : Option (List Book)) (f : List Book → Result (List Book) ℕ) (k : ℕ) (out : List Book)
    → elim o as (λ _. Result (List Book) ℕ) [ Some more ↦ f more | None ↦ Err k ] ≡ Ok out
    → (more : List Book) × (o ≡ Some more) × (f more ≡ Ok out)
goes (Some more) f k out e = (more, refl, e)
goes None f k out e = absurd cc

lines_kept : (k : ℕ) (plan : Plan) (most : ℕ) (books out : List Book) (lines : List (List ℕ))
    → AreShorter most lines → AreKept plan most books → books_in k plan books lines ≡ Ok out → AreKept plan most out
unfolding books_in books_end
lines_kept k plan most books out [] short kept e = absurd cc
lines_kept k plan most books out (last ∷ []) short kept e =
    subst (AreKept plan most) (at_end (length last == 0) (line_number k) books out e) kept
lines_kept k plan most books out (line ∷ next ∷ lines) short kept e =
    let a = goes (with_book plan books line) (λ more. books_in (k + 1) plan more (next ∷ lines)) (line_number k) out
    e in
    lines_kept (k + 1) plan most a.0 out (next ∷ lines) short.1
    (book_kept plan most books a.0 line short.0 kept a.1) a.2

-- ---- the whole

-- what is read was read from a script and lines of journals
pub record IsSet (bytes : List ℕ) (said : Said) : Type 0 where
  pub script : Script
  pub is_script : script_of (script_from true bytes) ≡ Ok script
  pub plan : script.plan ≡ said.plan
  pub books : books_in (length (parts 10 (script_from true bytes))) script.plan []
      (parts 10 (journals_from true bytes))
      ≡ Ok said.set

from_books : (plan : Plan) (read : Result (List Book) ℕ) (said : Said) → with_books plan read ≡ Ok said
    → (plan ≡ said.plan) × (read ≡ Ok said.set)
from_books plan (Ok set) said e = (cc, cc)
from_books plan (Err line) said e = absurd cc

from_script : (bytes text journals : List ℕ) (read : Result Script ℕ) (said : Said)
    → with_script text journals read ≡ Ok said
    → (s : Script) × (read ≡ Ok s) × (s.plan ≡ said.plan)
    × (books_in (length (parts 10 text)) s.plan [] (parts 10 journals) ≡ Ok said.set)
from_script bytes text journals (Ok s) said e =
    let a = from_books s.plan (books_in (length (parts 10 text)) s.plan [] (parts 10 journals)) said e in
    (s, refl, a.0, a.1)
from_script bytes text journals (Err line) said e = absurd cc

pub is_set : (bytes : List ℕ) (said : Said) → set_of bytes ≡ Ok said → IsSet bytes said
unfolding set_of
is_set bytes said e =
    let a = from_script bytes (script_from true bytes) (journals_from true bytes)
    (script_of (script_from true bytes)) said e in
    record { script = a.0; is_script = a.1; plan = a.2; books = a.3 }

pub plan_kept : (bytes : List ℕ) (said : Said) → set_of bytes ≡ Ok said → plan_fault said.plan ≡ None
plan_kept bytes said e =
    let s = is_set bytes said e in
    subst (λ (p : Plan). plan_fault p ≡ None) s.plan (plan_is_good (Ok s.script) (script_from true bytes) s.is_script)

pub plan_said : (bytes : List ℕ) (said : Said) → set_of bytes ≡ Ok said → IsSaidPlan said.plan
plan_said bytes said e =
    let s = is_set bytes said e in
    let is = said_script (script_from true bytes) s.script s.is_script in
    subst IsSaidPlan s.plan (record { good = is.good; peers = is.peers })

pub books_kept : (bytes : List ℕ) (said : Said) → set_of bytes ≡ Ok said → AreKept said.plan (length bytes) said.set
books_kept bytes said e =
    let s = is_set bytes said e in
    let journals = journals_from true bytes in
    subst (λ (p : Plan). AreKept p (length bytes) said.set) s.plan
    (lines_kept (length (parts 10 (script_from true bytes))) s.script.plan (length bytes) [] said.set
    (parts 10 journals)
    (looser (length journals) (length bytes) (parts 10 journals) (journals_shorter true bytes)
    (parts_shorter 10 journals)) (none_kept s.script.plan (length bytes)) s.books)

-- ---- no more than there are peers

either : {X : Type 0} (a b : Bool) → (a ≡ true → X) → (b ≡ true → X) → (a || b) ≡ true → X
either true b f g e = f refl
either false b f g e = g e

or_right : (a b : Bool) → b ≡ true → (a || b) ≡ true
or_right true b e = refl
or_right false b e = e

or_left : (a b : Bool) → a ≡ true → (a || b) ≡ true
or_left true b e = refl
or_left false b e = absurd cc

honest_member : (id : ℕ) (peers : List PeerPlan) → has_honest peers id ≡ true
    → list_any (nat_eq id) (map (λ p. p.id) peers) ≡ true
unfolding has_honest
honest_member id [] e = absurd cc
honest_member id (p ∷ peers) e =
    either (p.id == id && not p.corrupt) (list_any (λ q. q.id == id && not q.corrupt) peers)
    (λ here. or_left (nat_eq id p.id) _ (nat_eq_equiv.symm id p.id ∙ (and_parts (p.id == id) (not p.corrupt) here).0))
    (λ later. or_right (nat_eq id p.id) _ (honest_member id peers later)) e

book_member : (plan : Plan) (id : ℕ) (books : List Book) → All (λ b. has_honest plan.peers b.peer ≡ true) books
    → list_any (nat_eq id) (map (λ b. b.peer) books) ≡ true → has_honest plan.peers id ≡ true
book_member plan id [] h e = absurd cc
book_member plan id (b ∷ books) h e =
    either (nat_eq id b.peer) (list_any (nat_eq id) (map (λ b. b.peer) books))
    (λ here. subst (λ (q : ℕ). has_honest plan.peers q ≡ true) (sym (eqb-true id b.peer here))
    (All-head (λ (b : Book). has_honest plan.peers b.peer ≡ true) b books h))
    (book_member plan id books (All-tail (λ (b : Book). has_honest plan.peers b.peer ≡ true) b books h)) e

pub few_books : (plan : Plan) (most : ℕ) (books : List Book) → plan_fault plan ≡ None → AreKept plan most books
    → length books ≤ 32
few_books plan most books good kept =
    let peers : length (map (λ (b : Book). b.peer) books) ≤ length (map (λ (p : PeerPlan). p.id) plan.peers) =
    length-le_from_is_member nat_eq_equiv (map (λ b. b.peer) books) (map (λ p. p.id) plan.peers) kept.distinct
    (λ q found. honest_member q plan.peers (book_member plan q books kept.honest found)) in
    omega (
      arith,
      peers,
      length-map books (λ (b : Book). b.peer),
      length-map plan.peers (λ (p : PeerPlan). p.id),
      (is_good plan good).few_peers,
    )

-- ---- at the call

all_shelves : (P : Book → Type 0) (shelves : List Shelf) → All P (map book_on shelves)
    → All (λ s. P (book_on s)) shelves
all_shelves P [] h = All-nil (λ (s : Shelf). P (book_on s))
all_shelves P (s ∷ shelves) h =
    All-cons (λ (t : Shelf). P (book_on t)) s shelves (All-head P (book_on s) (map book_on shelves) h)
    (all_shelves P shelves (All-tail P (book_on s) (map book_on shelves) h))

new_at : (plan : Plan) (done shelves : List Shelf) → AreNew plan (map book_on done) (map book_on shelves)
    → (k : ℕ) (s : Shelf) → slice_get shelves k ≡ Some s → is_new plan (done ++ take k shelves) s.peer ≡ true
unfolding is_new may_keep
new_at plan done [] h k s e = absurd cc
new_at plan done (t ∷ shelves) h zero s e =
    subst (λ (x : Shelf). is_new plan (done ++ []) x.peer ≡ true) (same_some t s e)
    (subst (λ (d : List Shelf). is_new plan d t.peer ≡ true) (sym (append-nil done))
    (ap (λ (has : Bool). has_honest plan.peers t.peer && not has) (sym (has_book_on t.peer done)) ∙ h.0))
new_at plan done (t ∷ shelves) h (suc k) s e =
    subst (λ (d : List Shelf). is_new plan d s.peer ≡ true) (append_assoc done (t ∷ []) (take k shelves))
    (new_at plan (done ++ t ∷ []) shelves
    (subst (λ (bs : List Book). AreNew plan bs (map book_on shelves)) (sym (map-append book_on done (t ∷ [])))
    h.1) k s e)

pub read_is_new : (bytes : List ℕ) (r : Result Gathered ScriptFault) → Tells said_by r (set_of bytes)
    → IfOk r (λ g. HaveNewPeers g.plan g.set.items)
read_is_new bytes (Ok g) e = λ k s at. new_at g.plan [] g.set.items (books_kept bytes (said_by g) e).new k s at
read_is_new bytes (Err fault) e = tt

pub read_is_good : (bytes : List ℕ) (r : Result Gathered ScriptFault) → Tells said_by r (set_of bytes)
    → IfOk r (λ g. plan_fault g.plan ≡ None)
read_is_good bytes (Ok g) e = plan_kept bytes (said_by g) e
read_is_good bytes (Err fault) e = tt

pub read_is_small : (bytes : List ℕ) (r : Result Gathered ScriptFault) → Tells said_by r (set_of bytes)
    → length bytes ≤ most_records → IfOk r (λ g. IsSmall g.set.items)
read_is_small bytes (Ok g) e le =
    let kept = books_kept bytes (said_by g) e in
    let few = few_books g.plan (length bytes) (map book_on g.set.items) (plan_kept bytes (said_by g) e) kept in
    let fine = all_shelves (λ b. IsFine (length bytes) b.list) g.set.items kept.fine in
    record {
      few = omega (arith, few, length-map g.set.items book_on);
      short = All-weaker (λ (s : Shelf). IsFine (length bytes) s.list.items) IsShort
          (λ s h. omega (arith, h.few, le)) g.set.items fine;
    }
read_is_small bytes (Err fault) e le = tt

pub read_is_within : (bytes : List ℕ) (r : Result Gathered ScriptFault) → Tells said_by r (set_of bytes)
    → IfOk r (λ g. All (λ s. All IsInLimits s.list.items) g.set.items)
read_is_within bytes (Ok g) e =
    let fine = all_shelves (λ b. IsFine (length bytes) b.list) g.set.items (books_kept bytes (said_by g) e).fine in
    All-weaker (λ (s : Shelf). IsFine (length bytes) s.list.items) (λ s. All IsInLimits s.list.items)
    (λ s h. h.within) g.set.items fine
read_is_within bytes (Err fault) e = tt
