-- What is printed reads back.
use Rattle.std.proofs.Common.{◌≡◌, ◌==◌, ◌&&◌, ◌||◌, ◌+◌, ◌≤◌, ◌<◌, ◌^◌, ℕ, Bool, true, false, eqb, not, List, []}
use Rattle.std.proofs.Common.{◌∷◌, ◌++◌, length, Option, Some, None, Result, Ok, Err, refl, sym, ap, subst, ◌∙◌}
use Rattle.std.proofs.Common.{append_assoc, arith}
use Rattle.std.specs.Fmt.{decimal}
use Rattle.std.specs.List.{All, flat_map, list_all, list_any}
use Rattle.std.specs.Prelude.{codes}
use Rattle.std.proofs.lemmas.Bool.{and_parts, and_from, eqb-true}
use Rattle.std.proofs.lemmas.List.{append-nil}
use Rattle.std.proofs.lemmas.List.Elements.{All-nil, All-cons, All-head, All-tail}
use Rattle.std.proofs.lemmas.List.Splits.{slice_split_at}
use Rattle.hex.specs.Hex.{IsBytes, encode_lower}
use Rattle.hex.specs.declared.error.FromHexError.{FromHexError}
use Rattle.hex.proofs.HexLemmas.{decode_of-encode_lower}
use Rattle.lks_base.specs.Checking.{has_honest}
use Rattle.lks_base.specs.declared.plans.PeerPlan.{PeerPlan}
use Rattle.lks_base.specs.declared.plans.Plan.{Plan}
use Rattle.lks_base.specs.declared.records.Record.{Record}
use Rattle.lks_field.specs.Frames.{frame, frames, AreBodies}
use Rattle.lks_print.specs.Said.{IsSaidPeer}
use Rattle.lks_print.specs.Scripts.{plan_text, script_text}
use Rattle.lks_print.specs.Steps.{line_of}
use Rattle.lks_print.proofs.Whole.{said_again}
use Rattle.lks_script.specs.Grammar.{means_nothing, script_of}
use Rattle.lks_words.specs.Numbers.{◌>>=◌}
use Rattle.lks_words.specs.Steps.{spaced}
use Rattle.lks_words.specs.Texts.{are_above}
use Rattle.lks_words.specs.Words.{parts}
use Rattle.lks_words.proofs.Decimals.{number_again}
use Rattle.lks_words.proofs.Kept.{decimal_above, hex_above}
use Rattle.lks_words.proofs.Splits.{lacks, weaker, above_append, above_behind, words_part}
use Rattle.lks_words.proofs.Steps.{some}
use Rattle.lks_gather.specs.Framed.{journal_in, Spells}
use Rattle.lks_gather.specs.Sets.{Book, begins_journal, list_in, may_keep, books_with, journal_line, with_book}
use Rattle.lks_gather.specs.Sets.{books_end, books_in, with_books, set_of}
use Rattle.lks_gather.specs.Texts.{Filed, file_of, journal_text, set_text, AreFiles, IsFiled, AreFiled, IsSaidPlan}
use Rattle.lks_gather.proofs.Apart.{AreApart, none_behind, journals_behind, set_behind}
use Rattle.lks_gather.proofs.Journals.{goes_on}
use Rattle.lks_gather.proofs.Spelled.{spelled_is_read}

-- ---- frames

pub frames_flat : (bodies : List (List ℕ)) → flat_map frame bodies ≡ frames bodies
unfolding frames
frames_flat [] = refl
frames_flat (body ∷ bodies) = ap (λ (l : List ℕ). frame body ++ l) (frames_flat bodies)

pub bodies_all : (bodies : List (List ℕ)) → AreBodies bodies → All (λ body. length body < 2 ^ 32) bodies
bodies_all [] h = All-nil (λ (body : List ℕ). length body < 2 ^ 32)
bodies_all (body ∷ bodies) h = All-cons (λ (b : List ℕ). length b < 2 ^ 32) body bodies h.0 (bodies_all bodies h.1)

-- ---- the words of a journal's line

list_again : (file : List ℕ) (list : List Record) → IsBytes file → Spells file list
    → list_in (encode_lower file) ≡ Some list
unfolding list_in
list_again file list bytes spells =
    ap
    (λ (r : Result (List ℕ) FromHexError).
    elim r as (λ _. Option (List Record)) [ Ok f ↦ journal_in f | Err fault ↦ None ])
    (decode_of-encode_lower file bytes)
    ∙ spelled_is_read file list spells

abbrev word_of : List ℕ → List (List ℕ) → List (List ℕ)
word_of word words = word ∷ words

-- the words behind the first one
abbrev words_of : Filed → List (List ℕ)
words_of f = decimal f.peer ∷ encode_lower (file_of f.bodies) ∷ []

plain_words : (low : ℕ) (f : Filed) → low ≤ 44 → f.peer ≤ 65535 → IsBytes (file_of f.bodies)
    → list_all (are_above low) (words_of f) ≡ true
plain_words low f le few bytes =
    and_from (are_above low (decimal f.peer)) _
    (weaker low 44 (decimal f.peer) le (decimal_above f.peer (omega (arith, few))))
    (and_from (are_above low (encode_lower (file_of f.bodies))) true
    (weaker low 44 (encode_lower (file_of f.bodies)) le (hex_above (file_of f.bodies) bytes)) refl)

-- a peer of the plan has a number of its size
small_peer : (id : ℕ) (peers : List PeerPlan) → All IsSaidPeer peers → has_honest peers id ≡ true → id ≤ 65535
unfolding has_honest
small_peer id [] said e = absurd cc
small_peer id (p ∷ peers) said e =
    either (p.id == id && not p.corrupt) (list_any (λ q. q.id == id && not q.corrupt) peers)
    (λ here. subst (λ (n : ℕ). n ≤ 65535) (eqb-true p.id id (and_parts (p.id == id) (not p.corrupt) here).0)
    (All-head IsSaidPeer p peers said).id)
    (small_peer id peers (All-tail IsSaidPeer p peers said)) e
  where
    either : {X : Type 0} (a b : Bool) → (a ≡ true → X) → (b ≡ true → X) → (a || b) ≡ true → X
    either true b f g e = f refl
    either false b f g e = g e

same_book : (f : Filed) (b : Book) → b.peer ≡ f.peer → ◌≡◌ {A = Book} (record { peer = f.peer; list = b.list }) b
same_book f b e = λ i. record { peer = sym e i; list = b.list }

module _ (plan : Plan) (before : List Book) (f : Filed) (b : Book) (may : may_keep plan before b.peer ≡ true)
    (filed : IsFiled f b) (bytes : IsBytes (file_of f.bodies)) (few : f.peer ≤ 65535) where
  more_books : books_with plan before f.peer b.list ≡ Some (before ++ b ∷ [])
  unfolding books_with
  more_books =
      rw (subst (λ (p : ℕ). may_keep plan before p ≡ true) filed.peer may)
      (ap (λ (x : Book). some (before ++ x ∷ [])) (same_book f b filed.peer))

  words_read : journal_line plan before (codes "journal" ∷ words_of f) ≡ Some (before ++ b ∷ [])
  unfolding journal_line
  words_read =
      ap
      (λ (o : Option ℕ). o >>= λ p. list_in (encode_lower (file_of f.bodies)) >>= λ list. books_with plan before
      p list) (number_again 65535 f.peer (decimal f.peer) (omega arith) few refl)
      ∙ ap (λ (o : Option (List Record)). o >>= λ list. books_with plan before f.peer list)
      (list_again (file_of f.bodies) b.list bytes filed.list)
      ∙ more_books

  line_read : with_book plan before (codes "journal" ++ spaced (words_of f)) ≡ Some (before ++ b ∷ [])
  unfolding with_book means_nothing
  line_read =
      ap (journal_line plan before)
      (words_part (codes "journal") (words_of f) refl (plain_words 32 f (omega arith) few bytes))
      ∙ words_read

  regroup : (a b rest : List ℕ) → (a ++ b ++ 10 ∷ []) ++ rest ≡ (a ++ b) ++ 10 ∷ rest
  regroup [] [] rest = refl
  regroup [] (x ∷ b) rest = ap (λ (t : List ℕ). x ∷ t) (regroup [] b rest)
  regroup (x ∷ a) b rest = ap (λ (t : List ℕ). x ∷ t) (regroup a b rest)

  plain_line : are_above 10 (codes "journal" ++ spaced (words_of f)) ≡ true
  plain_line =
      above_append 10 (codes "journal") (spaced (words_of f)) refl
      (above_behind (λ (w : List ℕ). w) 10 32 (words_of f) (omega arith)
      (plain_words 10 f (omega arith) few bytes))

  journal_read : (k : ℕ) (rest : List ℕ)
      → books_in k plan before (parts 10 (journal_text f ++ rest))
      ≡ books_in (k + 1) plan (before ++ b ∷ []) (parts 10 rest)
  unfolding journal_text line_of
  journal_read k rest =
      let line = codes "journal" ++ spaced (words_of f) in
      ap (λ (t : List ℕ). books_in k plan before (parts 10 t)) (regroup (codes "journal") (spaced (words_of f)) rest)
      ∙ ap (books_in k plan before)
      (slice_split_at (λ c. eqb c 10) line 10 rest (lacks 10 10 line (omega arith) plain_line) refl)
      ∙ goes_on k plan before (before ++ b ∷ []) line rest line_read

-- ---- the lines

none_left : (k : ℕ) (plan : Plan) (before : List Book) → books_in k plan before (parts 10 []) ≡ Ok before
unfolding books_in books_end
none_left k plan before = refl

abbrev IsFile : Filed → Type 0
IsFile f = IsBytes (file_of f.bodies)

abbrev ok : List Book → Result (List Book) ℕ
ok books = Ok books

journals_read : (plan : Plan) → All IsSaidPeer plan.peers
    → (k : ℕ) (before : List Book) (journals : List Filed) (books : List Book) → AreFiles journals
    → AreFiled plan before journals books
    → books_in k plan before (parts 10 (flat_map journal_text journals)) ≡ Ok (before ++ books)
unfolding may_keep
journals_read plan said k before [] [] bytes filed = none_left k plan before ∙ ap ok (sym (append-nil before))
journals_read plan said k before [] (b ∷ books) bytes filed = absurd filed
journals_read plan said k before (f ∷ journals) [] bytes filed = absurd filed
journals_read plan said k before (f ∷ journals) (b ∷ books) bytes filed =
    let honest = (and_parts (has_honest plan.peers b.peer) (not (list_any (λ x. x.peer == b.peer) before)) filed.0).0 in
    let few = subst (λ (p : ℕ). p ≤ 65535) filed.1.peer (small_peer b.peer plan.peers said honest) in
    journal_read plan before f b filed.0 filed.1 (All-head IsFile f journals bytes) few k
    (flat_map journal_text journals)
    ∙ journals_read plan said (k + 1) (before ++ b ∷ []) journals books (All-tail IsFile f journals bytes) filed.2
    ∙ ap ok (append_assoc before (b ∷ []) books)

begins : (f : Filed) (rest : List ℕ) → begins_journal (journal_text f ++ rest) ≡ true
unfolding begins_journal journal_text line_of
begins f rest = refl

behind : (plan : Plan) (before : List Book) (journals : List Filed) (books : List Book)
    → AreFiled plan before journals books → AreApart true [] (flat_map journal_text journals)
behind plan before [] books filed = none_behind
behind plan before (f ∷ journals) books filed =
    journals_behind (flat_map journal_text (f ∷ journals)) (begins f (flat_map journal_text journals))

-- ---- the whole

plan_read : (plan : Plan) → IsSaidPlan plan → script_of (plan_text plan) ≡ Ok (record { plan = plan; steps = [] })
unfolding script_text
plan_read plan said =
    ap script_of (sym (append-nil (plan_text plan)))
    ∙ said_again (record { plan = plan; steps = [] })
    (record { good = said.good; peers = said.peers; steps = tt })

pub set_again : (plan : Plan) (journals : List Filed) (books : List Book) → AreFiles journals → IsSaidPlan plan
    → AreFiled plan [] journals books → set_of (set_text plan journals) ≡ Ok (record { plan = plan; set = books })
unfolding set_text
set_again plan journals books bytes said filed =
    set_behind (plan_text plan) (flat_map journal_text journals) (record { plan = plan; steps = [] })
    (plan_read plan said) (behind plan [] journals books filed)
    ∙ ap (with_books plan)
    (journals_read plan said.peers (length (parts 10 (plan_text plan))) [] journals books bytes filed)

pub again_as : (text : List ℕ) (plan : Plan) (journals : List Filed) → text ≡ set_text plan journals → AreFiles journals
    → (books : List Book) → IsSaidPlan plan → AreFiled plan [] journals books
    → set_of text ≡ Ok (record { plan = plan; set = books })
again_as text plan journals is bytes books said filed = ap set_of is ∙ set_again plan journals books bytes said filed
