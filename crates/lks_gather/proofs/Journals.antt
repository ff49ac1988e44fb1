-- Lines of journals that are read one after another, as a loop does.
use Rattle.std.proofs.Common.{◌≡◌, ◌==◌, ℕ, ◌+◌, Bool, true, ◌||◌, List, [], ◌∷◌, length, map, Some, None, Result, Ok}
use Rattle.std.proofs.Common.{Err, refl, sym, ap, ◌∙◌}
use Rattle.std.specs.List.{list_any}
use Rattle.lks_evidence.specs.Rules.{has_shelf}
use Rattle.lks_evidence.specs.declared.findings.Shelf.{Shelf}
use Rattle.lks_base.specs.declared.plans.Plan.{Plan}
use Rattle.lks_script.specs.Grammar.{Answers, line_number, script_of}
use Rattle.lks_script.specs.declared.faults.ScriptFault.{ScriptFault}
use Rattle.lks_script.specs.declared.faults.ScriptFault.TheVariants.{BadLine, Memory}
use Rattle.lks_script.specs.declared.steps.Script.{Script}
use Rattle.lks_script.proofs.Lines.{parts_cons}
use Rattle.lks_words.specs.Words.{parts}
use Rattle.lks_gather.specs.Sets.{Book, Said, Tells, book_on, script_from, journals_from, with_book, books_end}
use Rattle.lks_gather.specs.Sets.{books_in, with_books, with_script, set_of}

-- a book of this peer is on one of the shelves
pub has_book_on : (peer : ℕ) (shelves : List Shelf)
    → list_any (λ b. b.peer == peer) (map book_on shelves) ≡ has_shelf shelves peer
has_book_on peer [] = refl
has_book_on peer (s ∷ shelves) = ap (λ (b : Bool). s.peer == peer || b) (has_book_on peer shelves)

pub goes_on : (k : ℕ) (plan : Plan) (books more : List Book) (line rest : List ℕ)
    → with_book plan books line ≡ Some more
    → books_in k plan books (line ∷ parts 10 rest) ≡ books_in (k + 1) plan more (parts 10 rest)
unfolding books_in
goes_on k plan books more line rest h =
    let m = parts_cons 10 rest in
    rw m.2 (rw (h, books_in) refl)

pub is_bad : (k : ℕ) (plan : Plan) (books : List Book) (line rest : List ℕ) → with_book plan books line ≡ None
    → books_in k plan books (line ∷ parts 10 rest) ≡ Err (line_number k)
unfolding books_in
is_bad k plan books line rest h =
    let m = parts_cons 10 rest in
    rw m.2 (rw (h, books_in) refl)

pub comes_to_end : (k : ℕ) (plan : Plan) (books : List Book) (last : List ℕ)
    → books_in k plan books (last ∷ []) ≡ books_end k books last
unfolding books_in
comes_to_end k plan books last = refl

-- ---- the script and what is behind it

module _ (bytes text journals : List ℕ) (before : text ≡ script_from true bytes)
    (behind : journals ≡ journals_from true bytes) where
  -- the same where the parts are named
  parted : (read : Result Script ℕ) → script_of text ≡ read → set_of bytes ≡ with_script text journals read
  unfolding set_of
  parted read is =
      ap (λ (t : List ℕ). with_script t (journals_from true bytes) (script_of t)) (sym before)
      ∙ ap (λ (t : List ℕ). with_script text t (script_of text)) (sym behind) ∙ ap (with_script text journals) is

  pub script_stops : {X : Type 0} (see : X → Said) (fault : ScriptFault) → Answers (Err fault) (script_of text)
      → Tells see (Err fault) (set_of bytes)
  script_stops see (BadLine line) is = parted (Err line) is
  script_stops see Memory is = tt

  module _ (s : Script) (said : script_of text ≡ Ok s) where
    pub journals_stop : {X Y : Type 0} (view : Y → List Book) (see : X → Said) (fault : ScriptFault)
        → Tells view (Err fault) (books_in (length (parts 10 text)) s.plan [] (parts 10 journals))
        → Tells see (Err fault) (set_of bytes)
    journals_stop view see (BadLine line) is = parted (Ok s) said ∙ ap (with_books s.plan) is
    journals_stop view see Memory is = tt

    pub all_said : (books : List Book) → books_in (length (parts 10 text)) s.plan [] (parts 10 journals) ≡ Ok books
        → set_of bytes ≡ Ok (record { plan = s.plan; set = books })
    all_said books is = parted (Ok s) said ∙ ap (with_books s.plan) is
