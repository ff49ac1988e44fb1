-- What bytes say as a plan and journals, or the number of their first bad line.
use Rattle.std.specs.Prelude.{◌≡◌, ◌==◌, ◌&&◌, ◌+◌, ℕ, Bool, true, not, if◌then◌else◌, Option, Some, None, Result, Ok}
use Rattle.std.specs.Prelude.{Err, List, [], ◌∷◌, ◌++◌, length, map, take, codes, slice_get}
use Rattle.std.specs.List.{list_any}
use Rattle.std.specs.Str.{bytes_eq}
use Rattle.hex.specs.Hex.{decode_of}
use Rattle.lks_base.specs.Checking.{has_honest}
use Rattle.lks_base.specs.declared.plans.Plan.{Plan}
use Rattle.lks_base.specs.declared.records.Record.{Record}
use Rattle.lks_evidence.specs.Rules.{is_new}
use Rattle.lks_evidence.specs.declared.findings.Shelf.{Shelf}
use Rattle.lks_gather.specs.Framed.{journal_in}
use Rattle.lks_gather.specs.declared.gathered.Gathered.{Gathered}
use Rattle.lks_script.specs.declared.faults.ScriptFault.{ScriptFault}
use Rattle.lks_script.specs.declared.faults.ScriptFault.TheVariants.{BadLine, Memory}
use Rattle.lks_script.specs.Grammar.{means_nothing, line_number, script_of}
use Rattle.lks_script.specs.declared.steps.Script.{Script}
use Rattle.lks_words.specs.Numbers.{◌>>=◌}
use Rattle.lks_words.specs.Words.{parts, id_in}

-- a peer and its records
pub record Book : Type 0 where
  pub peer : ℕ
  pub list : List Record

-- a plan and journals of its peers
pub record Said : Type 0 where
  pub plan : Plan
  pub set : List Book

-- ---- where the script ends

-- a line that begins so gives a journal, or is bad
unfoldable pub begins_journal : List ℕ → Bool
begins_journal line = bytes_eq (take 8 line) (codes "journal ")

-- such a line begins here, where any line does
unfoldable pub is_journal_at : Bool → List ℕ → Bool
is_journal_at starts bytes = starts && begins_journal bytes

-- the bytes before the first line that begins so; `starts` tells whether a line begins here
unfoldable pub script_from : Bool → List ℕ → List ℕ
script_from starts [] = []
script_from starts (b ∷ bytes) = if is_journal_at starts (b ∷ bytes) then [] else b ∷ script_from (b == 10) bytes

-- and the bytes from that line on: none where there is no such line
unfoldable pub journals_from : Bool → List ℕ → List ℕ
journals_from starts [] = []
journals_from starts (b ∷ bytes) = if is_journal_at starts (b ∷ bytes) then b ∷ bytes else journals_from (b == 10) bytes

-- ---- lines of journals

-- the records of a journal in hex
unfoldable pub list_in : List ℕ → Option (List Record)
list_in word = elim (decode_of word) [ Ok file ↦ journal_in file | Err fault ↦ None ]

-- an honest peer of the plan that has no journal yet
unfoldable pub may_keep : Plan → List Book → ℕ → Bool
may_keep plan books peer = has_honest plan.peers peer && not (list_any (λ b. b.peer == peer) books)

-- the journals with one more
unfoldable pub books_with : Plan → List Book → ℕ → List Record → Option (List Book)
books_with plan books peer list =
    if may_keep plan books peer then Some (books ++ record { peer = peer; list = list } ∷ []) else None

-- journal P HEX
unfoldable pub journal_line : Plan → List Book → List (List ℕ) → Option (List Book)
journal_line plan books (key ∷ peer ∷ hex ∷ []) =
    if bytes_eq key (codes "journal")
    then (id_in peer >>= λ p. list_in hex >>= λ list. books_with plan books p list) else None
journal_line plan books _ = None

-- what a line makes of the journals so far: nothing, where it is empty or a comment
unfoldable pub with_book : Plan → List Book → List ℕ → Option (List Book)
with_book plan books line = if means_nothing line then Some books else journal_line plan books (parts 32 line)

-- behind the last line end: nothing
unfoldable pub books_end : ℕ → List Book → List ℕ → Result (List Book) ℕ
books_end k books last = if length last == 0 then Ok books else Err (line_number k)

-- the lines from the k-th on, and what stands behind the last line end
unfoldable pub books_in : ℕ → Plan → List Book → List (List ℕ) → Result (List Book) ℕ
books_in k plan books [] = Err (line_number k)
books_in k plan books (last ∷ []) = books_end k books last
books_in k plan books (line ∷ next ∷ lines) =
    elim (with_book plan books line) [
      | Some more ↦ books_in (k + 1) plan more (next ∷ lines)
      | None ↦ Err (line_number k)
    ]

-- ---- the whole

-- a plan and its journals, if they are some
abbrev pub with_books : Plan → Result (List Book) ℕ → Result Said ℕ
with_books plan (Ok set) = Ok (record { plan = plan; set = set })
with_books plan (Err line) = Err line

-- the plan of a script, if it is one, and the journals behind it: their first line is the one behind the lines of the
-- script
abbrev pub with_script : List ℕ → List ℕ → Result Script ℕ → Result Said ℕ
with_script text journals (Ok script) =
    with_books script.plan (books_in (length (parts 10 text)) script.plan [] (parts 10 journals))
with_script text journals (Err line) = Err line

-- the plan and the journals that the bytes say, or their first bad line; the steps of the script mean nothing
unfoldable pub set_of : List ℕ → Result Said ℕ
set_of bytes = with_script (script_from true bytes) (journals_from true bytes) (script_of (script_from true bytes))

-- ---- what the code answers

-- a shelf, as the journal on it
abbrev pub book_on : Shelf → Book
book_on s = record { peer = s.peer; list = s.list.items }

-- each shelf is of an honest peer of the plan that has none before
abbrev pub HaveNewPeers : Plan → List Shelf → Type 0
HaveNewPeers plan set = (k : ℕ) (s : Shelf) → slice_get set k ≡ Some s → is_new plan (take k set) s.peer ≡ true

abbrev pub said_by : Gathered → Said
said_by g = record { plan = g.plan; set = map book_on g.set.items }

-- a function answers so, unless it wants memory
abbrev pub Tells : {X Y : Type 0} → (X → Y) → Result X ScriptFault → Result Y ℕ → Type 0
Tells view (Ok x) said = said ≡ Ok (view x)
Tells view (Err (BadLine line)) said = said ≡ Err line
Tells view (Err Memory) said = Unit {0}
