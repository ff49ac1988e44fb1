-- How batches are sorted.
use Rattle.std.specs.Prelude.{◌≡◌, ◌≢◌, ◌<◌, ◌++◌, ◌+◌, ◌⊎◌, ℕ, Bool, true, false, Option, Some, None, Ok, List, []}
use Rattle.std.specs.Prelude.{◌∷◌, length, map, take, drop, slice_get}
use Rattle.lks_base.specs.declared.plans.AuPlan.{AuPlan}
use Rattle.lks_base.specs.declared.plans.Holding.{Holding}
use Rattle.lks_base.specs.declared.records.Record.{Record}
use Rattle.lks_law.specs.Batches.{alone}
use Rattle.lks_law.specs.Behind.{latest_tick, StandsBehind}
use Rattle.lks_law.specs.Facts.{IsJournalOf}
use Rattle.lks_law.specs.Journal.{was_tuned}
use Rattle.lks_law.specs.Polls.{Station}
use Rattle.lks_law.specs.State.{state_of}
use Rattle.lks_law.specs.World.{deposits}
use Rattle.lks_record.specs.Reading.{decode_of}
use Rattle.lks_record.specs.Spelling.{batch_spelling}
use Rattle.lks_host.specs.Fits.{IsSpelled}
use Rattle.lks_host.specs.declared.sorting.JournalSort.{JournalSort}
use Rattle.lks_host.specs.declared.sorting.JournalSort.TheVariants.{Whole, Begun, Foreign}
use Rattle.lks_host.specs.declared.sorting.Sorter.{Sorter}

-- the peer is in the state that the records say, which are a journal of its own that begins with its deposits
pub record IsUpTo (aus : List AuPlan) (copies : List Holding) (s : Sorter) : Type 0 where
  pub state : s.peer.state ≡ state_of s.peer.own s.list.items
  pub last : s.last ≡ latest_tick s.list.items
  pub tuned : s.tuned ≡ was_tuned s.list.items
  pub journal : IsJournalOf s.peer.own (deposits aus copies) (latest_tick s.list.items) s.list.items

-- it is the same peer, and its blocks are in the same pool
abbrev pub IsSamePeer : Sorter → Sorter → Type 0
IsSamePeer old new = (new.peer.own ≡ old.peer.own) × (new.peer.pool ≡ old.peer.pool)

-- the body is a batch that stands behind the records, and is taken, or it isn't
abbrev pub TakenAs : List ℕ → Sorter → Sorter → Bool → Type 0
TakenAs body old new true =
    (batch : List Record) × (decode_of body ≡ Ok batch) × StandsBehind old.peer.own old.list.items batch
    × (new.list.items ≡ old.list.items ++ batch)
    × ((aus : List AuPlan) (copies : List Holding) → IsUpTo aus copies old → IsUpTo aus copies new)
    × IsSpelled batch × (body ≡ batch_spelling batch)
TakenAs body old new false =
    (batch : List Record) → decode_of body ≡ Ok batch → StandsBehind old.peer.own old.list.items batch → ⊥

-- behind these records the bodies are batches, each of which stands behind those before it, and together they make this
-- list
abbrev pub AreTaken : Station → List Record → List (List ℕ) → List Record → Type 0
AreTaken own js [] list = list ≡ js
AreTaken own js (body ∷ bodies) list =
    (batch : List Record) × (decode_of body ≡ Ok batch) × StandsBehind own js batch
    × AreTaken own (js ++ batch) bodies list

-- those before the body at this place are, and that one isn't
pub record FailsAt (own : Station) (js : List Record) (bodies : List (List ℕ)) (place : ℕ) : Type 0 where
  pub list : List Record
  pub body : List ℕ
  pub there : slice_get bodies place ≡ Some body
  pub before : AreTaken own js (take place bodies) list
  pub fails : (batch : List Record) → decode_of body ≡ Ok batch → StandsBehind own list batch → ⊥

-- all of them are, or the first that isn't is at this place
abbrev pub TakesAll : Station → List Record → List (List ℕ) → List Record → Option ℕ → Type 0
TakesAll own js bodies list None = AreTaken own js bodies list
TakesAll own js bodies list (Some place) = FailsAt own js bodies place

-- the bodies of deposits, one each
abbrev pub spelled_each : List Record → List (List ℕ)
spelled_each begun = map (λ (r : Record). batch_spelling (alone r)) begun

-- the body at this place isn't that of a deposit, and those before it are
pub record DiffersAt (begun : List Record) (bodies : List (List ℕ)) (place : ℕ) : Type 0 where
  pub within : place < length begun
  pub body : List ℕ
  pub there : slice_get bodies place ≡ Some body
  pub before : take place bodies ≡ take place (spelled_each begun)
  pub differs : slice_get (spelled_each begun) place ≢ Some body

-- as far as both go they are the same, or they differ first at this place
abbrev pub AreAlike : List Record → List (List ℕ) → Option ℕ → Type 0
AreAlike begun bodies None = take (length begun) bodies ≡ take (length bodies) (spelled_each begun)
AreAlike begun bodies (Some place) = DiffersAt begun bodies place

-- What the bodies are: a journal of the peer, some of its deposits, or neither.
abbrev pub SortsAs : Station → List Record → List (List ℕ) → JournalSort → Type 0
SortsAs own begun bodies (Whole list) =
    (take (length begun) bodies ≡ spelled_each begun) × AreTaken own begun (drop (length begun) bodies) list
SortsAs own begun bodies (Begun list) =
    (length bodies < length begun) × (bodies ≡ take (length bodies) (spelled_each begun))
    × (list ≡ take (length bodies) begun)
SortsAs own begun bodies (Foreign k) =
    DiffersAt begun bodies k ⊎
    ((take (length begun) bodies ≡ spelled_each begun) × (place : ℕ) × (k ≡ length begun + place)
    × FailsAt own begun (drop (length begun) bodies) place)

-- and a whole one is a journal of the peer
abbrev pub IsOwnAs : Station → List AuPlan → List Holding → JournalSort → Type 0
IsOwnAs own aus copies (Whole list) = IsJournalOf own (deposits aus copies) (latest_tick list) list
IsOwnAs own aus copies (Begun list) = Unit {0}
IsOwnAs own aus copies (Foreign k) = Unit {0}
