-- A peer whose journal was sorted.
use Rattle.std.specs.Prelude.{◌≡◌, ◌<◌, ◌++◌, ◌⊎◌, ℕ, List, length, map, take, drop, All}
use Rattle.lks_base.specs.declared.plans.AuPlan.{AuPlan}
use Rattle.lks_base.specs.declared.plans.Holding.{Holding}
use Rattle.lks_base.specs.declared.records.Record.{Record}
use Rattle.lks_law.specs.Batches.{together}
use Rattle.lks_law.specs.Behind.{latest_tick}
use Rattle.lks_law.specs.Facts.{IsJournalOf}
use Rattle.lks_law.specs.Polls.{Station}
use Rattle.lks_law.specs.State.{state_of}
use Rattle.lks_law.specs.World.{deposits}
use Rattle.lks_peer.specs.Knows.{Knowing}
use Rattle.lks_record.specs.Spelling.{batch_spelling}
use Rattle.lks_host.specs.Fits.{IsSpelled}
use Rattle.lks_host.specs.declared.sorting.JournalSort.{JournalSort}
use Rattle.lks_host.specs.declared.sorting.JournalSort.TheVariants as journal
use Rattle.lks_host.specs.declared.sorting.PeerSort.{PeerSort}
use Rattle.lks_host.specs.declared.sorting.PeerSort.TheVariants.{Whole, Begun, Foreign}

-- each body is the one spelling of a batch, and together these have these records
pub record Spell (bodies : List (List ℕ)) (list : List Record) : Type 0 where
  pub batches : List (List Record)
  pub are : All IsSpelled batches
  pub spelled : bodies ≡ map batch_spelling batches
  pub all : list ≡ together batches

-- the first of these deposits, but not all
pub record IsProperFront (list begun : List Record) : Type 0 where
  pub short : length list < length begun
  pub front : list ≡ take (length list) begun

-- the deposits that such a list lacks
abbrev pub missing_of : List Record → List Record → List Record
missing_of begun list = drop (length list) begun

-- The list is a journal of the peer, or the first of its deposits, and the peer is in the state that it says with the
-- deposits that it lacks.
pub record IsOwner (aus : List AuPlan) (copies : List Holding) (list : List Record) (peer : Knowing) : Type 0 where
  pub own : IsJournalOf peer.own (deposits aus copies) (latest_tick list) list ⊎ IsProperFront list
      (deposits aus copies)
  pub state : peer.state ≡ state_of peer.own (list ++ missing_of (deposits aus copies) list)

-- this peer is the owner of the records that the bodies spell
pub record Owns (station : Station) (aus : List AuPlan) (copies : List Holding) (bodies : List (List ℕ))
    (list : List Record) (peer : Knowing) : Type 0 where
  pub own : peer.own ≡ station
  pub owner : IsOwner aus copies list peer
  pub spell : Spell bodies list

-- so it is where the bodies are its own, and its blocks are in this pool
abbrev pub HasPeer : Station → List ℕ → List AuPlan → List Holding → List (List ℕ) → PeerSort → Type 0
HasPeer own pool aus copies bodies (Whole peer list) =
    IsJournalOf own (deposits aus copies) (latest_tick list) list × (peer.pool ≡ pool)
    × Owns own aus copies bodies list peer
HasPeer own pool aus copies bodies (Begun peer list) = (peer.pool ≡ pool) × Owns own aus copies bodies list peer
HasPeer own pool aus copies bodies (Foreign batch) = Unit {0}

-- what the bodies are, without the peer
abbrev pub sort_in : PeerSort → JournalSort
sort_in (Whole peer list) = journal.Whole list
sort_in (Begun peer list) = journal.Begun list
sort_in (Foreign batch) = journal.Foreign batch
