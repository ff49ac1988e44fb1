-- What a peer knows, as the code keeps it.
use Rattle.std.specs.Prelude.{◌≡◌, ◌≤◌, ℕ, Option, List, [], length, All}
use Rattle.lks_base.specs.declared.limits.TheConstants.{LAST_BLOCK, MOST_AUS, MOST_CIRCLE, MOST_PROOF_BYTES}
use Rattle.lks_law.specs.Fitting.{Where, IsSound}
use Rattle.lks_law.specs.Polls.{Station}
use Rattle.lks_law.specs.State.{Poll, State, blank}
use Rattle.lks_law.specs.State as law
use Rattle.lks_law.specs.Taking.{Mark}
use Rattle.lks_law.specs.World.{Standing}
use Rattle.lks_peer.specs.declared.known.Known.{Known}
use Rattle.lks_peer.specs.Keeping.{nothing_kept}
use Rattle.lks_audit.specs.Copied.{copies_of, IsOf}
use Rattle.lks_audit.specs.Kept.{Kept}
use Rattle.lks_audit.specs.Seen.{polls_of, IsOn}
use Rattle.lks_versions.specs.declared.places.Place.{Place}
use Rattle.lks_sessions.specs.Kept.{voter_of}
use Rattle.lks_sessions.specs.Kept as sessions

-- the state
abbrev pub state_of : Known → State
state_of k =
    record {
      numbers = k.numbers;
      openings = k.openings;
      copies = copies_of k.copies;
      polls = polls_of k.polls;
      refs = k.references.list;
      voter = voter_of k.sessions;
    }

-- All blocks are of this pool, those that sessions pin too; each poll runs over the copy that is held, and the
-- reference list is this peer's.
pub record IsTied (id : ℕ) (pool : List ℕ) (k : Known) : Type 0 where
  pub of : All (IsOf pool) k.copies
  pub on : All (IsOn id (copies_of k.copies)) k.polls
  pub owner : k.references.own ≡ id
  pub pins : sessions.IsOf pool k.sessions

-- whatever pool the blocks are of, and whosever polls these are, they stay so
unfoldable pub StaysTied : Known → Known → Type 0
StaysTied old new = (id : ℕ) (pool : List ℕ) → IsTied id pool old → IsTied id pool new

-- all is the same, but for the votes that each peer gave and got
abbrev pub IsSameButMarks : State → State → Type 0
IsSameButMarks old new = (marks : List Mark) × (new ≡ record old { voter = record old.voter { marks = marks } })

-- a peer that goes by such numbers, in a state in which such a peer may be
pub record IsFit (own : Station) (s : State) : Type 0 where
  pub inner : own.rules.inner ≤ MOST_CIRCLE
  pub outer : own.rules.outer ≤ MOST_CIRCLE
  pub aus : length own.aus ≤ MOST_AUS
  pub proof : length own.proof ≤ MOST_PROOF_BYTES
  pub sound : IsSound s

-- and knows it
pub record IsWell (own : Station) (pool : List ℕ) (k : Known) : Type 0 where
  pub tied : IsTied own.id pool k
  pub fit : IsFit own (state_of k)

-- a peer with no records
pub record IsMade (own : Station) (k : Known) : Type 0 where
  pub state : state_of k ≡ blank own
  pub tied : (pool : List ℕ) → IsTied own.id pool k

-- the poll, if it runs and waits for a block, waits for one that an AU may have
unfoldable pub AsksSmall : Option Poll → Type 0
AsksSmall o = Where o (λ p. Where p.request (λ r. r.block ≤ LAST_BLOCK))

-- What a peer goes by, the pool of its blocks, the state in which it is, and for how many blocks its running polls keep
-- hashes. Where its deposits stand in the pool isn't seen until a job or a result asks for it, and is then seen for
-- good.
pub record Knowing : Type 0 where
  pub own : Station
  pub pool : List ℕ
  pub state : State
  pub kept : List Kept
  pub places : List Place

-- a peer with this journal, whose blocks are in this pool, whose polls keep nothing yet, and which told no place
abbrev pub knowing_of : List ℕ → Standing → Knowing
knowing_of pool s =
    let state = law.state_of s.own s.journal in
    record { own = s.own; pool = pool; state = state; kept = nothing_kept state.polls; places = [] }
