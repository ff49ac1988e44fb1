-- How a peer's part in polls of others is kept, and how that is seen.
use Rattle.std.specs.Prelude.{ℕ, Option, List, map, All}
use Rattle.lks_base.specs.declared.names.PollName.{PollName}
use Rattle.lks_blocks.specs.Block.{AllOf, bytes_of}
use Rattle.lks_law.specs.Taking.{Session, Pinned, Cast, Mark, Voter}
use Rattle.lks_sessions.specs.Sendable.{IsSendable}
use Rattle.lks_sessions.specs.declared.stages.JoinedSession.{JoinedSession}
use Rattle.lks_sessions.specs.declared.stages.PinnedSession.{PinnedSession}
use Rattle.lks_sessions.specs.declared.stages.CastSession.{CastSession}

-- what is kept
pub record Kept : Type 0 where
  pub joined : List JoinedSession
  pub pinned : List PinnedSession
  pub cast : List CastSession
  pub ended : List PollName
  pub marks : List Mark
  pub last_low : Option ℕ

-- Sessions, as they are seen.

abbrev pub session_of : JoinedSession → Session
session_of s = record { joined = s.joined; repairs = s.repairs }

abbrev pub pinned_of : PinnedSession → Pinned
pinned_of p = record { committed = p.committed; repairs = p.repairs; blocks = bytes_of p.refs }

abbrev pub cast_of : CastSession → Cast
cast_of c = record { voted = c.voted; repairs = c.repairs; blocks = bytes_of c.refs }

-- the voter
abbrev pub voter_of : Kept → Voter
voter_of k =
    record {
      sessions = map session_of k.joined;
      pinned = map pinned_of k.pinned;
      cast = map cast_of k.cast;
      ended = k.ended;
      marks = k.marks;
      last_low = k.last_low;
    }

-- Pools.

abbrev pub IsPinnedOf : List ℕ → PinnedSession → Type 0
IsPinnedOf pool p = AllOf pool p.refs

abbrev pub IsCastOf : List ℕ → CastSession → Type 0
IsCastOf pool c = AllOf pool c.refs

-- all blocks of the versions that are kept are of this pool
pub record IsOf (pool : List ℕ) (k : Kept) : Type 0 where
  pub pinned : All (IsPinnedOf pool) k.pinned
  pub cast : All (IsCastOf pool) k.cast

-- whatever pool they are of, they stay so
unfoldable pub StaysOf : Kept → Kept → Type 0
StaysOf old new = (pool : List ℕ) → IsOf pool old → IsOf pool new

-- Messages.

-- if votes and repairs could be made of all sessions, they still can
unfoldable pub StaysSendable : Kept → Kept → Type 0
StaysSendable old new = IsSendable (voter_of old) → IsSendable (voter_of new)
