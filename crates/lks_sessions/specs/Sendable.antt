-- What a record of a peer's part in a poll of another needs, and what can be sent.
use Rattle.std.specs.Prelude.{◌≡◌, ℕ, List, All}
use Rattle.lks_base.specs.declared.names.PollName.{PollName}
use Rattle.lks_law.specs.Fitting.{Where, MayHave, IsPinnedWell, IsCastWell}
use Rattle.lks_law.specs.Taking.{Session, Cast, Voter, session_at, cast_at}

-- Records.

-- these are the blocks of the AU of the session of this poll, if it is joined and not committed
abbrev pub PinsBlocks : (ℕ → List (List ℕ)) → PollName → List (List ℕ) → List Session → Type 0
PinsBlocks blocks q pinned sessions = Where (session_at q sessions) (λ s. pinned ≡ blocks s.joined.au)

-- the block is a new one for the poller of this poll, which may have one more, if the peer voted there
unfoldable pub MayServe : PollName → ℕ → List Cast → Type 0
MayServe q block casts = Where (cast_at q casts) (MayHave block)

-- Messages.

-- a voter of whose sessions votes and repairs can be sent
pub record IsSendable (v : Voter) : Type 0 where
  pub pinned : All IsPinnedWell v.pinned
  pub cast : All IsCastWell v.cast
