-- What a session is before its vote and after its end.
use Rattle.std.specs.Prelude.{ℕ, Bool, ◌==◌, ◌&&◌, List}
use Rattle.std.specs.Cmp.Lexicographic.{pointwise}
use Rattle.lks_base.specs.Kinds.{is_kind}
use Rattle.lks_base.specs.declared.names.HashKind.{HashKind}
use Rattle.lks_base.specs.declared.names.PollName.{PollName}

-- the voter takes part: in which poll, on which AU, since when, and whether the poller's grade was low then
pub record Joining : Type 0 where
  pub poll : PollName
  pub au : ℕ
  pub tick : ℕ
  pub low : Bool

-- what it will vote on: this version of its copy, under this nonce, by hashes of this kind
pub record Commitment : Type 0 where
  pub nonce : List ℕ
  pub version : ℕ
  pub kind : HashKind

-- how it joined, and to what it committed
pub record Committing : Type 0 where
  pub joined : Joining
  pub commitment : Commitment

-- the session is over
pub record Ending : Type 0 where
  pub poll : PollName
  pub au : ℕ

-- whether a proof of the poller's effort, with this nonce and kind of hash, repeats the one that led to the commitment
unfoldable pub repeats : Commitment → List ℕ → HashKind → Bool
repeats c nonce kind = pointwise ◌==◌ c.nonce nonce && is_kind c.kind kind
