-- What is known of each record and of each envelope, while events happen.
use Rattle.std.specs.Prelude.{◌≡◌, ◌≤◌, ◌<◌, ◌^◌, ℕ, Option, Some, None, Ok, List, [], ◌∷◌, length}
use Rattle.lks_base.specs.declared.events.Envelope.{Envelope}
use Rattle.lks_base.specs.declared.limits.TheConstants.{MOST_BLOCK_BYTES}
use Rattle.lks_base.specs.declared.messages.Message.{Message}
use Rattle.lks_base.specs.declared.records.Record.{Record}
use Rattle.lks_base.specs.declared.records.Record.TheVariants.{Deposit, PollOpened, Nominated, OuterOpened, VoteIn}
use Rattle.lks_base.specs.declared.records.Record.TheVariants.{Shut, Asked, RepairBad, Replaced, Closed, Overdue}
use Rattle.lks_base.specs.declared.records.Record.TheVariants.{Joined, Committed, Voted, Served, Ended, Tuned}
use Rattle.lks_law.specs.Fitting.{AreSmall}
use Rattle.lks_law.specs.Journal.{openings, opening_of, contents_of}
use Rattle.lks_law.specs.Polls.{Station}
use Rattle.lks_law.specs.Sessions.{join_of, commitment_of, hashes_of_vote, version_now}
use Rattle.lks_law.specs.Voting.{poll_named}
use Rattle.lks_law.specs.World.{Standing, peer_at}
use Rattle.lks_message.specs.Reading.{decode_of}
use Rattle.lks_message.specs.Spelling.{IsInLimits}
use Rattle.lks_law.specs.Linked.{Has, Says, IsVoteOver}

abbrev pub Each : {X : Type 0} → (X → Type 0) → List X → Type 0
Each P [] = Unit {0}
Each P (x ∷ xs) = P x × Each P xs

-- this holds of it, if there is one
abbrev pub Any : {X : Type 0} → (X → Type 0) → Option X → Type 0
Any P None = Unit {0}
Any P (Some x) = P x

-- what is known of a message from this peer: it is in its limits, and an honest one says it
abbrev pub Heard : Option Standing → ℕ → Message → Type 0
Heard from to m = IsInLimits m × Any (λ s. Says s.journal to m) from

-- some message is spelled so
abbrev pub IsSpelling : List ℕ → Type 0
IsSpelling bytes = (m : Message) × (decode_of bytes ≡ Ok m)

-- an honest peer sends nothing but messages
pub record IsFrom (peers : List Standing) (e : Envelope) : Type 0 where
  pub heard : (m : Message) → decode_of e.bytes ≡ Ok m → Heard (peer_at e.from peers) e.to m
  pub spelled : Any (λ (s : Standing). IsSpelling e.bytes) (peer_at e.from peers)

-- what is true of a record of a journal
abbrev pub Fact : List Standing → Station → List Record → Record → Type 0
Fact peers own js (Deposit au blocks) = (au < 2 ^ 16) × (length blocks ≤ 512) × AreSmall blocks
Fact peers own js (PollOpened n au nonce inner tick limits kind) =
    (n ≤ openings js) × (length nonce ≡ 32) × (au < 2 ^ 16)
Fact peers own js (Nominated n voter nominees) = Unit {0}
Fact peers own js (OuterOpened n outer) = Unit {0}
Fact peers own js (VoteIn n v hashes) =
    Any (λ t. hashes_of_vote (poll_named own.id n) t.journal ≡ Some hashes) (peer_at v peers)
    × Has (λ o. length hashes ≡ length (contents_of o.au js)) (opening_of n js)
Fact peers own js (Shut n) = Unit {0}
Fact peers own js (Asked n b v) = Has (λ o. b < length (contents_of o.au js)) (opening_of n js)
Fact peers own js (RepairBad n b v) = Unit {0}
Fact peers own js (Replaced n au b bytes) = (b < length (contents_of au js)) × (length bytes ≤ MOST_BLOCK_BYTES)
Fact peers own js (Closed n outcome tick) = Unit {0}
Fact peers own js (Overdue au tick) = Unit {0}
Fact peers own js (Joined q au tick low repairs) =
    (q.number < 2 ^ 32) × Any (λ t. Has (λ o. o.au ≡ au) (opening_of q.number t.journal)) (peer_at q.poller peers)
Fact peers own js (Committed q nonce version kind) =
    Has (λ j. version ≤ version_now j.au js) (join_of q js)
    × Any (λ t. Has (λ o. (o.nonce ≡ nonce) × (o.kind ≡ kind)) (opening_of q.number t.journal)) (peer_at q.poller peers)
Fact peers own js (Voted q hashes) = Has (λ j. Has (IsVoteOver own js q hashes j) (commitment_of q js)) (join_of q js)
Fact peers own js (Served q b) = Unit {0}
Fact peers own js (Ended q) = Unit {0}
Fact peers own js (Tuned quorum minority repairs) = Unit {0}
