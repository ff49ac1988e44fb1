-- The one spelling of each record and each batch.
use Rattle.std.specs.Prelude.{◌≡◌, ℕ, ◌<◌, ◌≤◌, ◌^◌, Bool, true, Option, None, Some, IfSome, List, [], ◌∷◌, ◌++◌}
use Rattle.std.specs.Prelude.{length, All}
use Rattle.std.specs.List.{flat_map}
use Rattle.std.specs.Int.{w16, w32, to_be_bytes}
use Rattle.lks_base.specs.Kinds.{is_second}
use Rattle.lks_base.specs.declared.limits.TheConstants.{LAST_BLOCK, MOST_BLOCKS, MOST_BLOCK_BYTES, MOST_CIRCLE}
use Rattle.lks_base.specs.declared.limits.TheConstants.{MOST_NOMINEES, MOST_REPAIRS}
use Rattle.lks_base.specs.declared.records.Record.{Record}
use Rattle.lks_base.specs.declared.records.Record.TheVariants.{Deposit, PollOpened, Nominated, OuterOpened, VoteIn}
use Rattle.lks_base.specs.declared.records.Record.TheVariants.{Shut, Asked, RepairBad, Replaced, Closed, Overdue}
use Rattle.lks_base.specs.declared.records.Record.TheVariants.{Joined, Committed, Voted, Served, Ended, Tuned}
use Rattle.lks_base.specs.declared.names.HashKind.{HashKind}
use Rattle.lks_base.specs.declared.names.HashKind.TheVariants.{Sha256, Sha512_256}
use Rattle.lks_base.specs.declared.names.Limits.{Limits}
use Rattle.lks_base.specs.declared.names.PollName.{PollName}
use Rattle.lks_base.specs.declared.names.Outcome.{Outcome}
use Rattle.lks_base.specs.declared.names.Outcome.TheVariants.{Agreed, Inquorate, Split, NoSupplier}
use Rattle.lks_base.specs.Quorums.{obeys_quorum_rule}
use Rattle.lks_field.specs.Spelling.{flag}
pub use Rattle.lks_field.specs.Spelling.{kind_bytes, number_bytes as peer_bytes, hash_bytes}
pub use Rattle.lks_field.specs.Spelling.{sized_bytes as content_bytes}

-- what each record begins with: its form and its tag
abbrev pub start : ℕ → ℕ → List ℕ
start form tag = form ∷ tag ∷ []

-- the form of an opening: the first has no limits, the third the second kind of hash
abbrev pub opening_form : Option Limits → HashKind → ℕ
opening_form limits Sha512_256 = 3
opening_form None Sha256 = 1
opening_form (Some limits) Sha256 = 2

-- the second form has the repairs
abbrev pub joined_form : Option ℕ → ℕ
joined_form None = 1
joined_form (Some repairs) = 2

-- the second form has the second kind of hash
abbrev pub committed_form : HashKind → ℕ
committed_form Sha256 = 1
committed_form Sha512_256 = 2

-- the byte of yes or no
abbrev pub flag_bytes : Bool → List ℕ
flag_bytes told = flag told ∷ []

-- blocks behind their count
abbrev pub block_bytes : List (List ℕ) → List ℕ
block_bytes blocks = to_be_bytes w16 (length blocks) ++ flat_map content_bytes blocks

-- the name of a poll: its poller and its number
unfoldable pub poll_bytes : PollName → List ℕ
poll_bytes poll = to_be_bytes w16 poll.poller ++ to_be_bytes w32 poll.number

-- a quorum and its minority
abbrev pub limit_bytes : Limits → List ℕ
limit_bytes limits = to_be_bytes w16 limits.quorum ++ to_be_bytes w16 limits.minority

-- what is spelled only where it is there
abbrev pub optional : {X : Type 0} → (X → List ℕ) → Option X → List ℕ
optional spell None = []
optional spell (Some x) = spell x

-- a code, and a block or 0
abbrev pub outcome_bytes : Outcome → List ℕ
outcome_bytes Agreed = 0 ∷ to_be_bytes w16 0
outcome_bytes Inquorate = 1 ∷ to_be_bytes w16 0
outcome_bytes (Split block) = 2 ∷ to_be_bytes w16 block
outcome_bytes (NoSupplier block) = 3 ∷ to_be_bytes w16 block

-- ---- records

-- the one spelling of a record
unfoldable pub spelling : Record → List ℕ
spelling (Deposit au blocks) = start 1 1 ++ to_be_bytes w16 au ++ block_bytes blocks
spelling (PollOpened number au nonce inner tick limits kind) =
    start (opening_form limits kind) 2 ++ to_be_bytes w32 number ++ to_be_bytes w16 au ++ nonce ++ peer_bytes inner
    ++ to_be_bytes w32 tick ++ optional limit_bytes limits ++ kind_bytes (is_second kind)
spelling (Nominated number voter nominees) =
    start 1 3 ++ to_be_bytes w32 number ++ to_be_bytes w16 voter ++ peer_bytes nominees
spelling (OuterOpened number outer) = start 1 4 ++ to_be_bytes w32 number ++ peer_bytes outer
spelling (VoteIn number voter hashes) =
    start 1 5 ++ to_be_bytes w32 number ++ to_be_bytes w16 voter ++ hash_bytes hashes
spelling (Shut number) = start 1 6 ++ to_be_bytes w32 number
spelling (Asked number block voter) =
    start 1 7 ++ to_be_bytes w32 number ++ to_be_bytes w16 block ++ to_be_bytes w16 voter
spelling (RepairBad number block voter) =
    start 1 8 ++ to_be_bytes w32 number ++ to_be_bytes w16 block ++ to_be_bytes w16 voter
spelling (Replaced number au block bytes) =
    start 1 9 ++ to_be_bytes w32 number ++ to_be_bytes w16 au ++ to_be_bytes w16 block ++ content_bytes bytes
spelling (Closed number outcome tick) =
    start 1 10 ++ to_be_bytes w32 number ++ outcome_bytes outcome ++ to_be_bytes w32 tick
spelling (Overdue au tick) = start 1 11 ++ to_be_bytes w16 au ++ to_be_bytes w32 tick
spelling (Joined poll au tick low repairs) =
    start (joined_form repairs) 12 ++ poll_bytes poll ++ to_be_bytes w16 au ++ to_be_bytes w32 tick
    ++ flag_bytes low ++ optional (to_be_bytes w16) repairs
spelling (Committed poll nonce version kind) =
    start (committed_form kind) 13 ++ poll_bytes poll ++ nonce ++ to_be_bytes w32 version
    ++ kind_bytes (is_second kind)
spelling (Voted poll hashes) = start 1 14 ++ poll_bytes poll ++ hash_bytes hashes
spelling (Served poll block) = start 1 15 ++ poll_bytes poll ++ to_be_bytes w16 block
spelling (Ended poll) = start 1 16 ++ poll_bytes poll
spelling (Tuned quorum minority repairs) =
    start 2 17 ++ limit_bytes (record { quorum = quorum; minority = minority }) ++ to_be_bytes w16 repairs

-- ---- limits

-- a quorum that a circle can have, and a minority that obeys its rule
abbrev pub AreLimits : Limits → Type 0
AreLimits limits =
    (1 ≤ limits.quorum) × (limits.quorum ≤ MOST_CIRCLE) × (obeys_quorum_rule limits.quorum limits.minority ≡ true)

-- an opening of the second kind has limits
abbrev pub HasLimits : Option Limits → HashKind → Type 0
HasLimits None Sha512_256 = ⊥
HasLimits limits kind = IfSome limits AreLimits

-- the block that an outcome is about is the number of a block
abbrev pub HasBlock : Outcome → Type 0
HasBlock Agreed = Unit {0}
HasBlock Inquorate = Unit {0}
HasBlock (Split block) = block ≤ LAST_BLOCK
HasBlock (NoSupplier block) = block ≤ LAST_BLOCK

-- nothing is above its limit
abbrev pub IsWithin : Record → Type 0
IsWithin (Deposit au blocks) =
    (1 ≤ length blocks) × (length blocks ≤ MOST_BLOCKS) × All (λ b. length b ≤ MOST_BLOCK_BYTES) blocks
IsWithin (PollOpened number au nonce inner tick limits kind) = (length inner ≤ MOST_CIRCLE) × HasLimits limits kind
IsWithin (Nominated number voter nominees) = length nominees ≤ MOST_NOMINEES
IsWithin (OuterOpened number outer) = length outer ≤ MOST_CIRCLE
IsWithin (VoteIn number voter hashes) = length hashes ≤ MOST_BLOCKS
IsWithin (Shut number) = Unit {0}
IsWithin (Asked number block voter) = block ≤ LAST_BLOCK
IsWithin (RepairBad number block voter) = block ≤ LAST_BLOCK
IsWithin (Replaced number au block bytes) = (block ≤ LAST_BLOCK) × (length bytes ≤ MOST_BLOCK_BYTES)
IsWithin (Closed number outcome tick) = HasBlock outcome
IsWithin (Overdue au tick) = Unit {0}
IsWithin (Joined poll au tick low repairs) = IfSome repairs (λ n. n ≤ MOST_REPAIRS)
IsWithin (Committed poll nonce version kind) = Unit {0}
IsWithin (Voted poll hashes) = length hashes ≤ MOST_BLOCKS
IsWithin (Served poll block) = block ≤ LAST_BLOCK
IsWithin (Ended poll) = Unit {0}
IsWithin (Tuned quorum minority repairs) =
    AreLimits (record { quorum = quorum; minority = minority }) × (repairs ≤ MOST_REPAIRS)

-- the name of a poll has numbers of the size of their types
abbrev pub IsPoll : PollName → Type 0
IsPoll poll = (poll.poller < 2 ^ 16) × (poll.number < 2 ^ 32)

-- each hash has the size of one
abbrev pub AreHashes : List (List ℕ) → Type 0
AreHashes hashes = All (λ h. length h ≡ 32) hashes

-- each number of a peer has the size of its type
abbrev pub ArePeers : List ℕ → Type 0
ArePeers peers = All (λ p. p < 2 ^ 16) peers

-- numbers, nonces and hashes have the sizes of their types
abbrev pub IsSized : Record → Type 0
IsSized (Deposit au blocks) = au < 2 ^ 16
IsSized (PollOpened number au nonce inner tick limits kind) =
    (number < 2 ^ 32) × (au < 2 ^ 16) × (length nonce ≡ 32) × ArePeers inner × (tick < 2 ^ 32)
IsSized (Nominated number voter nominees) = (number < 2 ^ 32) × (voter < 2 ^ 16) × ArePeers nominees
IsSized (OuterOpened number outer) = (number < 2 ^ 32) × ArePeers outer
IsSized (VoteIn number voter hashes) = (number < 2 ^ 32) × (voter < 2 ^ 16) × AreHashes hashes
IsSized (Shut number) = number < 2 ^ 32
IsSized (Asked number block voter) = (number < 2 ^ 32) × (voter < 2 ^ 16)
IsSized (RepairBad number block voter) = (number < 2 ^ 32) × (voter < 2 ^ 16)
IsSized (Replaced number au block bytes) = (number < 2 ^ 32) × (au < 2 ^ 16)
IsSized (Closed number outcome tick) = (number < 2 ^ 32) × (tick < 2 ^ 32)
IsSized (Overdue au tick) = (au < 2 ^ 16) × (tick < 2 ^ 32)
IsSized (Joined poll au tick low repairs) = IsPoll poll × (au < 2 ^ 16) × (tick < 2 ^ 32)
IsSized (Committed poll nonce version kind) = IsPoll poll × (length nonce ≡ 32) × (version < 2 ^ 32)
IsSized (Voted poll hashes) = IsPoll poll × AreHashes hashes
IsSized (Served poll block) = IsPoll poll
IsSized (Ended poll) = IsPoll poll
IsSized (Tuned quorum minority repairs) = Unit {0}

-- a record that has a spelling which is read again
abbrev pub IsInLimits : Record → Type 0
IsInLimits r = IsWithin r × IsSized r

-- ---- batches

-- the one spelling of a batch: its records behind their count
abbrev pub batch_spelling : List Record → List ℕ
batch_spelling list = to_be_bytes w16 (length list) ++ flat_map spelling list

-- the records are one at least, and no more than their count can say
abbrev pub IsCounted : List Record → Type 0
IsCounted list = (1 ≤ length list) × (length list ≤ 65535)

-- a batch that has a spelling which is read again
abbrev pub IsBatch : List Record → Type 0
IsBatch list = IsCounted list × All IsInLimits list
