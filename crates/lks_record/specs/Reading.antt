-- Reading a batch from left to right, with the first fault that is met.
use Rattle.std.specs.Prelude.{◌==◌, ℕ, Bool, true, false, not, Option, None, Some, List, Result, Ok, Err, nat_lt}
use Rattle.std.specs.Prelude.{if◌then◌else◌}
use Rattle.std.specs.Int.{w16, w32}
use Rattle.lks_base.specs.declared.limits.TheConstants.{LAST_BLOCK, MOST_BLOCKS, MOST_BLOCK_BYTES, MOST_CIRCLE}
use Rattle.lks_base.specs.declared.limits.TheConstants.{MOST_NOMINEES, MOST_REPAIRS}
use Rattle.lks_base.specs.declared.records.Record.{Record}
use Rattle.lks_base.specs.declared.records.Record.TheVariants as records
use Rattle.lks_base.specs.Kinds.{is_second}
use Rattle.lks_base.specs.declared.names.HashKind.{HashKind}
use Rattle.lks_base.specs.declared.names.HashKind.TheVariants.{Sha256, Sha512_256}
use Rattle.lks_base.specs.declared.names.Limits.{Limits}
use Rattle.lks_base.specs.declared.names.PollName.{PollName}
use Rattle.lks_base.specs.declared.names.Outcome.{Outcome}
use Rattle.lks_base.specs.declared.names.Outcome.TheVariants as outcomes
use Rattle.lks_base.specs.Quorums.{obeys_quorum_rule}
use Rattle.lks_field.specs.Reading.{◌>>=◌, byte_at, kind_at, hash_at, number_at, upto_at, sized_at, list_at, end_of}
use Rattle.lks_field.specs.Reading.{tagged, FailsBut, GivesBut, ReadsBut}
use Rattle.lks_record.specs.declared.fault.RecFault.{RecFault}
use Rattle.lks_record.specs.declared.fault.RecFault.TheVariants.{Form, Tag, Limit}
use Rattle.lks_record.specs.declared.heading.OpeningForm.{OpeningForm}
use Rattle.lks_record.specs.declared.heading.OpeningForm.TheVariants.{Plain, Limited, OfKind}
use Rattle.lks_record.specs.declared.heading.RecordHeading.{RecordHeading}
use Rattle.lks_record.specs.declared.heading.RecordHeading.TheVariants.{Deposit, PollOpened, Nominated, OuterOpened}
use Rattle.lks_record.specs.declared.heading.RecordHeading.TheVariants.{VoteIn, Shut, Asked, RepairBad, Replaced}
use Rattle.lks_record.specs.declared.heading.RecordHeading.TheVariants.{Closed, Overdue, Joined, Committed, Voted}
use Rattle.lks_record.specs.declared.heading.RecordHeading.TheVariants.{Served, Ended, Tuned}
use Rattle.lks_record.specs.Faults.{told_as, field, is_memory}

-- ---- form and tag

-- what a tag announces under the first form
unfoldable pub first_heading : ℕ → Result RecordHeading RecFault
first_heading tag =
    if tag == 1 then Ok Deposit
    else if tag == 2 then Ok (PollOpened Plain)
    else if tag == 3 then Ok Nominated
    else if tag == 4 then Ok OuterOpened
    else if tag == 5 then Ok VoteIn
    else if tag == 6 then Ok Shut
    else if tag == 7 then Ok Asked
    else if tag == 8 then Ok RepairBad
    else if tag == 9 then Ok Replaced
    else if tag == 10 then Ok Closed
    else if tag == 11 then Ok Overdue
    else if tag == 12 then Ok (Joined false)
    else if tag == 13 then Ok (Committed Sha256)
    else if tag == 14 then Ok Voted
    else if tag == 15 then Ok Served
    else if tag == 16 then Ok Ended
    else Err Tag

-- and under the second, which the records have that tell more than at first
unfoldable pub second_heading : ℕ → Result RecordHeading RecFault
second_heading tag =
    if tag == 2 then Ok (PollOpened Limited)
    else if tag == 12 then Ok (Joined true)
    else if tag == 13 then Ok (Committed Sha512_256)
    else if tag == 17 then Ok Tuned
    else Err Tag

-- and under the third, of openings with the second kind of hash
unfoldable pub third_heading : ℕ → Result RecordHeading RecFault
third_heading tag = if tag == 2 then Ok (PollOpened OfKind) else Err Tag

-- form and tag: the form is judged before the tag is read
unfoldable pub heading_at : List ℕ → Result (RecordHeading × List ℕ) RecFault
heading_at bytes = do
  form ← field (byte_at bytes)
  if form.0 == 1 then tagged told_as first_heading form.1
      else if form.0 == 2 then tagged told_as second_heading form.1
      else if form.0 == 3 then tagged told_as third_heading form.1
      else Err Form

-- ---- fields

-- the number of a peer or an AU
unfoldable pub id_at : List ℕ → Result (ℕ × List ℕ) RecFault
id_at bytes = field (number_at w16 bytes)

-- the number of a poll, a tick or a version
unfoldable pub long_at : List ℕ → Result (ℕ × List ℕ) RecFault
long_at bytes = field (number_at w32 bytes)

-- a nonce or a hash
unfoldable pub nonce_at : List ℕ → Result (List ℕ × List ℕ) RecFault
nonce_at bytes = field (hash_at bytes)

-- yes or no
unfoldable pub flag_at : List ℕ → Result (Bool × List ℕ) RecFault
flag_at bytes = do
  n ← field (upto_at 1 byte_at bytes)
  Ok (n.0 == 1, n.1)

-- a number from 1 to this one
unfoldable pub from_one_at : ℕ → List ℕ → Result (ℕ × List ℕ) RecFault
from_one_at most bytes = do
  n ← field (upto_at most (number_at w16) bytes)
  if n.0 == 0 then Err Limit else Ok n

-- at most so many peers behind their count, a byte
unfoldable pub peers_at : ℕ → List ℕ → Result (List ℕ × List ℕ) RecFault
peers_at most bytes = field (list_at (upto_at most byte_at) (number_at w16) bytes)

-- hashes behind their count
unfoldable pub hashes_at : List ℕ → Result (List (List ℕ) × List ℕ) RecFault
hashes_at bytes = field (list_at (upto_at MOST_BLOCKS (number_at w16)) hash_at bytes)

-- the number of a block
unfoldable pub block_at : List ℕ → Result (ℕ × List ℕ) RecFault
block_at bytes = field (upto_at LAST_BLOCK (number_at w16) bytes)

-- the bytes of a block behind their length
unfoldable pub content_at : List ℕ → Result (List ℕ × List ℕ) RecFault
content_at bytes = field (sized_at (upto_at MOST_BLOCK_BYTES (number_at w16)) bytes)

-- blocks behind their count, one at least
unfoldable pub blocks_at : List ℕ → Result (List (List ℕ) × List ℕ) RecFault
blocks_at bytes = list_at (from_one_at MOST_BLOCKS) content_at bytes

-- the name of a poll
unfoldable pub poll_at : List ℕ → Result (PollName × List ℕ) RecFault
poll_at bytes = do
  poller ← id_at bytes
  number ← long_at poller.1
  Ok (record { poller = poller.0; number = number.0 }, number.1)

-- a minority that obeys the rule of quorums with this quorum
unfoldable pub minority_at : ℕ → List ℕ → Result (ℕ × List ℕ) RecFault
minority_at quorum bytes = do
  n ← field (number_at w16 bytes)
  if not (obeys_quorum_rule quorum n.0) then Err Limit else Ok n

-- a quorum and its minority
unfoldable pub limits_at : List ℕ → Result (Limits × List ℕ) RecFault
limits_at bytes = do
  quorum ← from_one_at MOST_CIRCLE bytes
  minority ← minority_at quorum.0 quorum.1
  Ok (record { quorum = quorum.0; minority = minority.0 }, minority.1)

-- how many repairs a voter serves
unfoldable pub repairs_at : List ℕ → Result (ℕ × List ℕ) RecFault
repairs_at bytes = field (upto_at MOST_REPAIRS (number_at w16) bytes)

-- what is read only where it is spelled
unfoldable pub optional_at : {X : Type 0} → (List ℕ → Result (X × List ℕ) RecFault) → Bool → List ℕ
    → Result (Option X × List ℕ) RecFault
optional_at reader false bytes = Ok (None, bytes)
optional_at reader true bytes = do
  x ← reader bytes
  Ok (Some x.0, x.1)

-- the kind that a heading tells, and its byte
unfoldable pub said_kind_at : HashKind → List ℕ → Result (HashKind × List ℕ) RecFault
said_kind_at kind bytes = do
  known ← field (kind_at (is_second kind) bytes)
  Ok (kind, known.1)

-- the greatest block that may follow a code
abbrev pub last_block : ℕ → ℕ
last_block code = if nat_lt code 2 then 0 else LAST_BLOCK

-- the outcome that a code and a block tell
abbrev pub outcome_as : ℕ → ℕ → Outcome
outcome_as code block =
    if code == 0 then outcomes.Agreed
    else if code == 1 then outcomes.Inquorate
    else if code == 2 then outcomes.Split block
    else outcomes.NoSupplier block

-- a code, and a block or 0
unfoldable pub outcome_at : List ℕ → Result (Outcome × List ℕ) RecFault
outcome_at bytes = do
  code ← field (upto_at 3 byte_at bytes)
  block ← field (upto_at (last_block code.0) (number_at w16) code.1)
  Ok (outcome_as code.0 block.0, block.1)

-- ---- records, behind their heading

-- whether an opening has limits
abbrev pub is_limited : OpeningForm → Bool
is_limited Plain = false
is_limited Limited = true
is_limited OfKind = true

-- the kind of its hashes
abbrev pub kind_in : OpeningForm → HashKind
kind_in Plain = Sha256
kind_in Limited = Sha256
kind_in OfKind = Sha512_256

-- a deposit: its AU and the blocks
unfoldable pub deposit_at : List ℕ → Result (Record × List ℕ) RecFault
deposit_at bytes = do
  au ← id_at bytes
  blocks ← blocks_at au.1
  Ok (records.Deposit au.0 blocks.0, blocks.1)

-- a poll that opened, with what its form tells
unfoldable pub opened_at : OpeningForm → List ℕ → Result (Record × List ℕ) RecFault
opened_at opening bytes = do
  number ← long_at bytes
  au ← id_at number.1
  nonce ← nonce_at au.1
  inner ← peers_at MOST_CIRCLE nonce.1
  tick ← long_at inner.1
  limits ← optional_at limits_at (is_limited opening) tick.1
  kind ← said_kind_at (kind_in opening) limits.1
  Ok (records.PollOpened number.0 au.0 nonce.0 inner.0 tick.0 limits.0 kind.0, kind.1)

-- a nomination that came in
unfoldable pub nominated_at : List ℕ → Result (Record × List ℕ) RecFault
nominated_at bytes = do
  number ← long_at bytes
  voter ← id_at number.1
  nominees ← peers_at MOST_NOMINEES voter.1
  Ok (records.Nominated number.0 voter.0 nominees.0, nominees.1)

-- an outer circle that was invited
unfoldable pub outer_at : List ℕ → Result (Record × List ℕ) RecFault
outer_at bytes = do
  number ← long_at bytes
  outer ← peers_at MOST_CIRCLE number.1
  Ok (records.OuterOpened number.0 outer.0, outer.1)

-- a vote that came in
unfoldable pub vote_in_at : List ℕ → Result (Record × List ℕ) RecFault
vote_in_at bytes = do
  number ← long_at bytes
  voter ← id_at number.1
  hashes ← hashes_at voter.1
  Ok (records.VoteIn number.0 voter.0 hashes.0, hashes.1)

-- a poll that was shut
unfoldable pub shut_at : List ℕ → Result (Record × List ℕ) RecFault
shut_at bytes = do
  number ← long_at bytes
  Ok (records.Shut number.0, number.1)

-- a voter that was asked for a block
unfoldable pub asked_at : List ℕ → Result (Record × List ℕ) RecFault
asked_at bytes = do
  number ← long_at bytes
  block ← block_at number.1
  voter ← id_at block.1
  Ok (records.Asked number.0 block.0 voter.0, voter.1)

-- a repair that didn't serve
unfoldable pub repair_bad_at : List ℕ → Result (Record × List ℕ) RecFault
repair_bad_at bytes = do
  number ← long_at bytes
  block ← block_at number.1
  voter ← id_at block.1
  Ok (records.RepairBad number.0 block.0 voter.0, voter.1)

-- a block that was replaced
unfoldable pub replaced_at : List ℕ → Result (Record × List ℕ) RecFault
replaced_at bytes = do
  number ← long_at bytes
  au ← id_at number.1
  block ← block_at au.1
  content ← content_at block.1
  Ok (records.Replaced number.0 au.0 block.0 content.0, content.1)

-- a poll that closed
unfoldable pub closed_at : List ℕ → Result (Record × List ℕ) RecFault
closed_at bytes = do
  number ← long_at bytes
  outcome ← outcome_at number.1
  tick ← long_at outcome.1
  Ok (records.Closed number.0 outcome.0 tick.0, tick.1)

-- an AU that is overdue
unfoldable pub overdue_at : List ℕ → Result (Record × List ℕ) RecFault
overdue_at bytes = do
  au ← id_at bytes
  tick ← long_at au.1
  Ok (records.Overdue au.0 tick.0, tick.1)

-- a part in another peer's poll that began, with the repairs that its form tells
unfoldable pub joined_at : Bool → List ℕ → Result (Record × List ℕ) RecFault
joined_at told bytes = do
  poll ← poll_at bytes
  au ← id_at poll.1
  tick ← long_at au.1
  low ← flag_at tick.1
  repairs ← optional_at repairs_at told low.1
  Ok (records.Joined poll.0 au.0 tick.0 low.0 repairs.0, repairs.1)

-- a vote that is to come, over this version of the copy
unfoldable pub committed_at : HashKind → List ℕ → Result (Record × List ℕ) RecFault
committed_at as_kind bytes = do
  poll ← poll_at bytes
  nonce ← nonce_at poll.1
  version ← long_at nonce.1
  kind ← said_kind_at as_kind version.1
  Ok (records.Committed poll.0 nonce.0 version.0 kind.0, kind.1)

-- a vote that went out
unfoldable pub voted_at : List ℕ → Result (Record × List ℕ) RecFault
voted_at bytes = do
  poll ← poll_at bytes
  hashes ← hashes_at poll.1
  Ok (records.Voted poll.0 hashes.0, hashes.1)

-- a block that was served
unfoldable pub served_at : List ℕ → Result (Record × List ℕ) RecFault
served_at bytes = do
  poll ← poll_at bytes
  block ← block_at poll.1
  Ok (records.Served poll.0 block.0, block.1)

-- a part in another peer's poll that ended
unfoldable pub ended_at : List ℕ → Result (Record × List ℕ) RecFault
ended_at bytes = do
  poll ← poll_at bytes
  Ok (records.Ended poll.0, poll.1)

-- numbers that the operator changed
unfoldable pub tuned_at : List ℕ → Result (Record × List ℕ) RecFault
tuned_at bytes = do
  limits ← limits_at bytes
  repairs ← repairs_at limits.1
  Ok (records.Tuned limits.0.quorum limits.0.minority repairs.0, repairs.1)

-- the record that the heading announces
abbrev pub body_at : RecordHeading → List ℕ → Result (Record × List ℕ) RecFault
body_at Deposit bytes = deposit_at bytes
body_at (PollOpened opening) bytes = opened_at opening bytes
body_at Nominated bytes = nominated_at bytes
body_at OuterOpened bytes = outer_at bytes
body_at VoteIn bytes = vote_in_at bytes
body_at Shut bytes = shut_at bytes
body_at Asked bytes = asked_at bytes
body_at RepairBad bytes = repair_bad_at bytes
body_at Replaced bytes = replaced_at bytes
body_at Closed bytes = closed_at bytes
body_at Overdue bytes = overdue_at bytes
body_at (Joined told) bytes = joined_at told bytes
body_at (Committed kind) bytes = committed_at kind bytes
body_at Voted bytes = voted_at bytes
body_at Served bytes = served_at bytes
body_at Ended bytes = ended_at bytes
body_at Tuned bytes = tuned_at bytes

-- a record with its heading
unfoldable pub record_at : List ℕ → Result (Record × List ℕ) RecFault
record_at bytes = do
  heading ← heading_at bytes
  body_at heading.0 heading.1

-- ---- batches

-- records behind their count, one at least
unfoldable pub batch_at : List ℕ → Result (List Record × List ℕ) RecFault
batch_at bytes = list_at (from_one_at 65535) record_at bytes

-- the batch that all of the bytes spell, or their first fault
unfoldable pub decode_of : List ℕ → Result (List Record) RecFault
decode_of bytes = do
  list ← batch_at bytes
  ended ← field (end_of list.1)
  Ok list.0

-- ---- what the code answers

-- The fault is the one of reading, or memory ran out.
abbrev pub Fails : {X : Type 0} → RecFault → Result X RecFault → Type 0
Fails fault read = FailsBut is_memory fault read

-- The answer, seen by view, is that of reading, unless memory ran out.
abbrev pub Gives : {X Y : Type 0} → (X → Y) → Result X RecFault → Result Y RecFault → Type 0
Gives view result read = GivesBut is_memory view result read

-- The same where bytes are left.
abbrev pub ReadsBy : {X Y : Type 0} → (X → Y) → Result X RecFault → List ℕ → Result (Y × List ℕ) RecFault → Type 0
ReadsBy view result left read = ReadsBut is_memory view result left read

-- the same of an answer that is seen as it is
abbrev pub Reads : {X : Type 0} → Result X RecFault → List ℕ → Result (X × List ℕ) RecFault → Type 0
Reads result left read = ReadsBy (λ x. x) result left read
