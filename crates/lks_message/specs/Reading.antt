-- Reading a message from left to right, with the first fault that is met.
use Rattle.std.specs.Prelude.{◌==◌, ℕ, List, Result, Ok, Err, if◌then◌else◌}
use Rattle.std.specs.Int.{w16, w32}
use Rattle.lks_base.specs.Kinds.{is_second}
use Rattle.lks_base.specs.declared.limits.TheConstants.{LAST_BLOCK, MOST_BLOCKS, MOST_BLOCK_BYTES, MOST_NOMINEES}
use Rattle.lks_base.specs.declared.limits.TheConstants.{MOST_PROOF_BYTES}
use Rattle.lks_base.specs.declared.messages.Message.{Message}
use Rattle.lks_base.specs.declared.messages.Message.TheVariants as messages
use Rattle.lks_base.specs.declared.names.HashKind.{HashKind}
use Rattle.lks_base.specs.declared.names.HashKind.TheVariants.{Sha256, Sha512_256}
use Rattle.lks_field.specs.Reading.{◌>>=◌, byte_at, kind_at, hash_at, number_at, upto_at, sized_at, list_at, end_of}
use Rattle.lks_field.specs.Reading.{tagged, GivesBut, ReadsBut}
use Rattle.lks_message.specs.declared.fault.MsgFault.{MsgFault}
use Rattle.lks_message.specs.declared.fault.MsgFault.TheVariants.{Version, Tag}
use Rattle.lks_message.specs.declared.heading.MessageHeading.{MessageHeading}
use Rattle.lks_message.specs.declared.heading.MessageHeading.TheVariants.{Poll, PollChallenge, PollProof, Nominate}
use Rattle.lks_message.specs.declared.heading.MessageHeading.TheVariants.{Vote, RepairRequest, Repair, Receipt}
use Rattle.lks_message.specs.Faults.{told_as, field, is_memory}

-- ---- version and tag

-- what a tag announces under the first version
unfoldable pub first_heading : ℕ → Result MessageHeading MsgFault
first_heading tag =
    if tag == 1 then Ok Poll
    else if tag == 2 then Ok PollChallenge
    else if tag == 3 then Ok (PollProof Sha256)
    else if tag == 4 then Ok Nominate
    else if tag == 5 then Ok Vote
    else if tag == 6 then Ok RepairRequest
    else if tag == 7 then Ok Repair
    else if tag == 8 then Ok Receipt
    else Err Tag

-- and under the second, which has the proofs of the second kind of hash alone
unfoldable pub second_heading : ℕ → Result MessageHeading MsgFault
second_heading tag = if tag == 3 then Ok (PollProof Sha512_256) else Err Tag

-- version and tag: the version is judged before the tag is read
unfoldable pub heading_at : List ℕ → Result (MessageHeading × List ℕ) MsgFault
heading_at bytes = do
  version ← field (byte_at bytes)
  if version.0 == 1 then tagged told_as first_heading version.1
      else if version.0 == 2 then tagged told_as second_heading version.1
      else Err Version

-- ---- fields

-- a proof of effort behind its length, a byte
unfoldable pub proof_at : List ℕ → Result (List ℕ × List ℕ) MsgFault
proof_at bytes = field (sized_at (upto_at MOST_PROOF_BYTES byte_at) bytes)

-- nominees behind their count, a byte
unfoldable pub nominees_at : List ℕ → Result (List ℕ × List ℕ) MsgFault
nominees_at bytes = field (list_at (upto_at MOST_NOMINEES byte_at) (number_at w16) bytes)

-- hashes behind their count
unfoldable pub hashes_at : List ℕ → Result (List (List ℕ) × List ℕ) MsgFault
hashes_at bytes = field (list_at (upto_at MOST_BLOCKS (number_at w16)) hash_at bytes)

-- the number of a block
unfoldable pub block_at : List ℕ → Result (ℕ × List ℕ) MsgFault
block_at bytes = field (upto_at LAST_BLOCK (number_at w16) bytes)

-- the bytes of a block behind their length
unfoldable pub content_at : List ℕ → Result (List ℕ × List ℕ) MsgFault
content_at bytes = field (sized_at (upto_at MOST_BLOCK_BYTES (number_at w16)) bytes)

-- ---- messages, behind their number

-- an invitation to a poll: its AU
unfoldable pub poll_at : ℕ → List ℕ → Result (Message × List ℕ) MsgFault
poll_at number bytes = do
  au ← field (number_at w16 bytes)
  Ok (messages.Poll number au.0, au.1)

-- the answer to one: whether the peer takes part
unfoldable pub challenge_at : ℕ → List ℕ → Result (Message × List ℕ) MsgFault
challenge_at number bytes = do
  joins ← field (upto_at 1 byte_at bytes)
  Ok (messages.PollChallenge number (joins.0 == 1), joins.1)

-- the proof of a poll: its nonce, its kind of hash and the proof
unfoldable pub poll_proof_at : HashKind → ℕ → List ℕ → Result (Message × List ℕ) MsgFault
poll_proof_at kind number bytes = do
  nonce ← field (hash_at bytes)
  known ← field (kind_at (is_second kind) nonce.1)
  proof ← proof_at known.1
  Ok (messages.PollProof number nonce.0 kind proof.0, proof.1)

-- a nomination: its nominees
unfoldable pub nominate_at : ℕ → List ℕ → Result (Message × List ℕ) MsgFault
nominate_at number bytes = do
  nominees ← nominees_at bytes
  Ok (messages.Nominate number nominees.0, nominees.1)

-- a vote: its hashes and the proof
unfoldable pub vote_at : ℕ → List ℕ → Result (Message × List ℕ) MsgFault
vote_at number bytes = do
  hashes ← hashes_at bytes
  proof ← proof_at hashes.1
  Ok (messages.Vote number hashes.0 proof.0, proof.1)

-- a request for a repair: the block
unfoldable pub request_at : ℕ → List ℕ → Result (Message × List ℕ) MsgFault
request_at number bytes = do
  block ← block_at bytes
  Ok (messages.RepairRequest number block.0, block.1)

-- a repair: the block and its bytes
unfoldable pub repair_at : ℕ → List ℕ → Result (Message × List ℕ) MsgFault
repair_at number bytes = do
  block ← block_at bytes
  content ← content_at block.1
  Ok (messages.Repair number block.0 content.0, content.1)

-- the message that the heading announces
abbrev pub message_at : MessageHeading → ℕ → List ℕ → Result (Message × List ℕ) MsgFault
message_at Poll number bytes = poll_at number bytes
message_at PollChallenge number bytes = challenge_at number bytes
message_at (PollProof kind) number bytes = poll_proof_at kind number bytes
message_at Nominate number bytes = nominate_at number bytes
message_at Vote number bytes = vote_at number bytes
message_at RepairRequest number bytes = request_at number bytes
message_at Repair number bytes = repair_at number bytes
message_at Receipt number bytes = Ok (messages.Receipt number, bytes)

-- the message that all of the bytes spell, or their first fault
unfoldable pub decode_of : List ℕ → Result Message MsgFault
decode_of bytes = do
  heading ← heading_at bytes
  number ← field (number_at w32 heading.1)
  message ← message_at heading.0 number.0 number.1
  ended ← field (end_of message.1)
  Ok message.0

-- ---- what the code answers

-- The answer is that of reading, unless memory ran out.
abbrev pub Gives : {X : Type 0} → Result X MsgFault → Result X MsgFault → Type 0
Gives result read = GivesBut is_memory (λ x. x) result read

-- The same where bytes are left.
abbrev pub Reads : {X : Type 0} → Result X MsgFault → List ℕ → Result (X × List ℕ) MsgFault → Type 0
Reads result left read = ReadsBut is_memory (λ x. x) result left read
