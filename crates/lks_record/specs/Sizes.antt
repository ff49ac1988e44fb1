-- How long spellings are at most.
use Rattle.std.specs.Prelude.{ℕ, ◌+◌, ◌*◌, List, sum_by}
use Rattle.lks_base.specs.declared.limits.TheConstants.{MOST_BLOCKS, MOST_BLOCK_BYTES, MOST_CIRCLE, MOST_NOMINEES}
use Rattle.lks_base.specs.declared.records.Record.{Record}
use Rattle.lks_base.specs.declared.records.Record.TheVariants.{Deposit, PollOpened, Nominated, OuterOpened, VoteIn}
use Rattle.lks_base.specs.declared.records.Record.TheVariants.{Shut, Asked, RepairBad, Replaced, Closed, Overdue}
use Rattle.lks_base.specs.declared.records.Record.TheVariants.{Joined, Committed, Voted, Served, Ended, Tuned}

-- a record in its limits has at most so many bytes: a block of a deposit has a length before it, a hash 32 bytes, a
-- peer 2
abbrev pub most_bytes : Record → ℕ
most_bytes (Deposit au blocks) = 6 + MOST_BLOCKS * (2 + MOST_BLOCK_BYTES)
most_bytes (PollOpened number au nonce inner tick limits kind) = 50 + MOST_CIRCLE * 2
most_bytes (Nominated number voter nominees) = 9 + MOST_NOMINEES * 2
most_bytes (OuterOpened number outer) = 7 + MOST_CIRCLE * 2
most_bytes (VoteIn number voter hashes) = 10 + MOST_BLOCKS * 32
most_bytes (Shut number) = 6
most_bytes (Asked number block voter) = 10
most_bytes (RepairBad number block voter) = 10
most_bytes (Replaced number au block bytes) = 12 + MOST_BLOCK_BYTES
most_bytes (Closed number outcome tick) = 13
most_bytes (Overdue au tick) = 8
most_bytes (Joined poll au tick low repairs) = 17
most_bytes (Committed poll nonce version kind) = 45
most_bytes (Voted poll hashes) = 10 + MOST_BLOCKS * 32
most_bytes (Served poll block) = 10
most_bytes (Ended poll) = 8
most_bytes (Tuned quorum minority repairs) = 8

-- a batch of such records has at most so many, with its count
abbrev pub most_batch_bytes : List Record → ℕ
most_batch_bytes list = 2 + sum_by most_bytes list
