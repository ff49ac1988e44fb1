-- What a batch names.
use Rattle.std.proofs.Common.{List, arith}
use Rattle.std.specs.Prelude.{Option, Some, None, option_map}
use Rattle.lks_base.specs.declared.messages.Message.TheVariants as message
use Rattle.lks_base.specs.declared.names.Judged.TheVariants.{NotAsked}
use Rattle.lks_base.specs.declared.reactions.Input.TheVariants as input
use Rattle.lks_base.specs.declared.records.Record.{Record}
use Rattle.lks_base.specs.declared.records.Record.TheVariants as records
use Rattle.lks_law.specs.Behind.{last_asked, input_named}
use Rattle.lks_law.specs.Facts.{IsHeard}
use Rattle.lks_law.specs.Fitting.{Where}
use Rattle.lks_law.specs.Journal.{Request}
use Rattle.lks_record.specs.Spelling.{IsWithin}

-- the message that a record in its limits names is in its own
pub heard_named : (js : List Record) (r : Record) → IsWithin r → Where (input_named js r) IsHeard
heard_named js (records.Deposit au blocks) within = tt
heard_named js (records.PollOpened number au nonce inner tick limits kind) within = tt
heard_named js (records.Nominated number voter nominees) within = within
heard_named js (records.OuterOpened number outer) within = tt
heard_named js (records.VoteIn number voter hashes) within = (within, omega arith)
heard_named js (records.Shut number) within = tt
heard_named js (records.Asked number block voter) within = tt
heard_named js (records.RepairBad number block voter) within = tt
heard_named js (records.Replaced number au block bytes) within = by_request (last_asked number js)
  where
    by_request : (o : Option Request)
        → Where (option_map (λ (r : Request). input.Got r.voter (message.Repair number block bytes) NotAsked) o)
        IsHeard
    by_request None = tt
    by_request (Some r) = within
heard_named js (records.Closed number outcome tick) within = tt
heard_named js (records.Overdue au tick) within = tt
heard_named js (records.Joined poll au tick low repairs) within = tt
heard_named js (records.Committed poll nonce version kind) within = omega arith
heard_named js (records.Voted poll hashes) within = tt
heard_named js (records.Served poll block) within = within
heard_named js (records.Ended poll) within = tt
heard_named js (records.Tuned quorum minority repairs) within = tt
