use Rattle.std.proofs.Common.{length}
use Rattle.lks_gather.proofs.Records.{IsReading}
use Rattle.lks_gather.proofs.lists.read_list.Given as goal

abbrev pub invariant-batches : goal.invariant-batches
invariant-batches l = IsReading l.file l.list.items l.rest

abbrev pub decreases-batches : goal.decreases-batches
decreases-batches l = length l.rest
