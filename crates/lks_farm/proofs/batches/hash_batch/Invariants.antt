use Rattle.std.proofs.Common.{map}
use Rattle.lks_farm.specs.Entries.{asked_of}
use Rattle.lks_farm.proofs.batches.hash_batch.Given as goal

-- the pile is of these jobs
abbrev pub ghosts-hash_side_by_side : goal.ghosts-hash_side_by_side
ghosts-hash_side_by_side g a = record { asked = map asked_of a.jobs.items }
