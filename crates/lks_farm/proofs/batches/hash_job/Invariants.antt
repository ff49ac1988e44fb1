use Rattle.lks_farm.proofs.batches.hash_job.Given as goal

abbrev pub ghosts-hash_votes : goal.ghosts-hash_votes
ghosts-hash_votes g a = record { name = a.blank.name; parts = a.blank.parts }
