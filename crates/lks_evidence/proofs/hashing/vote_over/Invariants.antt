use Rattle.lks_evidence.proofs.hashing.vote_over.Given as goal

abbrev pub ghosts-hash_each : goal.ghosts-hash_each
ghosts-hash_each a = record { name = a.blank.name; parts = a.blank.parts }
