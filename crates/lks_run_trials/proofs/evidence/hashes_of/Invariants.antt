use Rattle.lks_run_trials.proofs.evidence.hashes_of.Given as goal

abbrev pub ghosts-hash_all : goal.ghosts-hash_all
ghosts-hash_all a = record { name = a.blank.name; parts = a.blank.parts }
