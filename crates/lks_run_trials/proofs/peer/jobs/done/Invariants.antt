use Rattle.lks_run_trials.proofs.peer.jobs.done.Given as goal

-- the ledger that counts the links
abbrev pub ghosts-hash_counted : goal.ghosts-hash_counted
ghosts-hash_counted a = record { name = a.blank.name; parts = a.blank.parts }
