use Rattle.lks_rule_trials.proofs.poller.hashes_of.Given as goal

abbrev pub ghosts-hashes_counted : goal.ghosts-hashes_counted
ghosts-hashes_counted a = record { name = a.blank.name; parts = a.blank.parts }
