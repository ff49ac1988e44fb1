use Rattle.lks_rule_trials.proofs.tally.second_on.Given as goal

-- the ledger that counts the links
abbrev pub ghosts-second_counted : goal.ghosts-second_counted
ghosts-second_counted a = record { name = a.blank.name; parts = a.blank.parts }
