use Rattle.lks_rule_trials.proofs.work.tally_on.Given as goal

-- the ledger that counts the links
abbrev pub ghosts-tally_counted : goal.ghosts-tally_counted
ghosts-tally_counted g a = record { name = a.blank.name; parts = a.blank.parts }
