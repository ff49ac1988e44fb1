use Rattle.lks_rule_trials.proofs.tally.repair.Given as goal

-- the ledger that counts the links
abbrev pub ghosts-repair_counted : goal.ghosts-repair_counted
ghosts-repair_counted g a = record { name = a.blank.name; parts = a.blank.parts }
