use Rattle.lks_rule_trials.proofs.tally.holders_of.Given as goal

-- the ledger that counts the links
abbrev pub ghosts-holders_counted : goal.ghosts-holders_counted
ghosts-holders_counted a = record { name = a.blank.name; parts = a.blank.parts }
