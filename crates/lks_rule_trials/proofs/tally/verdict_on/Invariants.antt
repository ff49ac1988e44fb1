use Rattle.lks_rule_trials.proofs.tally.verdict_on.Given as goal

-- the ledger that counts the links
abbrev pub ghosts-verdict_counted : goal.ghosts-verdict_counted
ghosts-verdict_counted a = record { name = a.blank.name; parts = a.blank.parts }
