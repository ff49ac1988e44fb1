use Rattle.lks_rule_trials.proofs.hash.vote.Given as goal

-- the ledger that counts this vote's links
abbrev pub ghosts-vote_counted : goal.ghosts-vote_counted
ghosts-vote_counted a = record { name = a.blank.name; parts = a.blank.parts }
