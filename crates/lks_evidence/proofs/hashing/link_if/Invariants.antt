use Rattle.lks_evidence.proofs.hashing.link_if.Given as goal

abbrev pub ghosts-link_counted : goal.ghosts-link_counted
ghosts-link_counted a = record { name = a.blank.name; parts = a.blank.parts }
