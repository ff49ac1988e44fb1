use Rattle.lks_evidence.proofs.hashing.hash_before.Given as goal

abbrev pub ghosts-link_all : goal.ghosts-link_all
ghosts-link_all a = record { name = a.blank.name; parts = a.blank.parts }
