use Rattle.lks_saying.proofs.sayings.hash_blocks.Given as goal

abbrev pub ghosts-hash_counted : goal.ghosts-hash_counted
ghosts-hash_counted a = record { name = a.blank.name; parts = a.blank.parts }
