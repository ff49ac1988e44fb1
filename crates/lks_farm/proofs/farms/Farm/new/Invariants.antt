use Rattle.lks_farm.proofs.farms.Farm.new.Given as goal

abbrev pub ghosts-named : goal.ghosts-named
ghosts-named a = record { pool = a.pool }
