use Rattle.lks_poller.proofs.sessions.PollSession.outer_for.Given as goal

abbrev pub ghosts-for_counted : goal.ghosts-for_counted
ghosts-for_counted g a = record { name = a.blank.name; parts = a.blank.parts }
