use Rattle.lks_poller.proofs.sessions.PollSession.answer_of.Given as goal

abbrev pub ghosts-at_counted : goal.ghosts-at_counted
ghosts-at_counted g a = record { name = a.blank.name; parts = a.blank.parts }
