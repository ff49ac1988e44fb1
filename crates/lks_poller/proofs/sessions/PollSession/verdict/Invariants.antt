use Rattle.lks_poller.proofs.sessions.PollSession.verdict.Given as goal

abbrev pub ghosts-verdict_counted : goal.ghosts-verdict_counted
ghosts-verdict_counted g a = record { name = a.blank.name; parts = a.blank.parts }
