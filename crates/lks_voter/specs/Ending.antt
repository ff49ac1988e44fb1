-- The poll and the AU of a session, which are what is left at its end.
use Rattle.std.specs.Prelude.{ℕ}
use Rattle.lks_base.specs.declared.names.PollName.{PollName}
use Rattle.lks_voter.specs.States.{Ending}
use Rattle.lks_voter.specs.declared.sessions.Session.{Session}
use Rattle.lks_voter.specs.declared.sessions.Session.TheVariants as session

abbrev pub poll_of : Session → PollName
poll_of (session.Joined joined) = joined.poll
poll_of (session.Committed committed) = committed.joined.poll
poll_of (session.Voted vote) = vote.committed.joined.poll
poll_of (session.Ended ended_session) = ended_session.poll

abbrev pub au_of : Session → ℕ
au_of (session.Joined joined) = joined.au
au_of (session.Committed committed) = committed.joined.au
au_of (session.Voted vote) = vote.committed.joined.au
au_of (session.Ended ended_session) = ended_session.au

abbrev pub ended_session : Session → Ending
ended_session s = record { poll = poll_of s; au = au_of s }
