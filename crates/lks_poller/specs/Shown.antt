-- What contracts see of a session.
use Rattle.lks_poller.specs.declared.sessions.PollSession.TheInside.{Inside}
use Rattle.lks_poller.specs.Polling.{Polled}

-- the poll that the fields of a session stand for
abbrev pub shown_session : Inside → Polled
shown_session a =
    record {
      tally = a.tally;
      inner = a.inner;
      nominations = a.nominations.items;
      outer = a.outer;
      outer_votes = a.outer_votes.items;
      voters = a.voters.items;
      shut = a.shut;
      closed = a.closed;
      suppliers = a.suppliers;
    }
