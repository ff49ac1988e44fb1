-- The poll that a session runs, over which the rules are said.
use Rattle.std.specs.Prelude.{ℕ, Some, map, option_map}
use Rattle.lks_choice.specs.Asking.{awaited_request}
use Rattle.lks_tally.specs.Running.{Nomination, Poll, Request}
use Rattle.lks_poller.specs.Polling.{Polled}
use Rattle.lks_poller.specs.declared.stages.Nomination.{Nomination as Nominated}

-- the block and the voter that was asked for it
abbrev pub request_of : ℕ × ℕ → Request
request_of asked = record { block = asked.0; voter = asked.1 }

abbrev pub nomination_of : Nominated → Nomination
nomination_of n = record { voter = n.voter; nominees = n.nominees }

-- a poll, but for the running hashes that are kept
abbrev pub poll_of : Polled → Poll
poll_of s =
    record {
      number = s.tally.ballot.poll.number;
      opening =
          record {
            au = s.tally.ballot.au;
            nonce = s.tally.ballot.nonce;
            inner = s.inner;
            limits = Some s.tally.limits;
            kind = s.tally.ballot.kind;
          };
      nominations = map nomination_of s.nominations;
      outer = s.outer;
      inner_votes = s.tally.votes;
      outer_votes = s.outer_votes;
      voters = s.voters;
      shut = s.shut;
      asked = map request_of s.suppliers.asked;
      request = option_map request_of (awaited_request s.suppliers);
    }
