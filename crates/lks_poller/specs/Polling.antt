-- What contracts see of a poll that its poller runs, and what each call leaves of it.
use Rattle.std.specs.Prelude.{ℕ, Bool, true, false, if◌then◌else◌, Option, None, List, [], ◌∷◌, ◌++◌, length}
use Rattle.lks_base.specs.Checking.{has_member}
use Rattle.lks_base.specs.declared.names.Limits.{Limits}
use Rattle.lks_choice.specs.Asking.{Asked}
use Rattle.lks_tally.specs.declared.ballots.Ballot.{Ballot}
use Rattle.lks_tally.specs.declared.ballots.Vote.{Vote}
use Rattle.lks_tally.specs.Keeping as keeping
use Rattle.lks_tally.specs.Keeping.{Tallied, hashes_forgotten}
use Rattle.lks_tally.specs.PollRules as poll
use Rattle.lks_tally.specs.Running.{first_circle}
use Rattle.lks_poller.specs.declared.stages.Answer.{Answer}
use Rattle.lks_poller.specs.declared.stages.Answer.TheVariants.{Replace, Bad, NotAsked}
use Rattle.lks_poller.specs.declared.stages.Next.{Next}
use Rattle.lks_poller.specs.declared.stages.Next.TheVariants.{Close, Ask}
use Rattle.lks_poller.specs.declared.stages.Nomination.{Nomination}

-- The tally of the inner votes, with the poll's ballot and numbers; the inner circle; who nominated whom, in order; the
-- outer circle once it is invited, and its votes; the voters of both circles in order of their votes; whether voting
-- ended and whether the poll did; who was asked for blocks.
pub record Polled : Type 0 where
  pub tally : Tallied
  pub inner : List ℕ
  pub nominations : List Nomination
  pub outer : Option (List ℕ)
  pub outer_votes : List Vote
  pub voters : List ℕ
  pub shut : Bool
  pub closed : Bool
  pub suppliers : Asked

-- a poll that begins; the rooms are those of its tally
abbrev pub begun_session : Ballot → Limits → List ℕ → ℕ → ℕ → Polled
begun_session ballot limits inner room vote_room =
    record {
      tally =
          record {
            ballot = ballot;
            limits = limits;
            votes = [];
            kept = 0;
            hashes = [];
            room = room;
            vote_room = vote_room;
          };
      inner = inner;
      nominations = [];
      outer = None;
      outer_votes = [];
      voters = [];
      shut = false;
      closed = false;
      suppliers = record { asked = []; waiting = false };
    }

-- one nomination more
abbrev pub nominees_noted : Polled → ℕ → List ℕ → Polled
nominees_noted s from list = record s { nominations = s.nominations ++ record { voter = from; nominees = list } ∷ [] }

-- the outer circle is invited
abbrev pub outer_invited : Polled → List ℕ → Polled
outer_invited s outer = record s { outer = first_circle s.outer outer }

-- one inner vote more, which is counted
abbrev pub voted_inner : Polled → Vote → Polled
voted_inner s vote = record s { tally = keeping.vote_added s.tally vote; voters = s.voters ++ vote.voter ∷ [] }

-- one outer vote more
abbrev pub voted_outer : Polled → Vote → Polled
voted_outer s vote = record s { outer_votes = s.outer_votes ++ vote ∷ []; voters = s.voters ++ vote.voter ∷ [] }

-- the vote of an inner peer is counted, and that of an outer one kept beside
abbrev pub vote_taken : Polled → ℕ → List (List ℕ) → Polled
vote_taken s from hashes =
    if has_member s.inner from
    then voted_inner s (record { voter = from; hashes = hashes })
    else voted_outer s (record { voter = from; hashes = hashes })

-- fewer inner votes than the quorum
abbrev pub is_inquorate : Polled → Bool
is_inquorate s = poll.is_inquorate (length s.tally.votes) s.tally.limits.quorum

-- voting ends
abbrev pub shut_now : Polled → Polled
shut_now s = record s { shut = true }

-- voting ends, and with fewer inner votes than the quorum the poll too
abbrev pub voting_ended : Polled → Polled
voting_ended s = record s { shut = true; closed = is_inquorate s }

-- the poll ends
abbrev pub session_closed : Polled → Polled
session_closed s = record s { closed = true }

-- a voter is asked for block b, and waited for
abbrev pub supplier_asked : Polled → ℕ → ℕ → Polled
supplier_asked s b voter =
    record s { suppliers = record { asked = s.suppliers.asked ++ (b, voter) ∷ []; waiting = true } }

-- the poll as it is once this is done
abbrev pub moved_on : Polled → Next → Polled
moved_on s (Close outcome) = session_closed s
moved_on s (Ask b voter) = supplier_asked s b voter

-- nothing is waited for
abbrev pub request_released : Polled → Polled
request_released s = record s { suppliers = record s.suppliers { waiting = false } }

-- a replaced block ends the request, and the running hashes from it on are forgotten
abbrev pub block_replaced : Polled → ℕ → Polled
block_replaced s b = record s { tally = hashes_forgotten b s.tally; suppliers = record s.suppliers { waiting = false } }

-- the poll after an answer about block b
abbrev pub answer_taken : Polled → ℕ → Answer → Polled
answer_taken s b Replace = block_replaced s b
answer_taken s b Bad = request_released s
answer_taken s b NotAsked = s
