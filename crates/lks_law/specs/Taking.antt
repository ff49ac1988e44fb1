-- What a peer knows as a voter in polls of others, and what one record more makes of that.
use Rattle.std.specs.Prelude.{ℕ, Bool, ◌==◌, ◌+◌, if◌then◌else◌, Option, Some, None, unwrap_or, List, [], ◌∷◌, ◌++◌}
use Rattle.std.specs.Prelude.{find}
use Rattle.lks_base.specs.declared.names.PollName.{PollName}
use Rattle.lks_base.specs.declared.plans.Rules.{Rules}
use Rattle.lks_base.specs.declared.records.Record.{Record}
use Rattle.lks_law.specs.Firsts.{changed_first, without_first}
use Rattle.lks_law.specs.Journal.{Told, said_by}
use Rattle.lks_law.specs.Sessions.{Join, Commitment, Turn, Part, is_poll, part_of, low_part}
use Rattle.lks_tally.specs.declared.ballots.Vote.{Vote}
use Rattle.lks_voter.specs.States.{Joining, Committing}
use Rattle.lks_voter.specs.Voting as voting
use Rattle.lks_voter.specs.declared.commitments.Serve.TheVariants.{First}

-- a poll of another that the peer joined
pub record Session : Type 0 where
  pub joined : Joining
  pub repairs : ℕ  -- how many blocks it gives the poller at most

-- a session that is committed: it keeps the blocks of its version, whatever is replaced
pub record Pinned : Type 0 where
  pub committed : Committing
  pub repairs : ℕ
  pub blocks : List (List ℕ)

-- a session in which the peer voted, with the blocks that it gave
pub record Cast : Type 0 where
  pub voted : voting.Vote
  pub repairs : ℕ
  pub blocks : List (List ℕ)

-- how many votes a peer gave us, and we it
pub record Mark : Type 0 where
  pub peer : ℕ
  pub received : ℕ
  pub given : ℕ

-- what a peer knows as a voter
pub record Voter : Type 0 where
  pub sessions : List Session  -- joined, and not committed
  pub pinned : List Pinned  -- committed, and not voted, in order of their commitments
  pub cast : List Cast  -- voted
  pub ended : List PollName  -- sessions that are over
  pub marks : List Mark
  pub last_low : Option ℕ  -- when a peer of low grade was last let in

-- a voter that took no part yet
abbrev pub newcomer : Voter
newcomer = record { sessions = []; pinned = []; cast = []; ended = []; marks = []; last_low = None }

-- Sessions by the names of their polls.

abbrev pub is_session_of : PollName → Session → Bool
is_session_of q s = is_poll s.joined.poll q

abbrev pub is_pinned_of : PollName → Pinned → Bool
is_pinned_of q p = is_poll p.committed.joined.poll q

abbrev pub is_cast_of : PollName → Cast → Bool
is_cast_of q c = is_poll c.voted.committed.joined.poll q

abbrev pub session_at : PollName → List Session → Option Session
session_at q ss = find (is_session_of q) ss

abbrev pub pinned_at : PollName → List Pinned → Option Pinned
pinned_at q ps = find (is_pinned_of q) ps

abbrev pub cast_at : PollName → List Cast → Option Cast
cast_at q cs = find (is_cast_of q) cs

-- a session has this number, or the rules' where it has none
abbrev pub joined_as : Rules → PollName → Join → Session
joined_as rules q j =
    record {
      joined = record { poll = q; au = j.au; tick = j.tick; low = j.low };
      repairs = unwrap_or j.repairs rules.repairs;
    }

-- the session is committed to the version that has these blocks
abbrev pub pinned_to : Commitment → List (List ℕ) → Session → Pinned
pinned_to c blocks s =
    record { committed = record { joined = s.joined; commitment = c }; repairs = s.repairs; blocks = blocks }

-- where each AU has these
abbrev pub pins_of : (ℕ → List (List ℕ)) → Commitment → Option Session → List Pinned
pins_of blocks c None = []
pins_of blocks c (Some s) = pinned_to c (blocks s.joined.au) s ∷ []

-- the peer voted in it, and gave these blocks
abbrev pub cast_as : List (List ℕ) → List ℕ → Pinned → Cast
cast_as hashes served p =
    record {
      voted = record { committed = p.committed; hashes = hashes; served = served };
      repairs = p.repairs;
      blocks = p.blocks;
    }

abbrev pub casts_of : List (List ℕ) → Option Pinned → List Cast
casts_of hashes None = []
casts_of hashes (Some p) = cast_as hashes [] p ∷ []

-- it gave a new block
abbrev pub serving_block : ℕ → Cast → Cast
serving_block block c = record c { voted = voting.after c.voted block First }

-- after a turn in poll q, where each AU has these blocks
abbrev pub after_turn : Rules → (ℕ → List (List ℕ)) → PollName → Turn → Voter → Voter
after_turn rules blocks q (Turn.Joins join) v = record v { sessions = v.sessions ++ joined_as rules q join ∷ [] }
after_turn rules blocks q (Turn.Commits commitment) v =
    record v {
      sessions = without_first (is_session_of q) v.sessions;
      pinned = v.pinned ++ pins_of blocks commitment (session_at q v.sessions);
    }
after_turn rules blocks q (Turn.Votes hashes) v =
    record v {
      pinned = without_first (is_pinned_of q) v.pinned;
      cast = v.cast ++ casts_of hashes (pinned_at q v.pinned);
    }
after_turn rules blocks q (Turn.Serves block) v =
    record v { cast = changed_first (is_cast_of q) (serving_block block) v.cast }
after_turn rules blocks q Turn.Ends v =
    record v {
      sessions = without_first (is_session_of q) v.sessions;
      pinned = without_first (is_pinned_of q) v.pinned;
      cast = without_first (is_cast_of q) v.cast;
      ended = v.ended ++ q ∷ [];
    }

abbrev pub turned_by : Rules → (ℕ → List (List ℕ)) → Option Part → Voter → Voter
turned_by rules blocks None v = v
turned_by rules blocks (Some p) v = after_turn rules blocks p.poll p.turn v

-- Marks.

-- the marks of a peer, which has none at first
abbrev pub mark_at : ℕ → List Mark → Mark
mark_at f marks = unwrap_or (find (λ (m : Mark). m.peer == f) marks) (record { peer = f; received = 0; given = 0 })

-- with other marks of that peer
abbrev pub mark_put : Mark → List Mark → List Mark
mark_put m [] = m ∷ []
mark_put m (x ∷ xs) = if x.peer == m.peer then m ∷ xs else x ∷ mark_put m xs

-- a vote of this peer came
abbrev pub marked_received : ℕ → List Mark → List Mark
marked_received f marks = let m = mark_at f marks in mark_put (record m { received = m.received + 1 }) marks

-- it got one
abbrev pub marked_given : ℕ → List Mark → List Mark
marked_given f marks = let m = mark_at f marks in mark_put (record m { given = m.given + 1 }) marks

abbrev pub marks_told : Option (Told Vote) → List Mark → List Mark
marks_told None marks = marks
marks_told (Some told) marks = marked_received told.fact.voter marks

abbrev pub marks_turned : PollName → Turn → List Mark → List Mark
marks_turned q (Turn.Joins join) marks = marks
marks_turned q (Turn.Commits commitment) marks = marks
marks_turned q (Turn.Votes hashes) marks = marked_given q.poller marks
marks_turned q (Turn.Serves block) marks = marks
marks_turned q Turn.Ends marks = marks

abbrev pub marks_by : Option Part → List Mark → List Mark
marks_by None marks = marks
marks_by (Some p) marks = marks_turned p.poll p.turn marks

-- The voter.

-- after a record, where each AU has these blocks
abbrev pub voter_after : Rules → (ℕ → List (List ℕ)) → Record → Voter → Voter
voter_after rules blocks r v =
    record (turned_by rules blocks (part_of r) v) {
      marks = marks_by (part_of r) (marks_told (said_by r).voted v.marks);
      last_low = low_part v.last_low (part_of r);
    }
