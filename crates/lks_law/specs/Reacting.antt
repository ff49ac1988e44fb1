-- What a peer in a state adds and sends, one definition for each thing that it does or receives. Each says of the state
-- what the rule of that name says of the journal.
use Rattle.std.specs.Prelude.{ℕ, Bool, false, not, ◌&&◌, ◌==◌, ◌+◌, ◌-◌, nat_lt, if◌then◌else◌, Option, Some, None}
use Rattle.std.specs.Prelude.{List, [], ◌∷◌, length, map, slice_set}
use Rattle.std.specs.List.{list_any, filter_map}
use Rattle.lks_base.specs.declared.messages.Message.TheVariants as message
use Rattle.lks_base.specs.declared.names.Judged.{Judged}
use Rattle.lks_base.specs.declared.names.Limits.{Limits}
use Rattle.lks_base.specs.declared.names.Outcome.{Outcome}
use Rattle.lks_base.specs.declared.names.Outcome.TheVariants as outcome
use Rattle.lks_base.specs.declared.plans.AuPlan.{AuPlan}
use Rattle.lks_base.specs.declared.reactions.Outgoing.{Outgoing}
use Rattle.lks_base.specs.declared.reactions.Reaction.{Reaction}
use Rattle.lks_base.specs.declared.records.Record.{Record}
use Rattle.lks_base.specs.declared.records.Record.TheVariants as records
use Rattle.lks_draw.specs.Picks.{picked_by}
use Rattle.lks_draw.specs.Words.{drawn_from}
use Rattle.lks_hash.specs.Hashes.{nonce_from}
use Rattle.lks_law.specs.Polls.{Station, limits_of, ballot_of, is_win}
use Rattle.lks_law.specs.Reaction.{no_effect, letter, is_accepted, is_request, given_up, asked_again}
use Rattle.lks_law.specs.State.{Nomination, Poll, Copy, State, copy_at, blocks_at}
use Rattle.lks_choice.specs.Circles.{circle_of}
use Rattle.lks_tally.specs.PollRules as poll
use Rattle.lks_tally.specs.Running.{may_widen, may_nominate, may_prove, may_vote, may_tally, first_unasked}
use Rattle.lks_tally.specs.Running.{supplied_by, follows}
unfoldable pub use Rattle.lks_tally.specs.Running.{is_invited_to, has_nominated_in, silent_in, was_asked_of}
use Rattle.lks_tally.specs.Counting.{verdict_at, verdict_on, voters_against}
use Rattle.lks_tally.specs.declared.ballots.Verdict.{Verdict}

-- what a poll that runs makes the peer do
abbrev pub for_poll : Option Poll → (Poll → Reaction) → Reaction
for_poll None f = no_effect
for_poll (Some p) f = f p

-- what is done where it may be
abbrev pub if_may : Bool → Reaction → Reaction
if_may may does = if may then does else no_effect

-- A poll is opened on a held AU with no running poll on it, while fewer than 8 run, and not within `pace` ticks of the
-- last one on it.

-- whether there was such a tick less than `pace` ticks ago
abbrev pub is_recent : Option ℕ → ℕ → ℕ → Bool
is_recent None tick pace = false
is_recent (Some before) tick pace = nat_lt (tick - before) pace

-- whether a poll may be opened on this copy
abbrev pub may_open_copy : ℕ → ℕ → ℕ → List Poll → Option Copy → Bool
may_open_copy tick pace au polls None = false
may_open_copy tick pace au polls (Some c) =
    not (list_any (λ (p : Poll). p.opening.au == au) polls) && nat_lt (length polls) 8
    && not (is_recent c.opened tick pace)

-- whether one may be opened on this AU
unfoldable pub may_open_in : Station → State → ℕ → ℕ → Bool
may_open_in own s tick au = may_open_copy tick own.rules.pace au s.polls (copy_at au s.copies)

-- the inner circle of poll n, from this reference list
unfoldable pub inner_of : Station → ℕ → List ℕ → List ℕ
inner_of own n refs = picked_by (drawn_from own.seed 1 n) refs own.rules.inner

-- the numbers with which a poll begins
abbrev pub limits_now : State → Limits
limits_now s = record { quorum = s.numbers.quorum; minority = s.numbers.minority }

-- poll n is opened
abbrev pub opened_as : Station → State → ℕ → ℕ → ℕ → Reaction
opened_as own s tick au n =
    record {
      records =
          records.PollOpened n au (nonce_from own.seed n) (inner_of own n s.refs) tick (Some (limits_now s))
          own.hash
          ∷ [];
      sends = map (letter (message.Poll n au)) (inner_of own n s.refs);
    }

unfoldable pub open_in : Station → State → ℕ → ℕ → Reaction
open_in own s tick au = if_may (may_open_in own s tick au) (opened_as own s tick au (s.openings + 1))

-- The outer circle is sampled from the nominations, once and while votes are open.

-- the outer circle of a poll
unfoldable pub outer_of_poll : Station → Poll → List ℕ
outer_of_poll own p =
    (circle_of (drawn_from own.seed 2 p.number) own.id p.opening.inner
    (map (λ (n : Nomination). n.nominees) p.nominations) own.rules.outer).peers

unfoldable pub widen_in : Station → Poll → Reaction
widen_in own p =
    if_may (may_widen p)
    (record {
      records = records.OuterOpened p.number (outer_of_poll own p) ∷ [];
      sends = map (letter (message.Poll p.number p.opening.au)) (outer_of_poll own p);
    })

-- A reminder: whoever hasn't voted is invited again while votes are open, else the request is sent again.

unfoldable pub nudge_in : Poll → Reaction
nudge_in p =
    if not p.shut
    then record { records = []; sends = map (letter (message.Poll p.number p.opening.au)) (silent_in p) }
    else asked_again p.number p.request

-- The request that waits is given up.

unfoldable pub give_up_in : Poll → Reaction
give_up_in p = given_up p.number p.request

-- Voting ends, and a poll with fewer inner votes than its quorum with it.

-- a receipt for each voter, in order of their votes
unfoldable pub receipts_of : Poll → List Outgoing
receipts_of p = map (letter (message.Receipt p.number)) p.voters

-- voting ends while it is open
abbrev pub shut_once : Station → Poll → ℕ → Reaction
shut_once own p tick =
    if poll.is_inquorate (length p.inner_votes) (limits_of own.rules p.opening).quorum
    then record {
      records = records.Shut p.number ∷ records.Closed p.number outcome.Inquorate tick ∷ [];
      sends = receipts_of p;
    }
    else record { records = records.Shut p.number ∷ []; sends = [] }

unfoldable pub shut_in : Station → ℕ → Poll → Reaction
shut_in own tick p = if_may (not p.shut) (shut_once own p tick)

-- The votes of a shut poll are counted, unless it waits for a repair.

-- the poll ends
unfoldable pub closed_as : Poll → ℕ → Outcome → Reaction
closed_as p tick how = record { records = records.Closed p.number how tick ∷ []; sends = receipts_of p }

-- a voter is asked for block b
abbrev pub asked_of : Poll → ℕ → ℕ → Reaction
asked_of p b v =
    record { records = records.Asked p.number b v ∷ []; sends = letter (message.RepairRequest p.number b) v ∷ [] }

-- this voter, or the poll ends where there is none
abbrev pub asked_for : Poll → ℕ → ℕ → Option ℕ → Reaction
asked_for p tick b voter = supplied_by (closed_as p tick) (asked_of p) b voter

-- the verdict of the inner votes on these blocks
unfoldable pub verdict_of : Station → Poll → List (List ℕ) → Verdict
verdict_of own p blocks =
    let limits = limits_of own.rules p.opening in
    verdict_on limits.quorum limits.minority (ballot_of own p.number p.opening (length blocks)) p.inner_votes blocks

-- the first of the inner voters against these blocks at b that wasn't asked for it yet
unfoldable pub supplier : Station → Poll → ℕ → List (List ℕ) → Option ℕ
supplier own p b blocks =
    first_unasked p b (voters_against (ballot_of own p.number p.opening (length blocks)) p.inner_votes blocks b)

-- what follows from a verdict
abbrev pub tallied_as : Station → Poll → ℕ → List (List ℕ) → Verdict → Reaction
tallied_as own p tick blocks v =
    follows (closed_as p tick) no_effect (λ b. asked_for p tick b (supplier own p b blocks)) v

-- over these blocks
abbrev pub tally_over : Station → ℕ → List (List ℕ) → Poll → Reaction
tally_over own tick blocks p = if_may (may_tally p) (tallied_as own p tick blocks (verdict_of own p blocks))

unfoldable pub tally_in : Station → ℕ → List Copy → Poll → Reaction
tally_in own tick copies p = tally_over own tick (blocks_at p.opening.au copies) p

-- AUs that are held and overdue are noted.

-- whether this copy is overdue, which wasn't noted yet
abbrev pub must_note_copy : Station → ℕ → Option Copy → Bool
must_note_copy own tick None = false
must_note_copy own tick (Some c) = nat_lt own.rules.overdue (tick - c.audit.tick) && not c.audit.noted

-- the record that notes it
abbrev pub overdue_of : Station → List Copy → ℕ → AuPlan → Option Record
overdue_of own copies tick au =
    if must_note_copy own tick (copy_at au.id copies) then Some (records.Overdue au.id tick) else None

unfoldable pub check_in : Station → List Copy → ℕ → Reaction
check_in own copies tick = record { records = filter_map (overdue_of own copies tick) own.aus; sends = [] }

-- Messages: a challenge is answered by the proof of effort, a nomination and a vote are taken, and a repair is tried.

unfoldable pub challenge_in : Station → ℕ → Bool → Poll → Reaction
challenge_in own from agrees p =
    if_may (agrees && may_prove p from)
    (record {
      records = [];
      sends = letter (message.PollProof p.number p.opening.nonce p.opening.kind own.proof) from ∷ [];
    })

unfoldable pub nominate_in : ℕ → List ℕ → Poll → Reaction
nominate_in from nominees p =
    if_may (may_nominate p from)
    (record { records = records.Nominated p.number from nominees ∷ []; sends = [] })

unfoldable pub vote_in_poll : ℕ → List (List ℕ) → Judged → List Copy → Poll → Reaction
vote_in_poll from hashes judged copies p =
    if_may (is_accepted judged && may_vote p from (length hashes) (length (blocks_at p.opening.au copies)))
    (record { records = records.VoteIn p.number from hashes ∷ []; sends = [] })

-- whether the inner votes are for these blocks at b once they have these bytes there
unfoldable pub said_of : Station → Poll → ℕ → List ℕ → List (List ℕ) → Bool
said_of own p b bytes blocks =
    let after = slice_set blocks b bytes in
    is_win
    (verdict_at (limits_of own.rules p.opening).minority (ballot_of own p.number p.opening (length after))
    p.inner_votes after b)

-- a block that comes is taken or passed over, where it answers the request
abbrev pub repair_over : Station → ℕ → ℕ → List ℕ → List (List ℕ) → Poll → Reaction
repair_over own from b bytes blocks p =
    if_may (is_request b from p.request)
    (if said_of own p b bytes blocks
    then record { records = records.Replaced p.number p.opening.au b bytes ∷ []; sends = [] }
    else record { records = records.RepairBad p.number b from ∷ []; sends = [] })

unfoldable pub repair_in : Station → ℕ → ℕ → List ℕ → List Copy → Poll → Reaction
repair_in own from b bytes copies p = repair_over own from b bytes (blocks_at p.opening.au copies) p
