-- What a peer adds to its journal and sends as a poller, one definition for each thing that it does or receives. Where
-- a condition doesn't hold, nothing is added and nothing sent.
use Rattle.std.specs.Prelude.{ℕ, Bool, true, false, not, ◌&&◌, ◌+◌, nat_lt, if◌then◌else◌, Option, Some, None}
use Rattle.std.specs.Prelude.{is_some, List, [], ◌∷◌, ◌++◌, length, map, filter, count_by}
use Rattle.std.specs.List.{list_any, filter_map}
use Rattle.lks_base.specs.Checking.{has_member}
use Rattle.lks_base.specs.declared.messages.Message.{Message}
use Rattle.lks_base.specs.declared.messages.Message.TheVariants as message
use Rattle.lks_base.specs.declared.names.Judged.{Judged}
use Rattle.lks_base.specs.declared.names.Judged.TheVariants.{NotAsked, Accepted, Refused}
use Rattle.lks_base.specs.declared.names.Outcome.{Outcome}
use Rattle.lks_base.specs.declared.names.Outcome.TheVariants as outcome
use Rattle.lks_base.specs.declared.plans.AuPlan.{AuPlan}
use Rattle.lks_base.specs.declared.reactions.Outgoing.{Outgoing}
use Rattle.lks_base.specs.declared.reactions.Reaction.{Reaction}
use Rattle.lks_base.specs.declared.records.Record.{Record}
use Rattle.lks_base.specs.declared.records.Record.TheVariants as records
use Rattle.lks_hash.specs.Hashes.{nonce_from}
use Rattle.lks_law.specs.Journal.{Opening, Request, deposit_of, contents_of, opening_of, openings, opens_running}
use Rattle.lks_law.specs.Journal.{opens_open, opens_lately, is_voting, is_running, is_shut, is_widened, outer_of}
use Rattle.lks_law.specs.Journal.{has_nominated, has_voted, unanswered_request, is_overdue}
use Rattle.lks_law.specs.Polls.{Station, limits_in_force, limits_of, votes, inner_votes, is_invited, verdict_in}
use Rattle.lks_law.specs.Polls.{candidate, restores}
use Rattle.lks_law.specs.References.{inner_circle, outer_circle}
use Rattle.lks_message.specs.Spelling.{spelling}
use Rattle.lks_tally.specs.PollRules as poll
use Rattle.lks_tally.specs.Running.{supplied_by, follows}
pub use Rattle.lks_tally.specs.Running.{is_request}
use Rattle.lks_tally.specs.declared.ballots.Verdict.{Verdict}

abbrev pub no_effect : Reaction
no_effect = record { records = []; sends = [] }

-- a message to a peer
abbrev pub letter : Message → ℕ → Outgoing
letter m to = record { to = to; bytes = spelling m }

abbrev pub for_opening : Option Opening → (Opening → Reaction) → Reaction
for_opening None f = no_effect
for_opening (Some opening) f = f opening

-- A poll is opened on a held AU with no running poll on it, while fewer than 8 polls run, and not within `pace` ticks
-- of the last one. Its inner circle is sampled from the reference list, and each member is invited.

unfoldable pub may_open : Station → List Record → ℕ → ℕ → Bool
may_open own journal tick au =
    is_some (deposit_of au journal) && not (list_any (opens_running au journal) journal)
    && nat_lt (count_by (opens_open journal) journal) 8 && not (list_any (opens_lately au tick own.rules.pace) journal)

abbrev pub opens_poll : Station → List Record → ℕ → ℕ → ℕ → Reaction
opens_poll own journal tick au n =
    record {
      records =
          records.PollOpened n au (nonce_from own.seed n) (inner_circle own n journal) tick
          (Some (limits_in_force own.rules journal)) own.hash
          ∷ [];
      sends = map (letter (message.Poll n au)) (inner_circle own n journal);
    }

unfoldable pub on_open : Station → List Record → ℕ → ℕ → Reaction
on_open own journal tick au =
    if may_open own journal tick au then opens_poll own journal tick au (openings journal + 1) else no_effect

-- The outer circle is sampled from the nominations, once and while votes are open. Each member is invited.

abbrev pub invites_outer : Station → List Record → ℕ → Opening → Reaction
invites_outer own journal n opening =
    record {
      records = records.OuterOpened n (outer_circle own n opening journal) ∷ [];
      sends = map (letter (message.Poll n opening.au)) (outer_circle own n opening journal);
    }

unfoldable pub on_widen : Station → List Record → ℕ → Reaction
on_widen own journal n =
    if poll.may_widen (is_voting n journal) (is_widened n journal)
    then for_opening (opening_of n journal) (invites_outer own journal n) else no_effect

-- A reminder. While votes are open, each invited peer that hasn't voted is invited again; a request that is unanswered
-- is sent again.

unfoldable pub silent_voters : ℕ → Opening → List Record → List ℕ
silent_voters n opening journal = filter (λ v. not (has_voted n v journal)) (opening.inner ++ outer_of n journal)

abbrev pub reminds_silent : List Record → ℕ → Opening → Reaction
reminds_silent journal n opening =
    record { records = []; sends = map (letter (message.Poll n opening.au)) (silent_voters n opening journal) }

abbrev pub asked_again : ℕ → Option Request → Reaction
asked_again n None = no_effect
asked_again n (Some r) = record { records = []; sends = letter (message.RepairRequest n r.block) r.voter ∷ [] }

unfoldable pub on_nudge : List Record → ℕ → Reaction
on_nudge journal n =
    if is_voting n journal then for_opening (opening_of n journal) (reminds_silent journal n)
    else asked_again n (unanswered_request n journal)

-- A request that is unanswered is given up: its repair counts as a bad one.

abbrev pub given_up : ℕ → Option Request → Reaction
given_up n None = no_effect
given_up n (Some r) = record { records = records.RepairBad n r.block r.voter ∷ []; sends = [] }

unfoldable pub on_give_up : List Record → ℕ → Reaction
on_give_up journal n = given_up n (unanswered_request n journal)

-- the poll ends: each voter gets a receipt, in order of their votes
unfoldable pub receipts : ℕ → List Record → List Outgoing
receipts n journal = map (λ v. letter (message.Receipt n) v.voter) (votes n journal)

-- Voting ends. A poll with fewer inner votes than its quorum is closed at once.

unfoldable pub is_inquorate : Station → ℕ → Opening → List Record → Bool
is_inquorate own n opening journal =
    poll.is_inquorate (length (inner_votes n opening.inner journal)) (limits_of own.rules opening).quorum

abbrev pub shut_inquorate : List Record → ℕ → ℕ → Reaction
shut_inquorate journal tick n =
    record { records = records.Shut n ∷ records.Closed n outcome.Inquorate tick ∷ []; sends = receipts n journal }

abbrev pub ends_voting : Station → List Record → ℕ → ℕ → Opening → Reaction
ends_voting own journal tick n opening =
    if is_inquorate own n opening journal
    then shut_inquorate journal tick n
    else record { records = records.Shut n ∷ []; sends = [] }

unfoldable pub on_shut : Station → List Record → ℕ → ℕ → Reaction
on_shut own journal tick n =
    if is_voting n journal then for_opening (opening_of n journal) (ends_voting own journal tick n) else no_effect

-- The votes of a shut poll are counted, unless it waits for a repair. The first block that isn't a win decides: a split
-- closes the poll; at a loss the first candidate is asked for the block, and without one the poll is closed.

unfoldable pub may_tally : ℕ → List Record → Bool
may_tally n journal = is_running n journal && is_shut n journal && not (is_some (unanswered_request n journal))

unfoldable pub closes_poll : List Record → ℕ → ℕ → Outcome → Reaction
closes_poll journal tick n how = record { records = records.Closed n how tick ∷ []; sends = receipts n journal }

abbrev pub asks_supplier : List Record → ℕ → ℕ → ℕ → Option ℕ → Reaction
asks_supplier journal tick n b voter =
    supplied_by (closes_poll journal tick n)
    (λ b v. record { records = records.Asked n b v ∷ []; sends = letter (message.RepairRequest n b) v ∷ [] }) b
    voter

abbrev pub follows_verdict : Station → List Record → ℕ → ℕ → Opening → Verdict → Reaction
follows_verdict own journal tick n opening v =
    follows (closes_poll journal tick n) no_effect
    (λ b. asks_supplier journal tick n b (candidate own n opening b journal)) v

unfoldable pub on_tally : Station → List Record → ℕ → ℕ → Reaction
on_tally own journal tick n =
    if may_tally n journal
    then for_opening (opening_of n journal)
    (λ opening. follows_verdict own journal tick n opening (verdict_in own n opening journal))
    else no_effect

-- An AU that is held and wasn't agreed for more than `overdue` ticks is noted as overdue, once until it is agreed
-- again.

unfoldable pub must_note : Station → List Record → ℕ → ℕ → Bool
must_note own journal tick au = is_some (deposit_of au journal) && is_overdue au tick own.rules.overdue journal

abbrev pub overdue_in : Station → List Record → ℕ → AuPlan → Option Record
overdue_in own journal tick au = if must_note own journal tick au.id then Some (records.Overdue au.id tick) else None

unfoldable pub on_check : Station → List Record → ℕ → Reaction
on_check own journal tick = record { records = filter_map (overdue_in own journal tick) own.aus; sends = [] }

-- An invited peer that agrees to vote is sent the proof of effort with the poll's nonce, until its vote is in.

unfoldable pub may_prove : List Record → ℕ → ℕ → Opening → Bool
may_prove journal from n opening = is_invited from n opening.inner journal && not (has_voted n from journal)

abbrev pub sends_proof : Station → List Record → ℕ → ℕ → Opening → Reaction
sends_proof own journal from n opening =
    if may_prove journal from n opening
    then record { records = []; sends = letter (message.PollProof n opening.nonce opening.kind own.proof) from ∷ [] }
    else no_effect

unfoldable pub on_challenge : Station → List Record → ℕ → ℕ → Bool → Reaction
on_challenge own journal from n agrees =
    if agrees && is_voting n journal then for_opening (opening_of n journal) (sends_proof own journal from n)
    else no_effect

-- Each inner peer nominates once, until the outer circle is invited.

unfoldable pub may_nominate : List Record → ℕ → ℕ → Opening → Bool
may_nominate journal from n opening = poll.may_nominate (has_member opening.inner from) (has_nominated n from journal)

abbrev pub notes_nominees : List Record → ℕ → ℕ → List ℕ → Opening → Reaction
notes_nominees journal from n nominees opening =
    if may_nominate journal from n opening
    then record { records = records.Nominated n from nominees ∷ []; sends = [] } else no_effect

unfoldable pub on_nominate : List Record → ℕ → ℕ → List ℕ → Reaction
on_nominate journal from n nominees =
    if poll.may_widen (is_voting n journal) (is_widened n journal)
    then for_opening (opening_of n journal) (notes_nominees journal from n nominees)
    else no_effect

-- A vote counts once for each invited peer, while votes are open, if its proof is accepted and it has a hash for each
-- block.

abbrev pub is_accepted : Judged → Bool
is_accepted Accepted = true
is_accepted Refused = false
is_accepted NotAsked = false

unfoldable pub may_vote : List Record → ℕ → ℕ → ℕ → Opening → Bool
may_vote journal from n hashes opening =
    poll.may_vote (is_invited from n opening.inner journal) (has_voted n from journal) hashes
    (length (contents_of opening.au journal))

abbrev pub counts_vote : List Record → ℕ → ℕ → List (List ℕ) → Opening → Reaction
counts_vote journal from n hashes opening =
    if may_vote journal from n (length hashes) opening
    then record { records = records.VoteIn n from hashes ∷ []; sends = [] } else no_effect

unfoldable pub on_vote : List Record → ℕ → ℕ → List (List ℕ) → Judged → Reaction
on_vote journal from n hashes judged =
    if is_accepted judged && is_voting n journal
    then for_opening (opening_of n journal) (counts_vote journal from n hashes) else no_effect

-- A repair answers the request that its poll waits for. It is taken where a landslide of the votes is for the copy with
-- the new block in place, whoever sent it; else it is passed over, and the poll waits no more.

unfoldable pub may_repair : List Record → ℕ → ℕ → ℕ → Bool
may_repair journal from n b = is_request b from (unanswered_request n journal)

abbrev pub takes_repair : Station → List Record → ℕ → ℕ → ℕ → List ℕ → Opening → Reaction
takes_repair own journal from n b bytes opening =
    if restores own n opening b bytes journal
    then record { records = records.Replaced n opening.au b bytes ∷ []; sends = [] }
    else record { records = records.RepairBad n b from ∷ []; sends = [] }

unfoldable pub on_repair : Station → List Record → ℕ → ℕ → ℕ → List ℕ → Reaction
on_repair own journal from n b bytes =
    if may_repair journal from n b then for_opening (opening_of n journal) (takes_repair own journal from n b bytes)
    else no_effect
