-- What a peer adds to its journal and sends as a voter in polls of others, one definition for each thing that it does
-- or receives, and what it does for its operator's numbers. Where a condition doesn't hold, nothing is added and
-- nothing sent.
use Rattle.std.specs.Prelude.{ℕ, Bool, true, false, not, ◌&&◌, ◌+◌, ◌*◌, ◌%◌, nat_lt, nat_le, if◌then◌else◌, Option}
use Rattle.std.specs.Prelude.{Some, None, is_some, unwrap_or, List, [], ◌∷◌, length, slice_get}
use Rattle.lks_base.specs.Checking.{has_member}
use Rattle.lks_base.specs.Kinds.{is_second}
use Rattle.lks_base.specs.Quorums.{obeys_quorum_rule}
use Rattle.lks_base.specs.declared.limits.TheConstants.{MOST_NOMINEES, MOST_REPAIRS}
use Rattle.lks_base.specs.declared.messages.Message.TheVariants as message
use Rattle.lks_base.specs.declared.names.HashKind.{HashKind}
use Rattle.lks_base.specs.declared.names.Judged.{Judged}
use Rattle.lks_base.specs.declared.names.Judged.TheVariants.{NotAsked, Accepted, Refused}
use Rattle.lks_base.specs.declared.names.PollName.{PollName}
use Rattle.lks_base.specs.declared.plans.Rules.{Rules}
use Rattle.lks_base.specs.declared.reactions.Outgoing.{Outgoing}
use Rattle.lks_base.specs.declared.reactions.Reaction.{Reaction}
use Rattle.lks_base.specs.declared.records.Record.{Record}
use Rattle.lks_base.specs.declared.records.Record.TheVariants as records
use Rattle.lks_draw.specs.Picks.{picked_by}
use Rattle.lks_draw.specs.Words.{drawn_from}
use Rattle.lks_choice.specs.Grading.{grade_from, is_low, is_admitted}
use Rattle.lks_choice.specs.declared.grades.Grade.{Grade}
use Rattle.lks_hash.specs.Hashes.{key_of}
use Rattle.lks_hash.specs.Running.{hashes_of}
use Rattle.lks_law.specs.Journal.{deposit_of, contents_at}
use Rattle.lks_law.specs.Polls.{Station, numbers_in_force}
use Rattle.lks_law.specs.Reaction.{no_effect, letter}
use Rattle.lks_law.specs.References.{reference_list}
use Rattle.lks_law.specs.Sessions.{Join, Commitment, join_of, commitment_of, hashes_of_vote, served_blocks}
use Rattle.lks_law.specs.Sessions.{is_session, sessions, votes_received, votes_given, last_low, version_now}
use Rattle.lks_voter.specs.Voting.{answer_of}
use Rattle.lks_voter.specs.declared.commitments.Serve.{Serve}
use Rattle.lks_voter.specs.declared.commitments.Serve.TheVariants.{First, Again, Spent}
unfoldable pub use Rattle.lks_voter.specs.States.{repeats}

-- the poll of this poller with this number
abbrev pub poll_named : ℕ → ℕ → PollName
poll_named poller number = record { poller = poller; number = number }

abbrev pub answers : Outgoing → Reaction
answers o = record { records = []; sends = o ∷ [] }

abbrev pub adds : Record → Outgoing → Reaction
adds r o = record { records = r ∷ []; sends = o ∷ [] }

abbrev pub adds_only : Record → Reaction
adds_only r = record { records = r ∷ []; sends = [] }

-- the number of the draws for a poll of another: of the admission and of the nominees
abbrev pub draw_number : PollName → ℕ
draw_number q = q.poller * 65536 + q.number % 65536

abbrev pub challenge : PollName → Bool → Outgoing
challenge q agrees = letter (message.PollChallenge q.number agrees) q.poller

-- An invitation. It is answered yes while the session is open; else the peer joins a poll that it wasn't in, on an AU
-- that it holds, while fewer than 16 sessions are open, if the poller is admitted.

unfoldable pub grade_of_poller : Station → List Record → ℕ → Grade
grade_of_poller own journal f = grade_from (votes_received f journal) (votes_given f journal) (has_member own.friends f)

unfoldable pub may_join : Station → List Record → ℕ → PollName → ℕ → Bool
may_join own journal tick q au =
    not (is_some (join_of q journal)) && is_some (deposit_of au journal) && nat_lt (sessions journal) 16
    && is_admitted (grade_of_poller own journal q.poller) own.rules (last_low journal) tick
    (drawn_from own.seed 3 (draw_number q))

abbrev pub joins_poll : Station → List Record → ℕ → PollName → ℕ → Reaction
joins_poll own journal tick q au =
    adds
    (records.Joined q au tick (is_low (grade_of_poller own journal q.poller))
    (Some (numbers_in_force own.rules journal).repairs)) (challenge q true)

unfoldable pub on_invitation : Station → List Record → ℕ → PollName → ℕ → Reaction
on_invitation own journal tick q au =
    if is_session q journal then answers (challenge q true)
    else if may_join own journal tick q au then joins_poll own journal tick q au
    else answers (challenge q false)

-- A proof of the poller's effort. The first one that is accepted commits the session to the newest version, and one
-- that is refused ends it; one that repeats the commitment is answered again.

unfoldable pub nominees : Station → List ℕ → PollName → List ℕ
nominees own refs q = picked_by (drawn_from own.seed 5 (draw_number q)) refs MOST_NOMINEES

abbrev pub nominates : Station → List ℕ → PollName → Outgoing
nominates own refs q = letter (message.Nominate q.number (nominees own refs q)) q.poller

abbrev pub vote_again : Station → PollName → Option (List (List ℕ)) → List Outgoing
vote_again own q None = []
vote_again own q (Some hashes) = letter (message.Vote q.number hashes own.proof) q.poller ∷ []

-- a session that isn't committed gets a proof, with this newest version
abbrev pub commits : Station → List ℕ → PollName → ℕ → List ℕ → HashKind → Judged → Reaction
commits own refs q version nonce kind Accepted = adds (records.Committed q nonce version kind) (nominates own refs q)
commits own refs q version nonce kind Refused = adds_only (records.Ended q)
commits own refs q version nonce kind NotAsked = no_effect

-- a session that is committed gets one, in which the peer has this vote or none
abbrev pub commits_again : Station → List ℕ → PollName → Commitment → List ℕ → HashKind → Option (List (List ℕ))
    → Reaction
commits_again own refs q c nonce kind hashes =
    if repeats c nonce kind then record { records = []; sends = nominates own refs q ∷ vote_again own q hashes }
    else no_effect

abbrev pub proved_to : Station → List Record → PollName → List ℕ → HashKind → Judged → Option Join
    → Option Commitment → Reaction
proved_to own journal q nonce kind judged None c = no_effect
proved_to own journal q nonce kind judged (Some j) None =
    commits own (reference_list own journal) q (version_now j.au journal) nonce kind judged
proved_to own journal q nonce kind judged (Some j) (Some c) =
    commits_again own (reference_list own journal) q c nonce kind (hashes_of_vote q journal)

unfoldable pub on_proof : Station → List Record → PollName → List ℕ → HashKind → Judged → Reaction
on_proof own journal q nonce kind judged =
    if is_session q journal
    then proved_to own journal q nonce kind judged (join_of q journal) (commitment_of q journal) else no_effect

-- The vote: the running hashes of the committed version.

unfoldable pub vote_hashes : ℕ → PollName → ℕ → Commitment → List (List ℕ) → List (List ℕ)
vote_hashes own q au c blocks =
    hashes_of (is_second c.kind) (key_of (is_second c.kind) q.poller q.number c.nonce own au (length blocks)) blocks

abbrev pub votes_with : Station → PollName → List (List ℕ) → Reaction
votes_with own q hashes = adds (records.Voted q hashes) (letter (message.Vote q.number hashes own.proof) q.poller)

abbrev pub casts_vote : Station → List Record → PollName → Option Join → Option Commitment → Option (List (List ℕ))
    → Reaction
casts_vote own journal q None c hashes = no_effect
casts_vote own journal q (Some j) None hashes = no_effect
casts_vote own journal q (Some j) (Some c) None =
    votes_with own q (vote_hashes own.id q j.au c (contents_at j.au c.version journal))
casts_vote own journal q (Some j) (Some c) (Some hashes) = no_effect

unfoldable pub on_work : Station → List Record → PollName → Reaction
on_work own journal q =
    if is_session q journal
    then casts_vote own journal q (join_of q journal) (commitment_of q journal) (hashes_of_vote q journal)
    else no_effect

-- A request for a repair. After its vote a voter gives the poller blocks of the committed version: so many of them at
-- most, and those that it gave before.

abbrev pub most_served : Rules → Option ℕ → ℕ
most_served rules repairs = unwrap_or repairs rules.repairs

abbrev pub repair : PollName → ℕ → List ℕ → Outgoing
repair q b bytes = letter (message.Repair q.number b bytes) q.poller

abbrev pub gives : PollName → ℕ → List ℕ → Serve → Reaction
gives q b bytes First = adds (records.Served q b) (repair q b bytes)
gives q b bytes Again = answers (repair q b bytes)
gives q b bytes Spent = no_effect

abbrev pub serves : PollName → ℕ → ℕ → List ℕ → Option (List ℕ) → Reaction
serves q b most before None = no_effect
serves q b most before (Some bytes) = gives q b bytes (answer_of before b most)

abbrev pub answers_request : Station → List Record → PollName → ℕ → Option Join → Option Commitment
    → Option (List (List ℕ)) → Reaction
answers_request own journal q b None c hashes = no_effect
answers_request own journal q b (Some j) None hashes = no_effect
answers_request own journal q b (Some j) (Some c) None = no_effect
answers_request own journal q b (Some j) (Some c) (Some hashes) =
    serves q b (most_served own.rules j.repairs) (served_blocks q journal)
    (slice_get (contents_at j.au c.version journal) b)

unfoldable pub on_request : Station → List Record → PollName → ℕ → Reaction
on_request own journal q b =
    if is_session q journal
    then answers_request own journal q b (join_of q journal) (commitment_of q journal) (hashes_of_vote q journal)
    else no_effect

-- A receipt and an expiry end the session.

unfoldable pub on_end : List Record → PollName → Reaction
on_end journal q = if is_session q journal then adds_only (records.Ended q) else no_effect

-- The operator's numbers are for polls and sessions to come.

unfoldable pub may_tune : Rules → ℕ → ℕ → ℕ → Bool
may_tune rules quorum minority repairs =
    nat_le 1 quorum && nat_le quorum rules.inner && obeys_quorum_rule quorum minority && nat_le repairs MOST_REPAIRS

unfoldable pub on_tune : Station → ℕ → ℕ → ℕ → Reaction
on_tune own quorum minority repairs =
    if may_tune own.rules quorum minority repairs then adds_only (records.Tuned quorum minority repairs)
    else no_effect
