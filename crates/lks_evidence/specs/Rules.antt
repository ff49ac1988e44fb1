-- What a shelf and each replaced block on it owe, rule by rule, and the doubt where a rule fails.
use Rattle.std.specs.Prelude.{ℕ, Bool, true, false, not, ◌==◌, ◌&&◌, nat_lt, nat_le, min, if◌then◌else◌, Option, Some}
use Rattle.std.specs.Prelude.{None, unwrap_or, option_map, List, [], ◌∷◌, length, slice_set}
use Rattle.std.specs.List.{list_any}
use Rattle.std.specs.Cmp.Lexicographic.{pointwise}
use Rattle.lks_base.specs.Checking.{has_honest}
use Rattle.lks_base.specs.Kinds.{is_second, is_kind}
use Rattle.lks_base.specs.Quorums.{obeys_quorum_rule}
use Rattle.lks_base.specs.declared.names.Limits.{Limits}
use Rattle.lks_base.specs.declared.plans.AuPlan.{AuPlan}
use Rattle.lks_base.specs.declared.plans.Plan.{Plan}
use Rattle.lks_base.specs.declared.records.Record.{Record}
use Rattle.lks_hash.specs.Running.{hashes_of}
use Rattle.lks_law.specs.Journal.{Opening, deposit_of, contents_at, contents_of, opening_of, is_number, is_shut, Repair}
use Rattle.lks_law.specs.Polls.{limits_of, inner_votes, ballot_for}
use Rattle.lks_law.specs.Sessions.{Commitment, commitment_of}
use Rattle.lks_law.specs.Snapshots.{Journals}
use Rattle.lks_tally.specs.declared.ballots.Ballot.{Ballot}
use Rattle.lks_tally.specs.declared.ballots.Vote.{Vote}
use Rattle.lks_tally.specs.Counting.{key_for, for_at, against_at}
use Rattle.lks_tally.specs.Keeping.{has_vote_of}
use Rattle.lks_evidence.specs.declared.findings.Shelf.{Shelf}
use Rattle.lks_evidence.specs.declared.findings.Why.{Why}
use Rattle.lks_evidence.specs.declared.findings.Why.TheVariants as why
use Rattle.lks_evidence.specs.Records.{deposits, openings, version_now, joins, join_of, commitments}

infixr 20 ◌▹◌
-- the first of two
abbrev pub ◌▹◌ : {X : Type 0} → Option X → Option X → Option X
None ▹ second = second
(Some first) ▹ second = Some first

-- a rule that holds where the test is true
abbrev pub unless : Bool → Why → Option Why
unless test doubt = if test then None else Some doubt

-- The first round: what has to be so before any poll is looked at.

abbrev pub has_shelf : List Shelf → ℕ → Bool
has_shelf shelves peer = list_any (λ s. s.peer == peer) shelves

-- whether a peer may have a shelf: an honest one, that has none before
unfoldable pub is_new : Plan → List Shelf → ℕ → Bool
is_new plan earlier peer = has_honest plan.peers peer && not (has_shelf earlier peer)

-- how many blocks the plan gives an AU
unfoldable pub count_in : List AuPlan → ℕ → Option ℕ
count_in [] au = None
count_in (a ∷ aus) au = if a.id == au then Some a.count else count_in aus au

-- the blocks that the AU was deposited with
unfoldable pub deposited_blocks : ℕ → List Record → List (List ℕ)
deposited_blocks au journal = unwrap_or (deposit_of au journal) []

-- whether the AU is deposited once, with as many blocks as the plan gives it
unfoldable pub is_deposited : List AuPlan → ℕ → List Record → Bool
is_deposited aus au journal = deposits au journal == 1
    && is_number (count_in aus au) (length (deposited_blocks au journal))

-- whether the AU is deposited before the place and nowhere else in the journal, and has the block
unfoldable pub is_held : List AuPlan → List Record → List Record → Repair → Bool
is_held aus journal before r =
    is_deposited aus r.au before
    && (deposits r.au journal == 1 && nat_lt r.block (length (deposited_blocks r.au before)))

-- The second round: the poll that replaced the block.

-- A number of votes as a doubt tells it. No circle in its limits has so many members that this cuts any off.
unfoldable pub told_count : ℕ → ℕ
told_count votes = min votes 65535

-- whether the poll was opened once, on the AU and with such numbers, and shut
unfoldable pub is_polled : Limits → List Record → Repair → Opening → Bool
is_polled limits before r o =
    openings r.number before == 1
    && (o.au == r.au && (is_shut r.number before && obeys_quorum_rule limits.quorum limits.minority))

-- the first voter, in order of votes, who has two
abbrev pub first_twice : List Vote → Option ℕ
first_twice [] = None
first_twice (v ∷ vs) = if has_vote_of vs v.voter then Some v.voter else first_twice vs

-- the first voter whose vote fails a test
abbrev pub first_failing : (Vote → Bool) → List Vote → Option ℕ
first_failing passes [] = None
first_failing passes (v ∷ vs) = if passes v then first_failing passes vs else Some v.voter

abbrev pub is_long : ℕ → Vote → Bool
is_long count v = length v.hashes == count

-- each voter votes once, with a hash for each block
unfoldable pub shape_doubt : ℕ → List Vote → Option Why
shape_doubt count votes =
    option_map why.Twice (first_twice votes) ▹ option_map why.Length (first_failing (is_long count) votes)

-- a quorum votes, and a minority at most for what was there
unfoldable pub loss_doubt : Limits → Ballot → List Vote → List (List ℕ) → ℕ → Option Why
loss_doubt limits q votes copy b =
    unless (nat_le limits.quorum (length votes)) (why.Quorum (told_count (length votes)))
    ▹ unless (nat_le (for_at q votes copy b) limits.minority) (why.For (told_count (for_at q votes copy b)))

-- a minority at most votes against what came
unfoldable pub win_doubt : Limits → Ballot → List Vote → List (List ℕ) → ℕ → Option Why
win_doubt limits q votes copy b =
    unless (nat_le (against_at q votes copy b) limits.minority) (why.Against (told_count (against_at q votes copy b)))

-- Voters whose journals are in the set.

-- whether this vote is the one over these blocks
unfoldable pub is_over : Ballot → List (List ℕ) → Vote → Bool
is_over q blocks v = pointwise (pointwise ◌==◌) v.hashes (hashes_of (is_second q.kind) (key_for q v.voter) blocks)

-- whether the voter committed to a version that it has, for the poll's nonce and kind of hash
unfoldable pub is_for : Ballot → List Record → Commitment → Bool
is_for q journal c =
    pointwise ◌==◌ c.nonce q.nonce && (is_kind c.kind q.kind && nat_le c.version (version_now q.au journal))

-- whether it did, and the vote is the one over that version
unfoldable pub is_committed : Ballot → List Record → Vote → Option Commitment → Bool
is_committed q journal v None = false
is_committed q journal v (Some c) = is_for q journal c && is_over q (contents_at q.au c.version journal) v

-- whether it joined the poll once, on its AU
unfoldable pub is_joined : Ballot → List Record → Bool
is_joined q journal = joins q.poll journal == 1 && is_number (join_of q.poll journal) q.au

-- whether the voter's own journal bears out the vote
unfoldable pub bears_out : List AuPlan → Ballot → List Record → Vote → Bool
bears_out aus q journal v =
    is_deposited aus q.au journal
    && (is_joined q journal
    && (commitments q.poll journal == 1 && is_committed q journal v (commitment_of q.poll journal)))

unfoldable pub shelf_of : List Shelf → ℕ → Option Shelf
shelf_of [] peer = None
shelf_of (s ∷ shelves) peer = if s.peer == peer then Some s else shelf_of shelves peer

-- the journals on the shelves of a set
abbrev pub journals_on : List Shelf → Journals
journals_on set peer = option_map (λ (s : Shelf). s.list.items) (shelf_of set peer)

abbrev pub bears_out_if : List AuPlan → Ballot → Option Shelf → Vote → Bool
bears_out_if aus q None v = true
bears_out_if aus q (Some s) v = bears_out aus q s.list.items v

-- whether nothing in the set speaks against the vote
unfoldable pub is_founded : List AuPlan → List Shelf → Ballot → Vote → Bool
is_founded aus set q v = bears_out_if aus q (shelf_of set v.voter) v

unfoldable pub voter_doubt : List AuPlan → List Shelf → Ballot → List Vote → Option Why
voter_doubt aus set q votes = option_map why.Vote (first_failing (is_founded aus set q) votes)

-- The rules of the second round together, for a poller's journal before the place.

-- of the votes
abbrev pub votes_doubt : Plan → List Shelf → Limits → Ballot → List Vote → List (List ℕ) → Repair → Option Why
votes_doubt plan set limits q votes copy r =
    shape_doubt q.count votes
    ▹ (loss_doubt limits q votes copy r.block
    ▹ (win_doubt limits q votes (slice_set copy r.block r.bytes) r.block
    ▹ voter_doubt plan.aus set q votes))

-- of the poll that was opened so
unfoldable pub opened_doubt : Plan → List Shelf → ℕ → List Record → Repair → Opening → Option Why
opened_doubt plan set poller before r o =
    unless (is_polled (limits_of plan.rules o) before r o) why.Poll
    ▹ votes_doubt plan set (limits_of plan.rules o)
    (ballot_for poller r.number o (unwrap_or (count_in plan.aus r.au) 0))
    (inner_votes r.number o.inner before) (contents_of r.au before) r

-- of the poll
abbrev pub poll_doubt_if : Plan → List Shelf → ℕ → List Record → Repair → Option Opening → Option Why
poll_doubt_if plan set poller before r None = Some why.Poll
poll_doubt_if plan set poller before r (Some o) = opened_doubt plan set poller before r o

unfoldable pub poll_doubt : Plan → List Shelf → ℕ → List Record → Repair → Option Why
poll_doubt plan set poller before r = poll_doubt_if plan set poller before r (opening_of r.number before)
