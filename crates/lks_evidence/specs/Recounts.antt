-- The recount of a poll, which the checker keeps from one of its repairs to the next.
use Rattle.std.specs.Prelude.{◌≡◌, ℕ, Bool, true, false, ◌==◌, ◌&&◌, ◌||◌, nat_lt, if◌then◌else◌, Option, Some, None}
use Rattle.std.specs.Prelude.{is_some, unwrap_or, List, take, slice_set}
use Rattle.lks_base.specs.Quorums.{obeys_quorum_rule}
use Rattle.lks_base.specs.declared.names.Limits.{Limits}
use Rattle.lks_base.specs.declared.plans.AuPlan.{AuPlan}
use Rattle.lks_base.specs.declared.plans.Plan.{Plan}
use Rattle.lks_base.specs.declared.records.Record.{Record}
use Rattle.lks_hash.specs.Running.{linked}
use Rattle.lks_law.specs.Journal.{Opening, Repair, Replacement, deposit_in, opening_in, vote_in, replacement_in}
use Rattle.lks_law.specs.Journal.{opening_of, is_shut, contents_at, contents_of}
use Rattle.lks_law.specs.Sessions.{Commitment, commitment_of}
use Rattle.lks_law.specs.Polls.{limits_of, inner_votes, ballot_for}
use Rattle.lks_tally.specs.declared.ballots.Ballot.{Ballot}
use Rattle.lks_tally.specs.declared.ballots.Vote.{Vote}
use Rattle.lks_tally.specs.Heads.{heads, keys_of}
use Rattle.lks_evidence.specs.declared.findings.Shelf.{Shelf}
use Rattle.lks_evidence.specs.declared.findings.Why.{Why}
use Rattle.lks_evidence.specs.Records.{commitments, openings}
use Rattle.lks_evidence.specs.Rules.{count_in, is_polled, is_deposited, is_joined, is_for, voter_doubt}

-- what is kept of a poll: its votes, the copy as it stands, each voter's running hash over the first `front` blocks of
-- that, and what the voters' journals leave in doubt
pub record Recounted : Type 0 where
  pub number : ℕ
  pub limits : Limits
  pub ballot : Ballot
  pub votes : List Vote
  pub copy : List (List ℕ)
  pub front : ℕ
  pub hashes : List (List ℕ)
  pub doubt : Option Why

-- each kept hash is its voter's running hash over the front of the copy as it stands
abbrev pub HasHashes : Recounted → Type 0
HasHashes k = k.hashes ≡ heads k.ballot (take k.front k.copy) k.votes

-- and the doubt is that of the first vote against which its voter's journal speaks
abbrev pub HasDoubt : Plan → List Shelf → Recounted → Type 0
HasDoubt plan set k = k.doubt ≡ voter_doubt plan.aus set k.ballot k.votes

-- the same poll, votes and copy
abbrev pub IsSame : Recounted → Recounted → Type 0
IsSame new old = new ≡ record old { front = new.front; hashes = new.hashes }

-- All that is kept is what the poller's journal says before the place.
pub record IsRecount (plan : Plan) (set : List Shelf) (poller : ℕ) (before : List Record) (k : Recounted) : Type 0 where
  pub opening : Opening
  pub opened : opening_of k.number before ≡ Some opening
  pub once : openings k.number before ≡ 1
  pub ended : is_shut k.number before ≡ true
  pub limits : k.limits ≡ limits_of plan.rules opening
  pub lawful : obeys_quorum_rule k.limits.quorum k.limits.minority ≡ true
  pub ballot : k.ballot ≡ ballot_for poller k.number opening (unwrap_or (count_in plan.aus k.ballot.au) 0)
  pub votes : k.votes ≡ inner_votes k.number opening.inner before
  pub copy : k.copy ≡ contents_of k.ballot.au before
  pub hashes : HasHashes k
  pub doubt : HasDoubt plan set k

abbrev pub IsRecountIf : Plan → List Shelf → ℕ → List Record → Option Recounted → Type 0
IsRecountIf plan set poller before None = Unit {0}
IsRecountIf plan set poller before (Some k) = IsRecount plan set poller before k

-- whether the repair is of the poll that was recounted
abbrev pub is_of : Repair → Recounted → Bool
is_of r k = k.number == r.number && k.ballot.au == r.au

abbrev pub is_of_last : Repair → Option Recounted → Bool
is_of_last r None = false
is_of_last r (Some k) = is_of r k

-- The first recount of a poll.

-- of a copy with these blocks

abbrev pub recount_from : Plan → List Shelf → ℕ → List Record → List (List ℕ) → Repair → Opening → Recounted
recount_from plan set poller before copy r o =
    let q = ballot_for poller r.number o (unwrap_or (count_in plan.aus r.au) 0) in
    let votes = inner_votes r.number o.inner before in
    record {
      number = r.number;
      limits = limits_of plan.rules o;
      ballot = q;
      votes = votes;
      copy = copy;
      front = r.block;
      hashes = heads q (take r.block copy) votes;
      doubt = voter_doubt plan.aus set q votes;
    }

unfoldable pub recount_by : Plan → List Shelf → ℕ → List Record → List (List ℕ) → Repair → Opening → Option Recounted
recount_by plan set poller before copy r o =
    if is_polled (limits_of plan.rules o) before r o then Some (recount_from plan set poller before copy r o) else None

abbrev pub recount_if : Plan → List Shelf → ℕ → List Record → List (List ℕ) → Repair → Option Opening → Option Recounted
recount_if plan set poller before copy r None = None
recount_if plan set poller before copy r (Some o) = recount_by plan set poller before copy r o

unfoldable pub recount_of : Plan → List Shelf → ℕ → List Record → List (List ℕ) → Repair → Option Recounted
recount_of plan set poller before copy r = recount_if plan set poller before copy r (opening_of r.number before)

-- the last recount has the copy as it stands
abbrev pub HasCopy : List Record → Option Recounted → Type 0
HasCopy before None = Unit {0}
HasCopy before (Some k) = k.copy ≡ contents_of k.ballot.au before

-- The version over which a voter voted.

abbrev pub version_if : Ballot → List Record → Option Commitment → Option (List (List ℕ))
version_if q journal None = None
version_if q journal (Some c) = if is_for q journal c then Some (contents_at q.au c.version journal) else None

-- the one to which the voter's journal commits it, if it does as it has to
unfoldable pub version_of : List AuPlan → Ballot → List Record → Option (List (List ℕ))
version_of aus q journal =
    if is_deposited aus q.au journal && (is_joined q journal && commitments q.poll journal == 1)
    then version_if q journal (commitment_of q.poll journal) else None

-- One record more.

-- whether the record changes what is kept of the poll, or of the AU, otherwise than by a repair
unfoldable pub unsettles : Recounted → Record → Bool
unsettles k r = is_some (deposit_in k.ballot.au r) || (is_some (opening_in k.number r) || is_some (vote_in k.number r))

-- a replaced block in the copy; the hashes are forgotten where it stands in their front
abbrev pub with_mended_block : Recounted → Option Replacement → Recounted
with_mended_block k None = k
with_mended_block k (Some x) =
    record k {
      copy = slice_set k.copy x.block x.bytes;
      front = if nat_lt x.block k.front then 0 else k.front;
      hashes = if nat_lt x.block k.front then keys_of k.ballot k.votes else k.hashes;
    }

unfoldable pub recount_after : Recounted → Record → Option Recounted
recount_after k r = if unsettles k r then None else Some (with_mended_block k (replacement_in k.ballot.au r))

abbrev pub last_after : Option Recounted → Record → Option Recounted
last_after None r = None
last_after (Some k) r = recount_after k r

-- a running hash after one block more, if there is one
abbrev pub linked_if : Bool → List ℕ → Option (List ℕ) → List ℕ
linked_if second last None = last
linked_if second last (Some block) = linked second last block
