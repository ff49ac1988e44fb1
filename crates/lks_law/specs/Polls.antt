-- The votes of a peer's own polls, and their verdicts.
use Rattle.std.specs.Prelude.{◌≡◌, ℕ, Bool, true, false, Option, unwrap_or, List, length, filter, find, not, slice_set}
use Rattle.std.specs.List.{filter_map}
use Rattle.lks_base.specs.Checking.{has_member}
use Rattle.lks_base.specs.Quorums.{obeys_quorum_rule}
use Rattle.lks_base.specs.declared.names.HashKind.{HashKind}
use Rattle.lks_base.specs.declared.names.Limits.{Limits}
use Rattle.lks_base.specs.declared.names.Numbers.{Numbers}
use Rattle.lks_base.specs.declared.plans.AuPlan.{AuPlan}
use Rattle.lks_base.specs.declared.plans.Rules.{Rules}
use Rattle.lks_base.specs.declared.records.Record.{Record}
use Rattle.lks_law.specs.Journal.{Opening, Repair, vote_in, outer_of, contents_of, was_asked, numbers_from}
use Rattle.lks_tally.specs.declared.ballots.At.{At}
use Rattle.lks_tally.specs.declared.ballots.At.TheVariants.{Win, Loss, Split}
use Rattle.lks_tally.specs.declared.ballots.Ballot.{Ballot}
use Rattle.lks_tally.specs.declared.ballots.Verdict.{Verdict}
use Rattle.lks_tally.specs.declared.ballots.Vote.{Vote}
use Rattle.lks_tally.specs.PollRules as poll
use Rattle.lks_tally.specs.Counting.{verdict_at, verdict_on, voters_against}

-- what a peer goes by: the rules, the AUs in the plan's order, and its own part of the plan
pub record Station : Type 0 where
  pub rules : Rules
  pub aus : List AuPlan
  pub id : ℕ
  pub seed : List ℕ
  pub proof : List ℕ
  pub refs : List ℕ
  pub friends : List ℕ
  pub hash : HashKind

-- the numbers in force: the rules', or those of the last tuning
unfoldable pub numbers_in_force : Rules → List Record → Numbers
numbers_in_force rules journal =
    numbers_from (record { quorum = rules.quorum; minority = rules.minority; repairs = rules.repairs }) journal

-- those with which a poll begins
abbrev pub limits_in_force : Rules → List Record → Limits
limits_in_force rules journal =
    let numbers = numbers_in_force rules journal in
    record { quorum = numbers.quorum; minority = numbers.minority }

-- the rules' own
abbrev pub limits_in : Rules → Limits
limits_in rules = record { quorum = rules.quorum; minority = rules.minority }

-- the numbers that a poll keeps, or the rules' where it keeps none
abbrev pub limits_of : Rules → Opening → Limits
limits_of rules opening = unwrap_or opening.limits (limits_in rules)

-- no votes are a landslide both ways
abbrev pub ObeyQuorumRule : Limits → Type 0
ObeyQuorumRule limits = obeys_quorum_rule limits.quorum limits.minority ≡ true

-- all votes of poll n, in order
unfoldable pub votes : ℕ → List Record → List Vote
votes n journal = filter_map (vote_in n) journal

-- the votes of poll n by members of its inner circle: these alone decide
unfoldable pub inner_votes : ℕ → List ℕ → List Record → List Vote
inner_votes n inner journal = filter (λ v. has_member inner v.voter) (votes n journal)

-- whether the peer was invited to poll n: the inner circle, then the outer one
unfoldable pub is_invited : ℕ → ℕ → List ℕ → List Record → Bool
is_invited v n inner journal = poll.is_invited inner (outer_of n journal) v

-- what the votes of a poller's poll n are about
abbrev pub ballot_for : ℕ → ℕ → Opening → ℕ → Ballot
ballot_for poller n opening count =
    record {
      poll = record { poller = poller; number = n };
      au = opening.au;
      kind = opening.kind;
      nonce = opening.nonce;
      count = count;
    }

-- and those of the peer's own
abbrev pub ballot_of : Station → ℕ → Opening → ℕ → Ballot
ballot_of own n opening count = ballot_for own.id n opening count

-- the votes that replaced a block, and what they are about

abbrev pub votes_behind : List Record → Repair → Opening → List Vote
votes_behind journal r opening = inner_votes r.number opening.inner journal

abbrev pub ballot_behind : ℕ → List Record → Repair → Opening → Ballot
ballot_behind poller journal r opening = ballot_for poller r.number opening (length (contents_of r.au journal))

-- the verdict of the inner votes of poll n on the peer's copy as it is now
unfoldable pub verdict_in : Station → ℕ → Opening → List Record → Verdict
verdict_in own n opening journal =
    let copy = contents_of opening.au journal in
    let limits = limits_of own.rules opening in
    verdict_on limits.quorum limits.minority (ballot_of own n opening (length copy))
    (inner_votes n opening.inner journal) copy

-- the first of the inner voters against the copy at b, in order of their votes, that wasn't asked for it yet
unfoldable pub candidate : Station → ℕ → Opening → ℕ → List Record → Option ℕ
candidate own n opening b journal =
    let copy = contents_of opening.au journal in
    find (λ v. not (was_asked n b v journal))
    (voters_against (ballot_of own n opening (length copy)) (inner_votes n opening.inner journal) copy b)

-- what the inner votes of poll n say at block b of these blocks
unfoldable pub said_at : Station → ℕ → Opening → List (List ℕ) → ℕ → List Record → At
said_at own n opening blocks b journal =
    verdict_at (limits_of own.rules opening).minority (ballot_of own n opening (length blocks))
    (inner_votes n opening.inner journal) blocks b

abbrev pub is_win : At → Bool
is_win Win = true
is_win Loss = false
is_win Split = false

-- whether they are for the peer's copy at b once it has these bytes there
unfoldable pub restores : Station → ℕ → Opening → ℕ → List ℕ → List Record → Bool
restores own n opening b bytes journal =
    is_win (said_at own n opening (slice_set (contents_of opening.au journal) b bytes) b journal)
