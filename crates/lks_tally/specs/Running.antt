-- A poll that runs, as its poller knows it: what each thing that happens makes of it, and its rules.
use Rattle.std.specs.Prelude.{ℕ, Bool, true, false, not, ◌&&◌, ◌==◌, if◌then◌else◌, Option, Some, None, is_some}
use Rattle.std.specs.Prelude.{unwrap_or, List, [], ◌∷◌, ◌++◌, filter, find}
use Rattle.std.specs.List.{list_any}
use Rattle.lks_base.specs.Checking.{has_member}
use Rattle.lks_base.specs.declared.names.HashKind.{HashKind}
use Rattle.lks_base.specs.declared.names.Limits.{Limits}
use Rattle.lks_base.specs.declared.names.Outcome.{Outcome}
use Rattle.lks_base.specs.declared.names.Outcome.TheVariants as outcome
use Rattle.lks_tally.specs.PollRules as poll
use Rattle.lks_tally.specs.declared.ballots.Verdict.{Verdict}
use Rattle.lks_tally.specs.declared.ballots.Verdict.TheVariants.{Inquorate, Agreed, Loss, Split}
use Rattle.lks_tally.specs.declared.ballots.Vote.{Vote}

-- what a poll keeps from its opening
pub record Opening : Type 0 where
  pub au : ℕ
  pub nonce : List ℕ
  pub inner : List ℕ
  pub limits : Option Limits
  pub kind : HashKind

-- the block and the voter of a request for a repair
pub record Request : Type 0 where
  pub block : ℕ
  pub voter : ℕ

-- whom a voter nominated
pub record Nomination : Type 0 where
  pub voter : ℕ
  pub nominees : List ℕ

-- a poll that runs
pub record Poll : Type 0 where
  pub number : ℕ
  pub opening : Opening
  pub nominations : List Nomination
  pub outer : Option (List ℕ)  -- the outer circle, once it is invited
  pub inner_votes : List Vote
  pub outer_votes : List Vote
  pub voters : List ℕ  -- of both circles, in order of their votes
  pub shut : Bool
  pub asked : List Request
  pub request : Option Request  -- the one that is unanswered

-- ---- what happens

-- a poll that was opened just now
abbrev pub begun_poll : ℕ → Opening → Poll
begun_poll n opening =
    record {
      number = n;
      opening = opening;
      nominations = [];
      outer = None;
      inner_votes = [];
      outer_votes = [];
      voters = [];
      shut = false;
      asked = [];
      request = None;
    }

-- a voter nominated these
abbrev pub nominated_by : ℕ → List ℕ → Poll → Poll
nominated_by voter nominees p =
    record p { nominations = p.nominations ++ record { voter = voter; nominees = nominees } ∷ [] }

-- the circle that was invited first stays
abbrev pub first_circle : Option (List ℕ) → List ℕ → Option (List ℕ)
first_circle None outer = Some outer
first_circle (Some before) outer = Some before

-- the outer circle is invited
abbrev pub widened_to : List ℕ → Poll → Poll
widened_to outer p = record p { outer = first_circle p.outer outer }

-- a vote came, of the inner circle or of the outer one
abbrev pub voted_by : Vote → Poll → Poll
voted_by v p =
    if has_member p.opening.inner v.voter
    then record p { inner_votes = p.inner_votes ++ v ∷ []; voters = p.voters ++ v.voter ∷ [] }
    else record p { outer_votes = p.outer_votes ++ v ∷ []; voters = p.voters ++ v.voter ∷ [] }

-- voting ended
abbrev pub shut_now : Poll → Poll
shut_now p = record p { shut = true }

-- a voter was asked for a block
abbrev pub request_sent : Request → Poll → Poll
request_sent r p = record p { asked = p.asked ++ r ∷ []; request = Some r }

-- the request was answered, or given up
abbrev pub request_answered : Poll → Poll
request_answered p = record p { request = None }

-- ---- the rules

-- the outer circle is invited once, while votes are open
abbrev pub may_widen : Poll → Bool
may_widen p = poll.may_widen (not p.shut) (is_some p.outer)

-- the inner circle is invited, then the outer one
unfoldable pub is_invited_to : Poll → ℕ → Bool
is_invited_to p v = poll.is_invited p.opening.inner (unwrap_or p.outer []) v

-- whether the voter nominated already
unfoldable pub has_nominated_in : Poll → ℕ → Bool
has_nominated_in p v = list_any (λ (n : Nomination). n.voter == v) p.nominations

-- an inner peer nominates once, until the outer circle is invited
abbrev pub may_nominate : Poll → ℕ → Bool
may_nominate p from = may_widen p && poll.may_nominate (has_member p.opening.inner from) (has_nominated_in p from)

-- an invited peer is sent the proof of effort until its vote is in, while votes are open
abbrev pub may_prove : Poll → ℕ → Bool
may_prove p from = not p.shut && is_invited_to p from && not (has_member p.voters from)

-- an invited peer votes once, while votes are open, with so many hashes: one for each of so many blocks
abbrev pub may_vote : Poll → ℕ → ℕ → ℕ → Bool
may_vote p from hashes count =
    not p.shut && poll.may_vote (is_invited_to p from) (has_member p.voters from) hashes count

-- the invited peers that haven't voted
unfoldable pub silent_in : Poll → List ℕ
silent_in p = filter (λ v. not (has_member p.voters v)) (p.opening.inner ++ unwrap_or p.outer [])

-- votes are counted once voting ended, while no request waits
abbrev pub may_tally : Poll → Bool
may_tally p = p.shut && not (is_some p.request)

-- whether the voter was asked for block b
unfoldable pub was_asked_of : Poll → ℕ → ℕ → Bool
was_asked_of p b v = list_any (λ (r : Request). r.block == b && r.voter == v) p.asked

-- of the voters against block b, the first that wasn't asked for it yet
abbrev pub first_unasked : Poll → ℕ → List ℕ → Option ℕ
first_unasked p b against = find (λ v. not (was_asked_of p b v)) against

-- whether the request that is unanswered is to this voter, for block b
abbrev pub is_request : ℕ → ℕ → Option Request → Bool
is_request b v None = false
is_request b v (Some r) = r.block == b && r.voter == v

module _ {X : Type 0} (close : Outcome → X) where
  -- this voter is asked for block b, or the poll ends where there is none
  abbrev pub supplied_by : (ℕ → ℕ → X) → ℕ → Option ℕ → X
  supplied_by ask b None = close (outcome.NoSupplier b)
  supplied_by ask b (Some v) = ask b v

  -- The first block that isn't a win decides: a split closes the poll, and at a loss a voter against the copy is asked
  -- for the block.
  abbrev pub follows : X → (ℕ → X) → Verdict → X
  follows few lose Inquorate = few
  follows few lose Agreed = close outcome.Agreed
  follows few lose (Split b) = close (outcome.Split b)
  follows few lose (Loss b) = lose b
