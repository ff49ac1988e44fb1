-- Whom a peer samples: its reference list as agreed polls leave it, and the circles of its polls.
use Rattle.std.specs.Prelude.{ℕ, ◌-◌, not, Option, Some, None, List, [], ◌∷◌, ◌++◌, length, filter}
use Rattle.lks_base.specs.Checking.{has_member}
use Rattle.lks_base.specs.declared.records.Record.{Record}
use Rattle.lks_draw.specs.Picks.{picked_by}
use Rattle.lks_draw.specs.Words.{drawn_from}
use Rattle.lks_law.specs.Journal.{Opening, agreed_in, contents_of, opening_of, nominations}
use Rattle.lks_law.specs.Polls.{Station, votes, inner_votes, ballot_of}
use Rattle.lks_choice.specs.Circles.{circle_of}
use Rattle.lks_choice.specs.Lists.{list_after}
use Rattle.lks_tally.specs.Counting.{voters_for, voters_against}
use Rattle.lks_tally.specs.declared.ballots.Vote.{Vote}

-- the votes of poll n by peers outside its inner circle
unfoldable pub outer_votes : ℕ → List ℕ → List Record → List Vote
outer_votes n inner journal = filter (λ v. not (has_member inner v.voter)) (votes n journal)

-- the inner voters of poll n against the copy at its last block
unfoldable pub dissenters : Station → ℕ → Opening → List Record → List ℕ
dissenters own n opening journal =
    let copy = contents_of opening.au journal in
    voters_against (ballot_of own n opening (length copy)) (inner_votes n opening.inner journal) copy (length copy - 1)

-- its outer voters for the copy there
unfoldable pub joiners : Station → ℕ → Opening → List Record → List ℕ
joiners own n opening journal =
    let copy = contents_of opening.au journal in
    voters_for (ballot_of own n opening (length copy)) (outer_votes n opening.inner journal) copy (length copy - 1)

-- the friends that are picked after poll n, by the draw of label 4
unfoldable pub picked_friends : Station → ℕ → List ℕ
picked_friends own n = picked_by (drawn_from own.seed 4 n) own.friends own.rules.churn

-- Poll n is agreed: who was against leaves the list, then who joins and who is picked comes to its end.
abbrev pub list_agreed : Station → List Record → List ℕ → ℕ → Option Opening → List ℕ
list_agreed own journal list n None = list
list_agreed own journal list n (Some opening) =
    list_after own.id list (dissenters own n opening journal) (joiners own n opening journal) (picked_friends own n)

abbrev pub list_if : Station → List Record → List ℕ → Option ℕ → List ℕ
list_if own journal list None = list
list_if own journal list (Some n) = list_agreed own journal list n (opening_of n journal)

-- the list after a record, given the journal before it
unfoldable pub list_with : Station → List Record → List ℕ → Record → List ℕ
list_with own before list r = list_if own before list (agreed_in r)

abbrev pub list_from : Station → List Record → List ℕ → List Record → List ℕ
list_from own before list [] = list
list_from own before list (r ∷ rs) = list_from own (before ++ r ∷ []) (list_with own before list r) rs

-- the reference list: the plan's, as the agreed polls of the journal change it in order
unfoldable pub reference_list : Station → List Record → List ℕ
reference_list own journal = list_from own [] own.refs journal

-- the inner circle of poll n: a sample of the reference list, by the draw of label 1
unfoldable pub inner_circle : Station → ℕ → List Record → List ℕ
inner_circle own n journal = picked_by (drawn_from own.seed 1 n) (reference_list own journal) own.rules.inner

-- its outer circle: a sample of its nominees, by the draw of label 2
unfoldable pub outer_circle : Station → ℕ → Opening → List Record → List ℕ
outer_circle own n opening journal =
    (circle_of (drawn_from own.seed 2 n) own.id opening.inner (nominations n journal) own.rules.outer).peers
