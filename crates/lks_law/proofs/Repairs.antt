-- What an answer to a request keeps, and the evidence for a block that it replaces.
use Rattle.std.proofs.Common.{◌≡◌, ◌≢◌, ◌≤◌, ◌∙◌, ap, sym, subst, ℕ, Bool, true, false, cond, eqb, List, [], ◌∷◌}
use Rattle.std.proofs.Common.{◌++◌, refl}
use Rattle.std.specs.Prelude.{Option, Some, None, slice_set}
use Rattle.std.proofs.lemmas.Bool.{and_parts, cond_both, eqb-true, eqb-false, ne_eqb}
use Rattle.std.proofs.lemmas.List.{length-set}
use Rattle.std.proofs.lemmas.List.Kept.{AllPairs-filter}
use Rattle.lks_base.specs.declared.records.Record.{Record}
use Rattle.lks_base.specs.declared.records.Record.TheVariants as records
use Rattle.lks_law.specs.Journal.{Opening, Request, contents_of, opening_of, unanswered_request}
use Rattle.lks_law.specs.Polls.{Station, ObeyQuorumRule, limits_in, limits_of, ballot_of, inner_votes, said_at}
use Rattle.lks_law.specs.Polls.{is_win, restores}
use Rattle.lks_law.specs.Reaction.{is_request, may_repair, on_repair, given_up, on_give_up}
use Rattle.lks_law.specs.Safe.{Evidence}
use Rattle.lks_law.proofs.Grown.{contents_more, replaced_if}
use Rattle.lks_law.proofs.Kept.{Kept, AllGood, kept_more, rest_after, evidence_more, plain_bad}
use Rattle.lks_law.proofs.PollStates.{Good, Poll, poll_of, poll_more, answered, if_own}
use Rattle.lks_law.proofs.PollStates.{good_answered, good_copies}
use Rattle.lks_law.proofs.Rows.{KeptBy, kept_nothing, kept_if, kept_opening}
use Rattle.lks_tally.specs.declared.ballots.At.{At}
use Rattle.lks_tally.specs.declared.ballots.At.TheVariants as at
use Rattle.lks_tally.specs.Counting.{against_at, for_at}
use Rattle.lks_tally.proofs.Deciding.{win_at, loss_at}

-- the request that an answer names
record Waits (journal : List Record) (n b : ℕ) : Type 0 where
  request : Request
  unanswered_is : unanswered_request n journal ≡ Some request
  block : request.block ≡ b

request_is : (b v : ℕ) (q : Option Request) → is_request b v q ≡ true → (r : Request) × (q ≡ Some r) × (r.block ≡ b)
request_is b v None e = absurd cc
request_is b v (Some r) e = (r, refl, eqb-true r.block b (and_parts _ _ e).0)

waits : (journal : List Record) (from n b : ℕ) → may_repair journal from n b ≡ true → Waits journal n b
unfolding may_repair
waits journal from n b may =
    let found = request_is b from _ may in
    record { request = found.0; unanswered_is = found.1; block = found.2 }

win_is : (a : At) → is_win a ≡ true → a ≡ at.Win
win_is at.Win e = refl
win_is at.Loss e = absurd cc
win_is at.Split e = absurd cc

evidence_for : (own : Station) (js : List Record) (n b : ℕ) (bytes : List ℕ) (o : Opening) → Kept own js
    → opening_of n js ≡ Some o → Waits js n b
    → ObeyQuorumRule (limits_in own.rules) → restores own n o b bytes js ≡ true
    → Evidence own.rules own.id js (record { number = n; au = o.au; block = b; bytes = bytes })
unfolding inner_votes said_at restores
evidence_for own js n b bytes o kept opened waits rule win =
    let good = kept.good n in
    let limits = limits_of own.rules o in
    let copy = contents_of o.au js in
    let votes = inner_votes n o.inner js in
    let has = good.asked o opened (good.runs waits.request waits.unanswered_is).1 in
    record {
      opening = o;
      opened = opened;
      of_au = refl;
      lawful = (kept.rest.lawful rule).opened n o opened;
      ended = has.0;
      distinct =
          AllPairs-filter (λ v w. v.voter ≢ w.voter) _ (poll_of n js).votes good.distinct;
      quorum = has.1;
      few_for_old =
          subst (λ k. for_at _ votes copy k ≤ limits.minority) waits.block
          (loss_at limits.minority _ votes copy waits.request.block
          (good.lost o waits.request opened waits.unanswered_is)).0;
      few_against_new =
          subst (λ count. against_at (ballot_of own n o count) votes (slice_set copy b bytes) b ≤ limits.minority)
          (length-set copy b bytes) (win_at limits.minority _ votes _ b (win_is _ win));
    }

-- the copy of another AU stays
other_copy : (js : List Record) (n au b other : ℕ) (bytes : List ℕ) → (au ≡ other → ⊥)
    → contents_of other (js ++ records.Replaced n au b bytes ∷ []) ≡ contents_of other js
other_copy js n au b other bytes apart =
    contents_more other js _ refl
    ∙ ap (λ t. replaced_if (contents_of other js) (cond t (Some (record { block = b; bytes = bytes })) None))
    (ne_eqb au other apart)

-- a poll that waits for a repair still does, unless this was it
good_replaced : (own : Station) (js : List Record) (n b : ℕ) (bytes : List ℕ) (o : Opening) → Kept own js
    → opening_of n js ≡ Some o → Waits js n b
    → AllGood own (js ++ records.Replaced n o.au b bytes ∷ [])
good_replaced own js n b bytes o kept opened waits k =
    let after = js ++ records.Replaced n o.au b bytes ∷ [] in
    subst (Good own k _) (sym (poll_more k js _))
    (good_copies own k _ _ _
    (if_own own k _ n _ _ (kept.good k) (λ same.
    good_answered own k _ o _ (kept.good k)
    (subst (λ m. opening_of m js ≡ Some o) same opened)))
    (by_poll (eqb n k) refl))
  where
    by_poll : (t : Bool) → eqb n k ≡ t → (x : Opening) (r : Request)
        → (cond t (answered (poll_of k js)) (poll_of k js)).opening ≡ Some x
        → (cond t (answered (poll_of k js)) (poll_of k js)).request ≡ Some r
        → contents_of x.au (js ++ records.Replaced n o.au b bytes ∷ []) ≡ contents_of x.au js
    by_poll true e x r is asked = absurd cc
    by_poll false e x r is asked =
        other_copy js n o.au b x.au bytes (λ same. eqb-false n k e
        (kept.rest.alone n k o x opened is ((kept.good n).runs waits.request waits.unanswered_is).0
        ((kept.good k).runs r asked).0 same))

kept_replaced : (own : Station) (js : List Record) (n b : ℕ) (bytes : List ℕ) (o : Opening) → Kept own js
    → opening_of n js ≡ Some o → Waits js n b
    → restores own n o b bytes js ≡ true → Kept own (js ++ records.Replaced n o.au b bytes ∷ [])
kept_replaced own js n b bytes o kept opened waits win =
    record {
      good = good_replaced own js n b bytes o kept opened waits;
      rest = rest_after own js _ (λ m. refl) refl tt
          (λ rule. evidence_more own js _ (kept.rest.evidence rule) (λ x is.
          let same : record { number = n; au = o.au; block = b; bytes = bytes } ≡ x = cc in
          subst (Evidence own.rules own.id js) same (evidence_for own js n b bytes o kept opened waits rule win)))
          kept.rest;
    }

kept_bad : (own : Station) (js : List Record) (from m b : ℕ) (o : Opening) → Kept own js → opening_of m js ≡ Some o
    → Kept own (js ++ records.RepairBad m b from ∷ [])
kept_bad own js from m b o kept opened =
    kept_more own js _ (plain_bad m b from) kept (λ n. if_own own n _ m _ _ (kept.good n) (λ same.
    good_answered own n _ o _ (kept.good n) (subst (λ k. opening_of k js ≡ Some o) same opened)))

pub kept_on_repair : (own : Station) (js : List Record) (from n b : ℕ) (bytes : List ℕ) → Kept own js
    → KeptBy own js (on_repair own js from n b bytes)
unfolding on_repair
kept_on_repair own js from n b bytes kept =
    kept_if own js _ _ kept (λ may. kept_opening own js _ _ kept (λ o opened. cond_both _ _ _ (KeptBy own js)
    (λ win. kept_replaced own js n b bytes o kept opened (waits js from n b may) win)
    (λ lost. kept_bad own js from n b o kept opened)))

-- a poll that waits for a repair was opened
pub kept_on_give_up : (own : Station) (js : List Record) (n : ℕ) → Kept own js → KeptBy own js (on_give_up js n)
unfolding on_give_up
kept_on_give_up own js n kept = by_request (unanswered_request n js) refl
  where
    no_request : (r : Request) → unanswered_request n js ≡ Some r → unanswered_request n js ≡ None → ⊥
    no_request r some none = let both : Some r ≡ None = sym some ∙ none in absurd cc

    by_opening : (r : Request) (o : Option Opening) → unanswered_request n js ≡ Some r → opening_of n js ≡ o
        → Kept own (js ++ records.RepairBad n r.block r.voter ∷ [])
    by_opening r None asked is = absurd (no_request r asked (ap (λ (p : Poll). p.request) ((kept.good n).unopened is)))
    by_opening r (Some o) asked is = kept_bad own js r.voter n r.block o kept is

    by_request : (q : Option Request) → unanswered_request n js ≡ q → KeptBy own js (given_up n q)
    by_request None asked = kept_nothing own js kept
    by_request (Some r) asked = by_opening r (opening_of n js) asked refl
