-- A recount says of each repair of its poll what the journal before that says, and stands for the journal as it grows.
use Rattle.std.proofs.Common.{◌≡◌, ◌∙◌, ap, sym, subst, ℕ, Bool, true, false, cond, List, [], ◌∷◌, ◌++◌, take, refl}
use Rattle.std.proofs.Common.{arith}
use Rattle.std.specs.Prelude.{Option, Some, None, is_some, unwrap_or, nat_lt, ◌==◌, ◌||◌, slice_set, filter}
use Rattle.std.proofs.lemmas.Bool.{and_parts, eqb-true, eq-eqb, ltb-false}
use Rattle.std.proofs.lemmas.List.Sums.{sum_by_push}
use Rattle.lks_base.specs.Checking.{has_member}
use Rattle.lks_base.specs.Quorums.{obeys_quorum_rule}
use Rattle.lks_base.specs.declared.plans.Plan.{Plan}
use Rattle.lks_base.specs.declared.records.Record.{Record}
use Rattle.lks_law.specs.Journal.{Opening, Repair, Replacement, deposit_in, opening_in, vote_in, replacement_in}
use Rattle.lks_law.specs.Journal.{opening_of, is_shut, shuts, contents_of}
use Rattle.lks_law.specs.Polls.{limits_of, inner_votes, ballot_for, votes}
use Rattle.lks_law.proofs.Grown.{opening_more, first_opening, shut_more, votes_more, votes_after, contents_more}
use Rattle.lks_law.proofs.Grown.{replaced_if}
use Rattle.lks_tally.specs.Heads.{heads, keys_of}
use Rattle.lks_evidence.specs.declared.findings.Shelf.{Shelf}
use Rattle.lks_evidence.specs.declared.findings.Why.TheVariants as why
use Rattle.lks_evidence.specs.Records.{openings}
use Rattle.lks_evidence.specs.Rules.{◌▹◌, unless, count_in, is_polled, votes_doubt, opened_doubt, poll_doubt_if}
use Rattle.lks_evidence.specs.Rules.{poll_doubt}
use Rattle.lks_evidence.specs.Recounts.{Recounted, HasHashes, IsSame, IsRecount, IsRecountIf, is_of, is_of_last}
use Rattle.lks_evidence.specs.Recounts.{recount_from, recount_by, recount_if, recount_of, unsettles, with_mended_block}
use Rattle.lks_evidence.specs.Recounts.{recount_after, last_after}
use Rattle.lks_evidence.proofs.Evidenced.{polled_parts, polled_from}
use Rattle.lks_evidence.proofs.Fronts.{take_replaced}

module _ (plan : Plan) (set : List Shelf) (poller : ℕ) (before : List Record) where
  -- The first recount.

  made : (r : Repair) (o : Opening) → opening_of r.number before ≡ Some o
      → is_polled (limits_of plan.rules o) before r o ≡ true
      → IsRecount plan set poller before (recount_from plan set poller before (contents_of r.au before) r o)
  made r o opened polled =
      let p = polled_parts (limits_of plan.rules o) before r o polled in
      record {
        opening = o;
        opened = opened;
        once = p.once;
        ended = p.ended;
        limits = refl;
        lawful = p.lawful;
        ballot = ap (λ au. ballot_for poller r.number o (unwrap_or (count_in plan.aus au) 0)) (sym p.of_au);
        votes = refl;
        copy = ap (λ au. contents_of au before) (sym p.of_au);
        hashes = refl;
        doubt = refl;
      }

  same_poll : (r : Repair) (o : Opening) → o.au ≡ r.au
      → is_of r (recount_from plan set poller before (contents_of r.au before) r o) ≡ true
  same_poll r o same = rw (eq-eqb r.number r.number refl, eq-eqb o.au r.au same) refl

  -- what is recounted afresh is the poll as the journal has it
  pub recount_is : (r : Repair) (k : Recounted)
      → recount_of plan set poller before (contents_of r.au before) r ≡ Some k
      → IsRecount plan set poller before k × (is_of r k ≡ true)
  unfolding recount_of recount_by
  recount_is r k e = by_opening (opening_of r.number before) refl e
    where
      by_test : (o : Opening) (t : Bool) → opening_of r.number before ≡ Some o
          → is_polled (limits_of plan.rules o) before r o ≡ t
          → cond t (Some (recount_from plan set poller before (contents_of r.au before) r o)) None ≡ Some k
          → IsRecount plan set poller before k × (is_of r k ≡ true)
      by_test o true opened polled e =
          let same : recount_from plan set poller before (contents_of r.au before) r o ≡ k = cc in
          subst (λ k. IsRecount plan set poller before k × (is_of r k ≡ true)) same
          (made r o opened polled, same_poll r o (polled_parts (limits_of plan.rules o) before r o polled).of_au)
      by_test o false opened polled e = absurd cc

      by_opening : (o : Option Opening) → opening_of r.number before ≡ o
          → recount_if plan set poller before (contents_of r.au before) r o ≡ Some k
          → IsRecount plan set poller before k × (is_of r k ≡ true)
      by_opening None opened e = absurd cc
      by_opening (Some o) opened e = by_test o (is_polled (limits_of plan.rules o) before r o) opened refl e

  -- and where there is nothing to recount, the poll is in doubt
  pub recount_not : (r : Repair) → recount_of plan set poller before (contents_of r.au before) r ≡ None
      → poll_doubt plan set poller before r ≡ Some why.Poll
  unfolding recount_of recount_by poll_doubt opened_doubt
  recount_not r e = by_opening (opening_of r.number before) e
    where
      by_test : (o : Opening) (t : Bool) → is_polled (limits_of plan.rules o) before r o ≡ t
          → cond t (Some (recount_from plan set poller before (contents_of r.au before) r o)) None ≡ None
          → opened_doubt plan set poller before r o ≡ Some why.Poll
      by_test o true polled e = absurd cc
      by_test o false polled e = rw polled refl

      by_opening : (o : Option Opening) → recount_if plan set poller before (contents_of r.au before) r o ≡ None
          → poll_doubt_if plan set poller before r o ≡ Some why.Poll
      by_opening None e = refl
      by_opening (Some o) e = by_test o (is_polled (limits_of plan.rules o) before r o) refl e

  -- the last recount where it is of the repair's poll, or one made afresh
  pub chosen_is : (r : Repair) (last : Option Recounted) (k : Recounted) → IsRecountIf plan set poller before last
      → Some k ≡ cond (is_of_last r last) last (recount_of plan set poller before (contents_of r.au before) r)
      → IsRecount plan set poller before k × (is_of r k ≡ true)
  chosen_is r None k is e = recount_is r k (sym e)
  chosen_is r (Some l) k is e = by_test (is_of r l) refl e
    where
      by_test : (t : Bool) → is_of r l ≡ t
          → Some k ≡ cond t (Some l) (recount_of plan set poller before (contents_of r.au before) r)
          → IsRecount plan set poller before k × (is_of r k ≡ true)
      by_test true of e =
          let same : l ≡ k = cc in
          subst (λ k. IsRecount plan set poller before k × (is_of r k ≡ true)) same (is, of)
      by_test false of e = recount_is r k (sym e)

  pub chosen_not : (r : Repair) (last : Option Recounted)
      → None ≡ cond (is_of_last r last) last (recount_of plan set poller before (contents_of r.au before) r)
      → poll_doubt plan set poller before r ≡ Some why.Poll
  chosen_not r None e = recount_not r (sym e)
  chosen_not r (Some l) e = by_test (is_of r l) e
    where
      by_test : (t : Bool) → None ≡ cond t (Some l) (recount_of plan set poller before (contents_of r.au before) r)
          → poll_doubt plan set poller before r ≡ Some why.Poll
      by_test true e = absurd cc
      by_test false e = recount_not r (sym e)

  -- Each repair of the poll.

  pub recount_says : (r : Repair) (k : Recounted) → IsRecount plan set poller before k → is_of r k ≡ true
      → votes_doubt plan set k.limits k.ballot k.votes k.copy r ≡ poll_doubt plan set poller before r
  unfolding poll_doubt opened_doubt
  recount_says r k is of =
      let parts = and_parts (k.number == r.number) _ of in
      let number : k.number ≡ r.number = eqb-true k.number r.number parts.0 in
      let au : k.ballot.au ≡ r.au = eqb-true k.ballot.au r.au parts.1 in
      let o = is.opening in
      let limits = limits_of plan.rules o in
      let of_au : o.au ≡ r.au = sym (ap (λ q. q.au) is.ballot) ∙ au in
      let polled : is_polled limits before r o ≡ true = polled_from limits before r o (record {
        once = ap (λ n. openings n before) (sym number) ∙ is.once;
        of_au = of_au;
        ended = ap (λ n. is_shut n before) (sym number) ∙ is.ended;
        lawful = subst (λ l. obeys_quorum_rule l.quorum l.minority ≡ true) is.limits is.lawful;
      }) in
      let ballot : k.ballot ≡ ballot_for poller r.number o (unwrap_or (count_in plan.aus r.au) 0) =
      is.ballot ∙ (λ i. ballot_for poller (number i) o (unwrap_or (count_in plan.aus (au i)) 0)) in
      let votes : k.votes
      ≡ inner_votes r.number o.inner before = is.votes ∙ ap (λ n. inner_votes n o.inner before) number in
      let copy : k.copy ≡ contents_of r.au before = is.copy ∙ ap (λ au. contents_of au before) au in
      (λ i. votes_doubt plan set (is.limits i) (ballot i) (votes i) (copy i) r)
      ∙ ap
      (λ t. unless t why.Poll
      ▹ votes_doubt plan set limits (ballot_for poller r.number o (unwrap_or (count_in plan.aus r.au) 0))
      (inner_votes r.number o.inner before) (contents_of r.au before) r) (sym polled)
      ∙ ap (poll_doubt_if plan set poller before r) (sym (ap (λ n. opening_of n before) (sym number) ∙ is.opened))

  -- the same poll with its copy, with other hashes
  pub recount_same : (old new : Recounted) → IsRecount plan set poller before old → IsSame new old → HasHashes new
      → IsRecount plan set poller before new
  recount_same old new is same hashes =
      subst (IsRecount plan set poller before) (sym same) (record {
        opening = is.opening;
        opened = is.opened;
        once = is.once;
        ended = is.ended;
        limits = is.limits;
        lawful = is.lawful;
        ballot = is.ballot;
        votes = is.votes;
        copy = is.copy;
        hashes = subst HasHashes same hashes;
        doubt = is.doubt;
      })

-- One record more.

module _ (n : ℕ) (js : List Record) (r : Record) where
  openings_same : opening_in n r ≡ None → openings n (js ++ r ∷ []) ≡ openings n js
  unfolding openings
  openings_same none =
      sum_by_push (λ j. cond (is_some (opening_in n j)) 1 0) js r
      ∙ omega (arith, ap {B = ℕ} (λ o. cond (is_some o) 1 0) none)

  inner_same : (inner : List ℕ) → vote_in n r ≡ None → inner_votes n inner (js ++ r ∷ []) ≡ inner_votes n inner js
  unfolding inner_votes
  inner_same inner none =
      ap (filter (λ v. has_member inner v.voter)) (votes_more n js r ∙ ap (votes_after (votes n js)) none)

  shut_same : is_shut n js ≡ true → is_shut n (js ++ r ∷ []) ≡ true
  shut_same shut = shut_more n js r ∙ either (shuts n r) (is_shut n js) shut
    where
      either : (s t : Bool) → t ≡ true → cond s true t ≡ true
      either true t e = refl
      either false t e = e

not_some : {X : Type 0} (o : Option X) → is_some o ≡ false → o ≡ None
not_some None e = refl
not_some (Some x) e = absurd cc

-- what a record that unsettles nothing leaves out
record Settled (k : Recounted) (r : Record) : Type 0 where
  no_deposit : deposit_in k.ballot.au r ≡ None
  no_opening : opening_in k.number r ≡ None
  no_vote : vote_in k.number r ≡ None

neither : (a b : Bool) → (a || b) ≡ false → (a ≡ false) × (b ≡ false)
neither true b e = absurd cc
neither false b e = (refl, e)

settled : (k : Recounted) (r : Record) → unsettles k r ≡ false → Settled k r
unfolding unsettles
settled k r e =
    let first = neither (is_some (deposit_in k.ballot.au r)) _ e in
    let rest = neither (is_some (opening_in k.number r)) _ first.1 in
    record { no_deposit = not_some _ first.0; no_opening = not_some _ rest.0; no_vote = not_some _ rest.1 }

-- a replaced block leaves the hashes over the blocks before it
kept_hashes : (k : Recounted) (o : Option Replacement) → HasHashes k → HasHashes (with_mended_block k o)
kept_hashes k None kept = kept
kept_hashes k (Some x) kept = by_test (nat_lt x.block k.front) refl
  where
    by_test : (t : Bool) → nat_lt x.block k.front ≡ t
        → cond t (keys_of k.ballot k.votes) k.hashes
        ≡ heads k.ballot (take (cond t 0 k.front) (slice_set k.copy x.block x.bytes)) k.votes
    by_test true behind = refl
    by_test false behind =
        kept
        ∙ ap (λ bs. heads k.ballot bs k.votes)
        (sym (take_replaced k.copy k.front x.block x.bytes (ltb-false x.block k.front behind)))

module _ (plan : Plan) (set : List Shelf) (poller : ℕ) (before : List Record) (r : Record) where
  still : (k : Recounted) (o : Option Replacement) → replacement_in k.ballot.au r ≡ o → Settled k r
      → IsRecount plan set poller before k
      → IsRecount plan set poller (before ++ r ∷ []) (with_mended_block k o)
  still k None replaced quiet is = record {
    opening = is.opening;
    opened = opening_more k.number before r ∙ ap (λ o. first_opening o (opening_in k.number r)) is.opened;
    once = openings_same k.number before r quiet.no_opening ∙ is.once;
    ended = shut_same k.number before r is.ended;
    limits = is.limits;
    lawful = is.lawful;
    ballot = is.ballot;
    votes = is.votes ∙ sym (inner_same k.number before r is.opening.inner quiet.no_vote);
    copy =
        is.copy
        ∙ sym
        (contents_more k.ballot.au before r quiet.no_deposit
        ∙ ap (replaced_if (contents_of k.ballot.au before)) replaced);
    hashes = is.hashes;
    doubt = is.doubt;
  }
  still k (Some x) replaced quiet is = record {
    opening = is.opening;
    opened = opening_more k.number before r ∙ ap (λ o. first_opening o (opening_in k.number r)) is.opened;
    once = openings_same k.number before r quiet.no_opening ∙ is.once;
    ended = shut_same k.number before r is.ended;
    limits = is.limits;
    lawful = is.lawful;
    ballot = is.ballot;
    votes = is.votes ∙ sym (inner_same k.number before r is.opening.inner quiet.no_vote);
    copy = ap (λ c. slice_set c x.block x.bytes) is.copy
        ∙ sym
        (contents_more k.ballot.au before r quiet.no_deposit
        ∙ ap (replaced_if (contents_of k.ballot.au before)) replaced);
    hashes = kept_hashes k (Some x) is.hashes;
    doubt = is.doubt;
  }

  -- a recount that still stands is one of the journal with the record
  pub recount_on : (last : Option Recounted) → IsRecountIf plan set poller before last
      → IsRecountIf plan set poller (before ++ r ∷ []) (last_after last r)
  unfolding recount_after
  recount_on None is = tt
  recount_on (Some k) is = by_test (unsettles k r) refl
    where
      by_test : (t : Bool) → unsettles k r ≡ t
          → IsRecountIf plan set poller (before ++ r ∷ [])
          (cond t None (Some (with_mended_block k (replacement_in k.ballot.au r))))
      by_test true e = tt
      by_test false e = still k (replacement_in k.ballot.au r) refl (settled k r e) is
