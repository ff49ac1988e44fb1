-- All that a journal says of one poll, and what one record more makes of it.
use Rattle.std.proofs.Common.{◌≡◌, ◌≢◌, ◌≤◌, ◌<◌, ◌∙◌, ap, sym, subst, ℕ, Bool, true, false, cond, eqb, List, [], ◌∷◌}
use Rattle.std.proofs.Common.{◌++◌, length, get_or, filter, refl, arith}
use Rattle.std.specs.Prelude.{Option, Some, None, option_to_list}
use Rattle.std.proofs.lemmas.Bool.{both_ways, cond_both, eqb-true}
use Rattle.std.proofs.lemmas.List.Quantifiers.{all_pairs_push}
use Rattle.lks_base.specs.Checking.{has_member}
use Rattle.lks_base.specs.declared.records.Record.{Record}
use Rattle.lks_base.specs.declared.records.Record.TheVariants.{PollOpened, VoteIn, Shut, Asked, RepairBad, Replaced}
use Rattle.lks_base.specs.declared.records.Record.TheVariants.{Closed}
use Rattle.lks_law.specs.Journal.{Opening, Request, contents_of, opening_in, opening_of, vote_in, shuts, is_shut}
use Rattle.lks_law.specs.Journal.{closes, is_closed, asks_any, has_asked, unanswered_after, unanswered_request}
use Rattle.lks_law.specs.Journal.{waiting_after, waiting_requests}
use Rattle.lks_law.specs.Polls.{Station, limits_of, ballot_of, votes, inner_votes, said_at}
use Rattle.lks_tally.specs.Distinct.{AreDistinct}
use Rattle.lks_law.specs.Facts.{IsPollOf}
use Rattle.lks_law.proofs.Grown.{first_opening, votes_after, opening_more, votes_more, shut_more, closed_more}
use Rattle.lks_law.proofs.Grown.{asked_more, unanswered_more, waiting_more, first_stays}
use Rattle.lks_tally.specs.declared.ballots.At.TheVariants as at
use Rattle.lks_tally.specs.declared.ballots.Vote.{Vote}
use Rattle.lks_tally.specs.Counting.{verdict_at}

pub record Poll : Type 0 where
  pub opening : Option Opening
  pub votes : List Vote
  pub shut : Bool
  pub closed : Bool
  pub asked : Bool
  pub request : Option Request
  pub waiting : List Request

abbrev pub poll_of : ℕ → List Record → Poll
poll_of n js =
    record {
      opening = opening_of n js;
      votes = votes n js;
      shut = is_shut n js;
      closed = is_closed n js;
      asked = has_asked n js;
      request = unanswered_request n js;
      waiting = waiting_requests n js;
    }

-- of a poll that wasn't opened
abbrev pub blank : Poll
blank = record { opening = None; votes = []; shut = false; closed = false; asked = false; request = None; waiting = [] }

abbrev pub opened_as : Opening → Poll → Poll
opened_as o p = record p { opening = first_opening p.opening (Some o) }

abbrev pub voted_by : Vote → Poll → Poll
voted_by v p = record p { votes = p.votes ++ v ∷ [] }

abbrev pub ended : Poll → Poll
ended p = record p { shut = true }

abbrev pub done : Poll → Poll
done p = record p { closed = true }

abbrev pub asking : Request → Poll → Poll
asking r p = record p { asked = true; request = Some r; waiting = p.waiting ++ r ∷ [] }

abbrev pub answered : Poll → Poll
answered p = record p { request = None; waiting = [] }

abbrev pub poll_after : ℕ → Poll → Record → Poll
poll_after n p (PollOpened number au nonce inner tick limits kind) =
    cond (eqb number n) (opened_as (record { au = au; nonce = nonce; inner = inner; limits = limits; kind = kind }) p) p
poll_after n p (VoteIn number voter hashes) =
    cond (eqb number n) (voted_by (record { voter = voter; hashes = hashes }) p) p
poll_after n p (Shut number) = cond (eqb number n) (ended p) p
poll_after n p (Asked number block voter) = cond (eqb number n) (asking (record { block = block; voter = voter }) p) p
poll_after n p (RepairBad number block voter) = cond (eqb number n) (answered p) p
poll_after n p (Replaced number au block bytes) = cond (eqb number n) (answered p) p
poll_after n p (Closed number outcome tick) = cond (eqb number n) (done p) p
poll_after n p _ = p

-- field by field
abbrev parts_after : ℕ → Poll → Record → Poll
parts_after n p r =
    record {
      opening = first_opening p.opening (opening_in n r);
      votes = votes_after p.votes (vote_in n r);
      shut = cond (shuts n r) true p.shut;
      closed = cond (closes n r) true p.closed;
      asked = cond (asks_any n r) true p.asked;
      request = unanswered_after n p.request r;
      waiting = waiting_after n p.waiting r;
    }

parts_more : (n : ℕ) (js : List Record) (r : Record) → poll_of n (js ++ r ∷ []) ≡ parts_after n (poll_of n js) r
parts_more n js r = λ i. record {
  opening = opening_more n js r i;
  votes = votes_more n js r i;
  shut = shut_more n js r i;
  closed = closed_more n js r i;
  asked = asked_more n js r i;
  request = unanswered_more n js r i;
  waiting = waiting_more n js r i;
}

same_poll : (p : Poll) → record p { opening = first_opening p.opening None } ≡ p
same_poll p = λ i. record p { opening = first_stays p.opening i }

opening_by : (p : Poll) (o : Opening) (b : Bool)
    → record p { opening = first_opening p.opening (cond b (Some o) None) } ≡ cond b (opened_as o p) p
opening_by p o true = refl
opening_by p o false = same_poll p

vote_by : (p : Poll) (v : Vote) (b : Bool)
    → record p { opening = first_opening p.opening None; votes = votes_after p.votes (cond b (Some v) None) }
    ≡ cond b (voted_by v p) p
vote_by p v true = same_poll _
vote_by p v false = same_poll p

shut_by : (p : Poll) (b : Bool)
    → record p { opening = first_opening p.opening None; shut = cond b true p.shut } ≡ cond b (ended p) p
shut_by p true = same_poll _
shut_by p false = same_poll p

closed_by : (p : Poll) (b : Bool)
    → record p { opening = first_opening p.opening None; closed = cond b true p.closed } ≡ cond b (done p) p
closed_by p true = same_poll _
closed_by p false = same_poll p

asked_by : (p : Poll) (r : Request) (b : Bool)
    → record p {
      opening = first_opening p.opening None;
      asked = cond b true p.asked;
      request = cond b (Some r) p.request;
      waiting = cond b (p.waiting ++ r ∷ []) p.waiting;
    }
    ≡ cond b (asking r p) p
asked_by p r true = same_poll _
asked_by p r false = same_poll p

answered_by : (p : Poll) (b : Bool)
    → record p {
      opening = first_opening p.opening None;
      request = cond b None p.request;
      waiting = cond b [] p.waiting;
    }
    ≡ cond b (answered p) p
answered_by p true = same_poll _
answered_by p false = same_poll p

parts_are : (n : ℕ) (p : Poll) (r : Record) → parts_after n p r ≡ poll_after n p r
parts_are n p (PollOpened number au nonce inner tick limits kind) = opening_by p _ _
parts_are n p (VoteIn number voter hashes) = vote_by p _ _
parts_are n p (Shut number) = shut_by p _
parts_are n p (Asked number block voter) = asked_by p _ _
parts_are n p (RepairBad number block voter) = answered_by p _
parts_are n p (Replaced number au block bytes) = answered_by p _
parts_are n p (Closed number outcome tick) = closed_by p _
parts_are n p r = same_poll p

pub poll_more : (n : ℕ) (js : List Record) (r : Record) → poll_of n (js ++ r ∷ []) ≡ poll_after n (poll_of n js) r
poll_more n js r = parts_more n js r ∙ parts_are n _ r

-- What holds of each poll, whose AU has these contents.

abbrev pub inner_of : Opening → Poll → List Vote
inner_of o p = filter (λ v. has_member o.inner v.voter) p.votes

pub record Good (own : Station) (n : ℕ) (copy : ℕ → List (List ℕ)) (p : Poll) : Type 0 where
  pub unopened : p.opening ≡ None → p ≡ blank
  pub distinct : AreDistinct p.votes
  pub quorum : (o : Opening) → p.opening ≡ Some o → p.closed ≡ false → p.shut ≡ true
      → (limits_of own.rules o).quorum ≤ length (inner_of o p)
  pub asked : (o : Opening) → p.opening ≡ Some o → p.asked ≡ true
      → (p.shut ≡ true) × ((limits_of own.rules o).quorum ≤ length (inner_of o p))
  pub single : p.waiting ≡ option_to_list p.request
  pub runs : (r : Request) → p.request ≡ Some r → (p.closed ≡ false) × (p.asked ≡ true)
  pub lost : (o : Opening) (r : Request) → p.opening ≡ Some o → p.request ≡ Some r
      → verdict_at (limits_of own.rules o).minority (ballot_of own n o (length (copy o.au))) (inner_of o p)
      (copy o.au) r.block
      ≡ at.Loss

abbrev pub copies_in : List Record → ℕ → List (List ℕ)
copies_in js au = contents_of au js

-- in the journal's own words
pub good_poll : (own : Station) (js : List Record) (n : ℕ) → Good own n (copies_in js) (poll_of n js)
    → IsPollOf own js n
unfolding inner_votes said_at
good_poll own js n good = record {
  distinct = good.distinct;
  quorum = good.quorum;
  asked = good.asked;
  single = good.single;
  runs = good.runs;
  lost = good.lost;
}

module _ (own : Station) (n : ℕ) (copy : ℕ → List (List ℕ)) where
  -- a record of another poll changes nothing
  pub if_own : (m : ℕ) (p changed : Poll) → Good own n copy p → (m ≡ n → Good own n copy changed)
      → Good own n copy (cond (eqb m n) changed p)
  if_own m p changed good same =
      cond_both (eqb m n) changed p (Good own n copy) (λ e. same (eqb-true m n e)) (λ e. good)

  -- the poll is opened
  first_opened : (o : Opening) → Good own n copy (opened_as o blank)
  first_opened o = record {
    unopened = λ e. absurd cc;
    distinct = λ i j d low high. absurd (omega arith);
    quorum = λ x e running over. absurd cc;
    asked = λ x e asked. absurd cc;
    single = refl;
    runs = λ r waits. absurd cc;
    lost = λ x r e waits. absurd cc;
  }

  pub good_opened : (o : Opening) (p : Poll) → Good own n copy p → p.opening ≡ None → Good own n copy (opened_as o p)
  good_opened o p good new = subst (λ q. Good own n copy (opened_as o q)) (sym (good.unopened new)) (first_opened o)

  pub good_voted : (o : Opening) (v : Vote) (p : Poll) → Good own n copy p → p.opening ≡ Some o → p.shut ≡ false
      → ((k : ℕ) (d : Vote) → k < length p.votes → (get_or p.votes k d).voter ≢ v.voter)
      → Good own n copy (voted_by v p)
  good_voted o v p good opened voting new =
      let quiet : p.asked ≡ true → ⊥ = λ a. both_ways p.shut voting (good.asked o opened a).0 in
      record {
        unopened = λ e. absurd cc;
        distinct = all_pairs_push (λ v w. v.voter ≢ w.voter) p.votes v good.distinct new;
        quorum = λ x e running over. absurd cc;
        asked = λ x e asked. absurd (quiet asked);
        single = good.single;
        runs = good.runs;
        lost = λ x r e waits. absurd (quiet (good.runs r waits).1);
      }

  pub good_ended : (o : Opening) (p : Poll) → Good own n copy p → p.opening ≡ Some o → p.shut ≡ false
      → (limits_of own.rules o).quorum ≤ length (inner_of o p) → Good own n copy (ended p)
  good_ended o p good opened voting enough = record {
    unopened = λ e. absurd cc;
    distinct = good.distinct;
    quorum =
        λ x e running over. let same : o ≡ x = cc in
        subst (λ y. (limits_of own.rules y).quorum ≤ length (inner_of y p)) same enough;
    asked = λ x e asked. (refl, (good.asked x e asked).1);
    single = good.single;
    runs = good.runs;
    lost = good.lost;
  }

  -- the poll ends without its quorum
  pub good_given_up : (o : Opening) (p : Poll) → Good own n copy p → p.opening ≡ Some o → p.shut ≡ false
      → Good own n copy (done (ended p))
  good_given_up o p good opened voting =
      let quiet : p.asked ≡ true → ⊥ = λ a. both_ways p.shut voting (good.asked o opened a).0 in
      record {
        unopened = λ e. absurd cc;
        distinct = good.distinct;
        quorum = λ x e running over. absurd cc;
        asked = λ x e asked. absurd (quiet asked);
        single = good.single;
        runs = λ r waits. absurd (quiet (good.runs r waits).1);
        lost = λ x r e waits. absurd (quiet (good.runs r waits).1);
      }

  pub good_done : (o : Opening) (p : Poll) → Good own n copy p → p.opening ≡ Some o → p.request ≡ None
      → Good own n copy (done p)
  good_done o p good opened free = record {
    unopened = λ e. absurd cc;
    distinct = good.distinct;
    quorum = λ x e running over. absurd cc;
    asked = good.asked;
    single = good.single;
    runs = λ r waits. absurd cc;
    lost = λ x r e waits. absurd cc;
  }

  pub good_asking : (o : Opening) (r : Request) (p : Poll) → Good own n copy p → p.opening ≡ Some o
      → p.request ≡ None → p.closed ≡ false → p.shut ≡ true
      → (limits_of own.rules o).quorum ≤ length (inner_of o p)
      → verdict_at (limits_of own.rules o).minority (ballot_of own n o (length (copy o.au))) (inner_of o p)
      (copy o.au) r.block
      ≡ at.Loss
      → Good own n copy (asking r p)
  good_asking o r p good opened free running over enough lost = record {
    unopened = λ e. absurd cc;
    distinct = good.distinct;
    quorum = good.quorum;
    asked =
        λ x e asked. let same : o ≡ x = cc in
        (over, subst (λ y. (limits_of own.rules y).quorum ≤ length (inner_of y p)) same enough);
    single = ap (λ rs. rs ++ r ∷ []) (good.single ∙ ap option_to_list free);
    runs = λ s waits. (running, refl);
    lost = λ x s e waits.
        let same : o ≡ x = cc in
        let request : r ≡ s = cc in
        subst
        (λ y. verdict_at (limits_of own.rules y).minority (ballot_of own n y (length (copy y.au)))
        (inner_of y p) (copy y.au) s.block
        ≡ at.Loss) same
        (subst
        (λ t. verdict_at (limits_of own.rules o).minority (ballot_of own n o (length (copy o.au)))
        (inner_of o p) (copy o.au) t.block
        ≡ at.Loss) request lost);
  }

  pub good_answered : (o : Opening) (p : Poll) → Good own n copy p → p.opening ≡ Some o → Good own n copy (answered p)
  good_answered o p good opened = record {
    unopened = λ e. absurd cc;
    distinct = good.distinct;
    quorum = good.quorum;
    asked = good.asked;
    single = refl;
    runs = λ r waits. absurd cc;
    lost = λ x r e waits. absurd cc;
  }

  -- other contents of AUs for which the poll doesn't wait
  pub good_copies : (other : ℕ → List (List ℕ)) (p : Poll) → Good own n copy p
      → ((o : Opening) (r : Request) → p.opening ≡ Some o → p.request ≡ Some r → other o.au ≡ copy o.au)
      → Good own n other p
  good_copies other p good same = record {
    unopened = good.unopened;
    distinct = good.distinct;
    quorum = good.quorum;
    asked = good.asked;
    single = good.single;
    runs = good.runs;
    lost =
        λ o r e waits. ap
        (λ blocks. verdict_at (limits_of own.rules o).minority (ballot_of own n o (length blocks))
        (inner_of o p) blocks r.block) (same o r e waits)
        ∙ good.lost o r e waits;
  }
