-- The polls that run, as a journal has them, and one record more.
use Rattle.std.proofs.Common.{◌≡◌, ◌∙◌, ap, sym, subst, ℕ, zero, suc, Bool, true, false, cond, eqb, not, List, []}
use Rattle.std.proofs.Common.{◌∷◌, ◌++◌, filter, refl}
use Rattle.std.specs.Prelude.{Option, Some, None, is_some, map, slice_get}
use Rattle.std.specs.List.{list_any, filter_map, cons_option}
use Rattle.std.proofs.lemmas.Bool.{eqb-true, eq-eqb, or_parts}
use Rattle.std.proofs.lemmas.List.{append-nil, append_assoc}
use Rattle.std.proofs.lemmas.List.Elements.{filter_map-append, filter-append}
use Rattle.std.proofs.lemmas.List.Folds.{list_any-append}
use Rattle.lks_base.specs.Checking.{has_member}
use Rattle.lks_base.specs.declared.plans.Rules.{Rules}
use Rattle.lks_base.specs.declared.records.Record.{Record}
use Rattle.lks_base.specs.declared.records.Record.TheVariants.{PollOpened, Nominated, OuterOpened, VoteIn, Shut}
use Rattle.lks_base.specs.declared.records.Record.TheVariants.{Asked, RepairBad, Replaced, Closed}
use Rattle.lks_law.specs.Journal.{Opening, Request, opening_in, opening_of, outer_in, vote_in, shuts, closes}
use Rattle.lks_law.specs.Journal.{unanswered_after, unanswered_request, is_shut, is_closed}
use Rattle.lks_law.specs.Polls.{votes, inner_votes}
use Rattle.lks_law.specs.References.{outer_votes}
use Rattle.lks_law.specs.State.{settled_opening, Nomination, Poll, begun_poll, nominated_by, first_circle, widened_to}
use Rattle.lks_law.specs.State.{voted_by, shut_now, request_sent, request_answered, poll_at, changed_poll}
use Rattle.lks_law.specs.State.{without_poll, polls_after}
use Rattle.lks_law.specs.Written.{is_of, MayFollow}
use Rattle.lks_law.proofs.Grown.{first_opening, opening_more, votes_after, votes_more, shut_more, closed_more}
use Rattle.lks_law.proofs.Grown.{unanswered_more}
use Rattle.lks_tally.specs.declared.ballots.Vote.{Vote}

-- What a journal has of one poll.

abbrev pub nomination_in : ℕ → Record → Option Nomination
nomination_in n (Nominated number voter nominees) =
    cond (eqb number n) (Some (record { voter = voter; nominees = nominees })) None
nomination_in n _ = None

abbrev pub asked_in : ℕ → Record → Option Request
asked_in n (Asked number block voter) = cond (eqb number n) (Some (record { block = block; voter = voter })) None
asked_in n _ = None

abbrev pub circle_in : ℕ → List Record → Option (List ℕ)
circle_in n [] = None
circle_in n (r ∷ rs) = cond (is_some (outer_in n r)) (outer_in n r) (circle_in n rs)

abbrev pub voter_of : Vote → ℕ
voter_of v = v.voter

abbrev pub poll_as : ℕ → Opening → List Record → Poll
poll_as n o js =
    record {
      number = n;
      opening = o;
      nominations = filter_map (nomination_in n) js;
      outer = circle_in n js;
      inner_votes = inner_votes n o.inner js;
      outer_votes = outer_votes n o.inner js;
      voters = map voter_of (votes n js);
      shut = is_shut n js;
      asked = filter_map (asked_in n) js;
      request = unanswered_request n js;
    }

-- Field by field.

abbrev pub pushed : {X : Type 0} → List X → Option X → List X
pushed xs None = xs
pushed xs (Some x) = xs ++ x ∷ []

pushed_is : {X : Type 0} (xs : List X) (o : Option X) → xs ++ cons_option o [] ≡ pushed xs o
pushed_is xs None = append-nil xs
pushed_is xs (Some x) = refl

pub filter_map_more : {X : Type 0} (h : Record → Option X) (js : List Record) (r : Record)
    → filter_map h (js ++ r ∷ []) ≡ pushed (filter_map h js) (h r)
filter_map_more h js r = filter_map-append h js _ ∙ pushed_is _ (h r)

abbrev first_outer : Option (List ℕ) → Option (List ℕ) → Option (List ℕ)
first_outer before None = before
first_outer before (Some outer) = first_circle before outer

circle_more : (n : ℕ) (js : List Record) (r : Record)
    → circle_in n (js ++ r ∷ []) ≡ first_outer (circle_in n js) (outer_in n r)
circle_more n [] r = only (outer_in n r)
  where
    only : (o : Option (List ℕ)) → cond (is_some o) o None ≡ first_outer None o
    only None = refl
    only (Some o) = refl
circle_more n (j ∷ js) r =
    here (outer_in n j) (circle_in n js) (outer_in n r) (circle_in n (js ++ r ∷ [])) (circle_more n js r)
  where
    stays : (o : List ℕ) (later : Option (List ℕ)) → Some o ≡ first_outer (Some o) later
    stays o None = refl
    stays o (Some l) = refl

    here : (o rest later all : Option (List ℕ)) → all ≡ first_outer rest later
        → cond (is_some o) o all ≡ first_outer (cond (is_some o) o rest) later
    here None rest later all e = e
    here (Some o) rest later all e = stays o later

abbrev voted_if : (Vote → Bool) → List Vote → Option Vote → List Vote
voted_if q vs None = vs
voted_if q vs (Some v) = cond (q v) (vs ++ v ∷ []) vs

filter_votes : (q : Vote → Bool) (vs : List Vote) (v : Option Vote)
    → filter q (votes_after vs v) ≡ voted_if q (filter q vs) v
filter_votes q vs None = refl
filter_votes q vs (Some v) = filter-append q vs _ ∙ by_test (q v)
  where
    by_test : (b : Bool) → filter q vs ++ cond b (v ∷ []) [] ≡ cond b (filter q vs ++ v ∷ []) (filter q vs)
    by_test true = refl
    by_test false = append-nil _

abbrev voter_after : List ℕ → Option Vote → List ℕ
voter_after vs None = vs
voter_after vs (Some v) = vs ++ v.voter ∷ []

map_push : (vs : List Vote) (v : Vote) → map voter_of (vs ++ v ∷ []) ≡ map voter_of vs ++ v.voter ∷ []
map_push [] v = refl
map_push (w ∷ vs) v = ap (λ xs. w.voter ∷ xs) (map_push vs v)

voters_push : (vs : List Vote) (v : Option Vote) → map voter_of (votes_after vs v) ≡ voter_after (map voter_of vs) v
voters_push vs None = refl
voters_push vs (Some v) = map_push vs v

abbrev parts_after : Record → Poll → Poll
parts_after r p =
    record {
      number = p.number;
      opening = p.opening;
      nominations = pushed p.nominations (nomination_in p.number r);
      outer = first_outer p.outer (outer_in p.number r);
      inner_votes = voted_if (λ v. has_member p.opening.inner v.voter) p.inner_votes (vote_in p.number r);
      outer_votes = voted_if (λ v. not (has_member p.opening.inner v.voter)) p.outer_votes (vote_in p.number r);
      voters = voter_after p.voters (vote_in p.number r);
      shut = cond (shuts p.number r) true p.shut;
      asked = pushed p.asked (asked_in p.number r);
      request = unanswered_after p.number p.request r;
    }

parts_more : (n : ℕ) (o : Opening) (js : List Record) (r : Record)
    → poll_as n o (js ++ r ∷ []) ≡ parts_after r (poll_as n o js)
unfolding inner_votes outer_votes
parts_more n o js r = λ i. record {
  number = n;
  opening = o;
  nominations = filter_map_more (nomination_in n) js r i;
  outer = circle_more n js r i;
  inner_votes =
      (ap (filter (λ v. has_member o.inner v.voter)) (votes_more n js r)
      ∙ filter_votes (λ v. has_member o.inner v.voter) _ (vote_in n r)) i;
  outer_votes =
      (ap (filter (λ v. not (has_member o.inner v.voter))) (votes_more n js r)
      ∙ filter_votes (λ v. not (has_member o.inner v.voter)) _ (vote_in n r)) i;
  voters = (ap (map voter_of) (votes_more n js r) ∙ voters_push (votes n js) _) i;
  shut = shut_more n js r i;
  asked = filter_map_more (asked_in n) js r i;
  request = unanswered_more n js r i;
}

-- As the state has it.

abbrev entry_after : Record → Poll → Poll
entry_after (Nominated number voter nominees) p = cond (eqb number p.number) (nominated_by voter nominees p) p
entry_after (OuterOpened number outer) p = cond (eqb number p.number) (widened_to outer p) p
entry_after (VoteIn number voter hashes) p =
    cond (eqb number p.number) (voted_by (record { voter = voter; hashes = hashes }) p) p
entry_after (Shut number) p = cond (eqb number p.number) (shut_now p) p
entry_after (Asked number block voter) p =
    cond (eqb number p.number) (request_sent (record { block = block; voter = voter }) p) p
entry_after (RepairBad number block voter) p = cond (eqb number p.number) (request_answered p) p
entry_after (Replaced number au block bytes) p = cond (eqb number p.number) (request_answered p) p
entry_after _ p = p

nomination_by : (p : Poll) (n : Nomination) (b : Bool)
    → record p { nominations = pushed p.nominations (cond b (Some n) None) }
    ≡ cond b (record p { nominations = p.nominations ++ n ∷ [] }) p
nomination_by p n true = refl
nomination_by p n false = refl

outer_by : (p : Poll) (outer : List ℕ) (b : Bool)
    → record p { outer = first_outer p.outer (cond b (Some outer) None) } ≡ cond b (widened_to outer p) p
outer_by p outer true = refl
outer_by p outer false = refl

vote_is : (p : Poll) (v : Vote) (c : Bool)
    → record p {
      inner_votes = cond c (p.inner_votes ++ v ∷ []) p.inner_votes;
      outer_votes = cond (not c) (p.outer_votes ++ v ∷ []) p.outer_votes;
      voters = p.voters ++ v.voter ∷ [];
    }
    ≡ cond c (record p { inner_votes = p.inner_votes ++ v ∷ []; voters = p.voters ++ v.voter ∷ [] })
    (record p { outer_votes = p.outer_votes ++ v ∷ []; voters = p.voters ++ v.voter ∷ [] })
vote_is p v true = refl
vote_is p v false = refl

vote_by : (p : Poll) (v : Vote) (b : Bool)
    → record p {
      inner_votes = voted_if (λ w. has_member p.opening.inner w.voter) p.inner_votes (cond b (Some v) None);
      outer_votes = voted_if (λ w. not (has_member p.opening.inner w.voter)) p.outer_votes (cond b (Some v) None);
      voters = voter_after p.voters (cond b (Some v) None);
    } ≡ cond b (voted_by v p) p
vote_by p v true = vote_is p v _
vote_by p v false = refl

shut_by : (p : Poll) (b : Bool) → record p { shut = cond b true p.shut } ≡ cond b (shut_now p) p
shut_by p true = refl
shut_by p false = refl

asked_by : (p : Poll) (r : Request) (b : Bool)
    → record p { asked = pushed p.asked (cond b (Some r) None); request = cond b (Some r) p.request }
    ≡ cond b (request_sent r p) p
asked_by p r true = refl
asked_by p r false = refl

answered_by : (p : Poll) (b : Bool) → record p { request = cond b None p.request } ≡ cond b (request_answered p) p
answered_by p true = refl
answered_by p false = refl

parts_are : (r : Record) (p : Poll) → parts_after r p ≡ entry_after r p
parts_are (Nominated number voter nominees) p = nomination_by p _ _
parts_are (OuterOpened number outer) p = outer_by p outer _
parts_are (VoteIn number voter hashes) p = vote_by p _ _
parts_are (Shut number) p = shut_by p _
parts_are (Asked number block voter) p = asked_by p _ _
parts_are (RepairBad number block voter) p = answered_by p _
parts_are (Replaced number au block bytes) p = answered_by p _
parts_are r p = refl

entry_more : (n : ℕ) (o : Opening) (js : List Record) (r : Record)
    → poll_as n o (js ++ r ∷ []) ≡ entry_after r (poll_as n o js)
entry_more n o js r = parts_more n o js r ∙ parts_are r _

-- A poll that no record names.

from_right : (P : List Record → Type 0) → P [] → ((js : List Record) (r : Record) → P js → P (js ++ r ∷ []))
    → (js : List Record) → P js
from_right P none more js = go [] js none
  where
    go : (before rest : List Record) → P before → P (before ++ rest)
    go before [] p = subst P (sym (append-nil before)) p
    go before (r ∷ rs) p = subst P (append_assoc before _ rs) (go (before ++ r ∷ []) rs (more before r p))

off : {X : Type 0} (b : Bool) (x y : X) → b ≡ false → cond b x y ≡ y
off b x y e = ap (λ c. cond c x y) e

untouched : (n : ℕ) (r : Record) (p : Poll) → p.number ≡ n → is_of n r ≡ false → entry_after r p ≡ p
untouched n r p is other = by_record r (subst (λ m. is_of m r ≡ false) (sym is) other)
  where
    by_record : (r : Record) → is_of p.number r ≡ false → entry_after r p ≡ p
    by_record (Nominated number voter nominees) e = off _ _ p e
    by_record (OuterOpened number outer) e = off _ _ p e
    by_record (VoteIn number voter hashes) e = off _ _ p e
    by_record (Shut number) e = off _ _ p e
    by_record (Asked number block voter) e = off _ _ p e
    by_record (RepairBad number block voter) e = off _ _ p e
    by_record (Replaced number au block bytes) e = off _ _ p e
    by_record r e = refl

closes_not : (n : ℕ) (r : Record) → is_of n r ≡ false → closes n r ≡ false
closes_not n (Closed number outcome tick) e = e
closes_not n r e = refl

opens_not : (n : ℕ) (r : Record) → is_of n r ≡ false → opening_in n r ≡ None
opens_not n (PollOpened number au nonce inner tick limits kind) e = off _ _ None e
opens_not n r e = refl

any_parts : (n : ℕ) (js : List Record) (r : Record) → list_any (is_of n) (js ++ r ∷ []) ≡ false
    → (list_any (is_of n) js ≡ false) × (is_of n r ≡ false)
any_parts n js r e =
    let parts = or_parts _ _
    (sym (list_any-append _ js _) ∙ e) in
    (parts.0, (or_parts _ false parts.1).0)

pub record Unnamed (n : ℕ) (js : List Record) : Type 0 where
  pub entry : (o : Opening) → poll_as n o js ≡ begun_poll n o
  pub running : is_closed n js ≡ false
  pub unopened : opening_of n js ≡ None

pub unnamed : (n : ℕ) (js : List Record) → list_any (is_of n) js ≡ false → Unnamed n js
unfolding inner_votes outer_votes votes is_shut unanswered_request is_closed opening_of
unnamed n js =
    from_right (λ js. list_any _ js ≡ false → Unnamed n js)
    (λ e. record { entry = λ o. refl; running = refl; unopened = refl }) (λ js r before e.
    let parts = any_parts n js r e in
    let was = before parts.0 in
    record {
      entry = λ o. entry_more n o js r ∙ ap (entry_after r) (was.entry o) ∙ untouched n r _ refl parts.1;
      running = closed_more n js r ∙ off _ true _ (closes_not n r parts.1) ∙ was.running;
      unopened = opening_more n js r ∙ (λ i. first_opening (was.unopened i) (opens_not n r parts.1 i));
    }) js

-- All that run.

abbrev pub running_in : Rules → List Record → Record → Option Poll
running_in rules js (PollOpened n au nonce inner tick limits kind) =
    cond (is_closed n js) None (Some (poll_as n
    (settled_opening rules (record { au = au; nonce = nonce; inner = inner; limits = limits; kind = kind }))
    js))
running_in rules js _ = None

abbrev pub polls_of : Rules → List Record → List Poll
polls_of rules js = filter_map (running_in rules js) js

abbrev kept : Record → Poll → Option Poll
kept r p = cond (closes p.number r) None (Some (entry_after r p))

abbrev kept_from : Record → Option Poll → Option Poll
kept_from r None = None
kept_from r (Some p) = kept r p

one_kept : (rules : Rules) (js : List Record) (r x : Record)
    → running_in rules (js ++ r ∷ []) x ≡ kept_from r (running_in rules js x)
one_kept rules js r (PollOpened n au nonce inner tick limits kind) =
    let o : Opening = settled_opening rules
    (record { au = au; nonce = nonce; inner = inner; limits = limits; kind = kind }) in
    (λ i. cond (closed_more n js r i) None (Some (entry_more n o js r i)))
    ∙ by_tests (closes n r) (is_closed n js) (poll_as n o js) refl
  where
    by_tests : (a c : Bool) (p : Poll) → closes p.number r ≡ a
        → cond (cond a true c) None (Some (entry_after r p)) ≡ kept_from r (cond c None (Some p))
    by_tests true true p e = refl
    by_tests true false p e = sym (ap (λ b. cond b None (Some (entry_after r p))) e)
    by_tests false true p e = refl
    by_tests false false p e = sym (ap (λ b. cond b None (Some (entry_after r p))) e)
one_kept rules js r x = refl

all_kept : (rules : Rules) (js : List Record) (r : Record) (xs : List Record)
    → filter_map (running_in rules (js ++ r ∷ [])) xs ≡ filter_map (kept r) (filter_map (running_in rules js) xs)
all_kept rules js r [] = refl
all_kept rules js r (x ∷ xs) =
    (λ i. cons_option (one_kept rules js r x i) (all_kept rules js r xs i))
    ∙ sym (first (running_in rules js x) (filter_map _ xs))
  where
    first : (o : Option Poll) (ps : List Poll)
        → filter_map (kept r) (cons_option o ps) ≡ cons_option (kept_from r o) (filter_map (kept r) ps)
    first None ps = refl
    first (Some p) ps = refl

mapped : (f : Poll → Poll) (ps : List Poll) → filter_map (λ p. Some (f p)) ps ≡ map f ps
mapped f [] = refl
mapped f (p ∷ ps) = ap (λ qs. f p ∷ qs) (mapped f ps)

-- Numbers of polls that run differ, so the first of a number is the only one.

abbrev pub AreApart : List Poll → Type 0
AreApart [] = Unit {0}
AreApart (p ∷ ps) = (poll_at p.number ps ≡ None) × AreApart ps

pub eqb_swap : (a b : ℕ) → eqb a b ≡ eqb b a
eqb_swap a b = by_test (eqb a b) (eqb b a) refl refl
  where
    by_test : (x y : Bool) → eqb a b ≡ x → eqb b a ≡ y → x ≡ y
    by_test true true e f = refl
    by_test false false e f = refl
    by_test true false e f = sym (eq-eqb b a (sym (eqb-true a b e))) ∙ f
    by_test false true e f = sym e ∙ eq-eqb a b (sym (eqb-true b a f))

not_first : (p : Poll) (n : ℕ) (ps : List Poll) (b : Bool) → cond b (Some p) (poll_at n ps) ≡ None
    → (b ≡ false) × (poll_at n ps ≡ None)
not_first p n ps true e = absurd cc
not_first p n ps false e = (refl, e)

absent : (n : ℕ) (f : Poll → Poll) (ps : List Poll) → poll_at n ps ≡ None
    → map (λ p. cond (eqb n p.number) (f p) p) ps ≡ ps
absent n f [] e = refl
absent n f (p ∷ ps) e =
    let parts = not_first p n ps _ e in
    λ i. off _ (f p) p (eqb_swap n p.number ∙ parts.0) i ∷ absent n f ps parts.1 i

-- each is found by its number
pub found_at : (ps : List Poll) → AreApart ps → (k : ℕ) (p : Poll) → slice_get ps k ≡ Some p
    → poll_at p.number ps ≡ Some p
found_at [] apart k p at = absurd cc
found_at (x ∷ ps) apart zero p at =
    let same : x ≡ p = cc in
    ap (λ (y : Poll). cond (eqb y.number p.number) (Some y) (poll_at p.number ps)) same
    ∙ ap (λ b. cond b (Some p) (poll_at p.number ps)) (eq-eqb p.number p.number refl)
found_at (x ∷ ps) apart (suc k) p at = by_test (eqb x.number p.number) refl (found_at ps apart.1 k p at)
  where
    by_test : (b : Bool) → eqb x.number p.number ≡ b → poll_at p.number ps ≡ Some p
        → cond (eqb x.number p.number) (Some x) (poll_at p.number ps) ≡ Some p
    by_test true e found =
        let gone : None ≡ Some p = sym apart.0 ∙ ap (λ n. poll_at n ps) (eqb-true x.number p.number e) ∙ found in
        absurd cc
    by_test false e found = ap (λ b. cond b (Some x) (poll_at p.number ps)) e ∙ found

only : (n : ℕ) (f : Poll → Poll) (ps : List Poll) → AreApart ps
    → map (λ p. cond (eqb n p.number) (f p) p) ps ≡ changed_poll n f ps
only n f [] apart = refl
only n f (p ∷ ps) apart =
    by_test (eqb n p.number) refl (only n f ps apart.1)
    ∙ ap (λ b. cond b (f p ∷ ps) (p ∷ changed_poll n f ps)) (eqb_swap n p.number)
  where
    by_test : (b : Bool) → eqb n p.number ≡ b → map (λ p. cond (eqb n p.number) (f p) p) ps ≡ changed_poll n f ps
        → cond b (f p) p ∷ map (λ p. cond (eqb n p.number) (f p) p) ps ≡ cond b (f p ∷ ps) (p ∷ changed_poll n f ps)
    by_test true e rest = ap (λ qs. f p ∷ qs) (absent n f ps (ap (λ k. poll_at k ps) (eqb-true n p.number e) ∙ apart.0))
    by_test false e rest = ap (λ qs. p ∷ qs) rest

-- they differ after a record too

absent_changed : (k n : ℕ) (f : Poll → Poll) (ps : List Poll) → ((p : Poll) → (f p).number ≡ p.number)
    → poll_at k ps ≡ None → poll_at k (changed_poll n f ps) ≡ None
absent_changed k n f [] same e = refl
absent_changed k n f (p ∷ ps) same e =
    let parts = not_first p k ps _ e in
    by_test (eqb p.number n) parts.0 parts.1 (absent_changed k n f ps same parts.1)
  where
    by_test : (b : Bool) → eqb p.number k ≡ false → poll_at k ps ≡ None → poll_at k (changed_poll n f ps) ≡ None
        → poll_at k (cond b (f p ∷ ps) (p ∷ changed_poll n f ps)) ≡ None
    by_test true other before after = off _ _ _ (ap (λ m. eqb m k) (same p) ∙ other) ∙ before
    by_test false other before after = off _ _ _ other ∙ after

apart_changed : (n : ℕ) (f : Poll → Poll) (ps : List Poll) → ((p : Poll) → (f p).number ≡ p.number) → AreApart ps
    → AreApart (changed_poll n f ps)
apart_changed n f [] same apart = tt
apart_changed n f (p ∷ ps) same apart = by_test (eqb p.number n) (apart_changed n f ps same apart.1)
  where
    by_test : (b : Bool) → AreApart (changed_poll n f ps) → AreApart (cond b (f p ∷ ps) (p ∷ changed_poll n f ps))
    by_test true rest = (ap (λ k. poll_at k ps) (same p) ∙ apart.0, apart.1)
    by_test false rest = (absent_changed p.number n f ps same apart.0, rest)

all_stay : (n : ℕ) (ps : List Poll) → poll_at n ps ≡ None → filter (λ p. not (eqb n p.number)) ps ≡ ps
all_stay n [] e = refl
all_stay n (p ∷ ps) e =
    let parts = not_first p n ps _ e in
    ap (λ b. cond (not b) (p ∷ filter (λ p. not (eqb n p.number)) ps) (filter (λ p. not (eqb n p.number)) ps))
    (eqb_swap n p.number ∙ parts.0)
    ∙ ap (λ qs. p ∷ qs) (all_stay n ps parts.1)

one_gone : (n : ℕ) (ps : List Poll) → AreApart ps → filter (λ p. not (eqb n p.number)) ps ≡ without_poll n ps
one_gone n [] apart = refl
one_gone n (p ∷ ps) apart =
    by_test (eqb n p.number) refl (one_gone n ps apart.1)
    ∙ ap (λ b. cond b ps (p ∷ without_poll n ps)) (eqb_swap n p.number)
  where
    by_test : (b : Bool) → eqb n p.number ≡ b → filter (λ p. not (eqb n p.number)) ps ≡ without_poll n ps
        → cond (not b) (p ∷ filter (λ p. not (eqb n p.number)) ps) (filter (λ p. not (eqb n p.number)) ps)
        ≡ cond b ps (p ∷ without_poll n ps)
    by_test true e rest = all_stay n ps (ap (λ k. poll_at k ps) (eqb-true n p.number e) ∙ apart.0)
    by_test false e rest = ap (λ qs. p ∷ qs) rest

absent_without : (k n : ℕ) (ps : List Poll) → poll_at k ps ≡ None → poll_at k (without_poll n ps) ≡ None
absent_without k n [] e = refl
absent_without k n (p ∷ ps) e =
    let parts = not_first p k ps _ e in
    by_test (eqb p.number n) parts.0 parts.1 (absent_without k n ps parts.1)
  where
    by_test : (b : Bool) → eqb p.number k ≡ false → poll_at k ps ≡ None → poll_at k (without_poll n ps) ≡ None
        → poll_at k (cond b ps (p ∷ without_poll n ps)) ≡ None
    by_test true other before rest = before
    by_test false other before rest = off _ _ _ other ∙ rest

apart_without : (n : ℕ) (ps : List Poll) → AreApart ps → AreApart (without_poll n ps)
apart_without n [] apart = tt
apart_without n (p ∷ ps) apart = by_test (eqb p.number n) (apart_without n ps apart.1)
  where
    by_test : (b : Bool) → AreApart (without_poll n ps) → AreApart (cond b ps (p ∷ without_poll n ps))
    by_test true rest = apart.1
    by_test false rest = (absent_without p.number n ps apart.0, rest)

absent_push : (k : ℕ) (ps : List Poll) (p : Poll) → poll_at k ps ≡ None → eqb p.number k ≡ false
    → poll_at k (ps ++ p ∷ []) ≡ None
absent_push k [] p e other = off _ _ None other
absent_push k (x ∷ ps) p e other =
    let parts = not_first x k ps _ e in
    off _ _ _ parts.0 ∙ absent_push k ps p parts.1 other

apart_push : (ps : List Poll) (p : Poll) → AreApart ps → poll_at p.number ps ≡ None → AreApart (ps ++ p ∷ [])
apart_push [] p apart new = (refl, tt)
apart_push (x ∷ ps) p apart new =
    let parts = not_first x p.number ps _ new in
    (absent_push x.number ps p apart.0 (eqb_swap p.number x.number ∙ parts.0), apart_push ps p apart.1 parts.1)

same : (ps : List Poll) → filter_map (λ p. Some p) ps ≡ ps
same [] = refl
same (p ∷ ps) = ap (λ qs. p ∷ qs) (same ps)

passed : (q : Poll → Bool) (ps : List Poll) → filter_map (λ p. cond (q p) None (Some p)) ps ≡ filter (λ p. not (q p)) ps
passed q [] = refl
passed q (p ∷ ps) = first (q p) (passed q ps)
  where
    first : (b : Bool) → filter_map (λ p. cond (q p) None (Some p)) ps ≡ filter (λ p. not (q p)) ps
        → cons_option (cond b None (Some p)) (filter_map (λ p. cond (q p) None (Some p)) ps)
        ≡ cond (not b) (p ∷ filter (λ p. not (q p)) ps) (filter (λ p. not (q p)) ps)
    first true e = e
    first false e = ap (λ qs. p ∷ qs) e

new_entry : (rules : Rules) (js : List Record) (n tick : ℕ) (o : Opening) → list_any (is_of n) js ≡ false
    → running_in rules (js ++ PollOpened n o.au o.nonce o.inner tick o.limits o.kind ∷ [])
    (PollOpened n o.au o.nonce o.inner tick o.limits o.kind)
    ≡ Some (begun_poll n (settled_opening rules o))
new_entry rules js n tick o e =
    let was = unnamed n js e in
    let r : Record = PollOpened n o.au o.nonce o.inner tick o.limits o.kind in
    (λ i. cond (closed_more n js r i) None (Some (entry_more n (settled_opening rules o) js r i)))
    ∙ (λ i. cond (was.running i) None (Some (was.entry (settled_opening rules o) i)))

last_is : (rules : Rules) (js : List Record) (r : Record) (ps : List Poll) → MayFollow js r → AreApart ps
    → filter_map (kept r) ps ++ cons_option (running_in rules (js ++ r ∷ []) r) [] ≡ polls_after rules r ps
last_is rules js (PollOpened n au nonce inner tick limits kind) ps e apart =
    let o : Opening = record { au = au; nonce = nonce; inner = inner; limits = limits; kind = kind } in
    λ i. same ps i ++ cons_option (new_entry rules js n tick o e i) []
last_is rules js (Nominated number voter nominees) ps e apart = append-nil _ ∙ mapped _ ps ∙ only number _ ps apart
last_is rules js (OuterOpened number outer) ps e apart = append-nil _ ∙ mapped _ ps ∙ only number _ ps apart
last_is rules js (VoteIn number voter hashes) ps e apart = append-nil _ ∙ mapped _ ps ∙ only number _ ps apart
last_is rules js (Shut number) ps e apart = append-nil _ ∙ mapped _ ps ∙ only number shut_now ps apart
last_is rules js (Asked number block voter) ps e apart = append-nil _ ∙ mapped _ ps ∙ only number _ ps apart
last_is rules js (RepairBad number block voter) ps e apart =
    append-nil _ ∙ mapped _ ps ∙ only number request_answered ps apart
last_is rules js (Replaced number au block bytes) ps e apart =
    append-nil _ ∙ mapped _ ps ∙ only number request_answered ps apart
last_is rules js (Closed number outcome tick) ps e apart = append-nil _ ∙ passed _ ps ∙ one_gone number ps apart
last_is rules js r ps e apart = append-nil _ ∙ same ps

pub polls_more : (rules : Rules) (js : List Record) (r : Record) → MayFollow js r → AreApart (polls_of rules js)
    → polls_of rules (js ++ r ∷ []) ≡ polls_after rules r (polls_of rules js)
polls_more rules js r may apart =
    filter_map-append _ js _
    ∙ ap (λ ps. ps ++ cons_option (running_in rules (js ++ r ∷ []) r) []) (all_kept rules js r js)
    ∙ last_is rules js r _ may apart

-- One of them.

abbrev pub running_by : Rules → ℕ → List Record → Option Opening → Bool → Option Poll
running_by rules n js None over = None
running_by rules n js (Some o) over = cond over None (Some (poll_as n (settled_opening rules o) js))

gone : (rules : Rules) (n : ℕ) (js : List Record) (o : Option Opening) → running_by rules n js o true ≡ None
gone rules n js None = refl
gone rules n js (Some o) = refl

found : (rules : Rules) (n : ℕ) (js : List Record) (m : ℕ) (o : Opening) (older : Option Opening) (ps : List Poll)
    (b : Bool)
    → eqb m n ≡ b → (c : Bool) → is_closed m js ≡ c
    → poll_at n ps ≡ running_by rules n js older (is_closed n js)
    → poll_at n (cons_option (cond c None (Some (poll_as m (settled_opening rules o) js))) ps)
    ≡ running_by rules n js (cond (is_some (cond b (Some o) None)) (cond b (Some o) None) older)
    (is_closed n js)
found rules n js m o older ps true e true c before =
    let over : is_closed n js ≡ true = ap (λ k. is_closed k js) (sym (eqb-true m n e)) ∙ c in
    before ∙ ap (running_by rules n js older) over ∙ gone rules n js older
    ∙ sym (ap (running_by rules n js (Some o)) over)
found rules n js m o older ps true e false c before =
    let runs : is_closed n js ≡ false = ap (λ k. is_closed k js) (sym (eqb-true m n e)) ∙ c in
    ap (λ t. cond t (Some (poll_as m (settled_opening rules o) js)) (poll_at n ps)) e
    ∙ ap (λ k. Some (poll_as k (settled_opening rules o) js)) (eqb-true m n e)
    ∙ sym (ap (running_by rules n js (Some o)) runs)
found rules n js m o older ps false e true c before = before
found rules n js m o older ps false e false c before =
    ap (λ t. cond t (Some (poll_as m (settled_opening rules o) js)) (poll_at n ps)) e ∙ before

found_in : (rules : Rules) (n : ℕ) (js xs : List Record)
    → poll_at n (filter_map (running_in rules js) xs) ≡ running_by rules n js (opening_of n xs) (is_closed n js)
unfolding opening_of
found_in rules n js [] = refl
found_in rules n js (PollOpened m au nonce inner tick limits kind ∷ xs) =
    found rules n js m _ _ _ _ refl _ refl (found_in rules n js xs)
found_in rules n js (x ∷ xs) = found_in rules n js xs

pub poll_found : (rules : Rules) (n : ℕ) (js : List Record)
    → poll_at n (polls_of rules js) ≡ running_by rules n js (opening_of n js) (is_closed n js)
poll_found rules n js = found_in rules n js js

voted_number : (v : Vote) (p : Poll) → (voted_by v p).number ≡ p.number
voted_number v p = by_test (has_member p.opening.inner v.voter)
  where
    by_test : (c : Bool)
        → (cond c (record p { inner_votes = p.inner_votes ++ v ∷ []; voters = p.voters ++ v.voter ∷ [] })
        (record p { outer_votes = p.outer_votes ++ v ∷ []; voters = p.voters ++ v.voter ∷ [] })).number
        ≡ p.number
    by_test true = refl
    by_test false = refl

pub apart_after : (rules : Rules) (js : List Record) (r : Record) → MayFollow js r → AreApart (polls_of rules js)
    → AreApart (polls_after rules r (polls_of rules js))
apart_after rules js (PollOpened n au nonce inner tick limits kind) e apart =
    apart_push _ _
    apart (poll_found rules n js ∙ ap (λ o. running_by rules n js o (is_closed n js)) (unnamed n js e).unopened)
apart_after rules js (Nominated number voter nominees) e apart = apart_changed number _ _ (λ p. refl) apart
apart_after rules js (OuterOpened number outer) e apart = apart_changed number _ _ (λ p. refl) apart
apart_after rules js (VoteIn number voter hashes) e apart = apart_changed number _ _ (voted_number _) apart
apart_after rules js (Shut number) e apart = apart_changed number shut_now _ (λ p. refl) apart
apart_after rules js (Asked number block voter) e apart = apart_changed number _ _ (λ p. refl) apart
apart_after rules js (RepairBad number block voter) e apart =
    apart_changed number request_answered _ (λ p. refl) apart
apart_after rules js (Replaced number au block bytes) e apart =
    apart_changed number request_answered _ (λ p. refl) apart
apart_after rules js (Closed number outcome tick) e apart = apart_without number _ apart
apart_after rules js r e apart = apart
