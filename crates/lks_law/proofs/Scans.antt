-- What rows over a journal scan is what the state has.
use Rattle.std.proofs.Common.{◌≡◌, ◌≤◌, ◌-◌, ◌+◌, ◌∙◌, ap, sym, ℕ, Bool, true, false, cond, eqb, ltb, not, List, []}
use Rattle.std.proofs.Common.{◌∷◌, length, refl, arith}
use Rattle.std.specs.Prelude.{Option, Some, None, is_some, unwrap_or, map, ◌&&◌, ◌||◌, count_by}
use Rattle.std.specs.List.{list_any, filter_map, cons_option}
use Rattle.std.proofs.lemmas.Bool.{ltb-true, ltb-false, lt-ltb}
use Rattle.std.proofs.lemmas.List.Sums.{sum_by-cons}
use Rattle.lks_base.specs.Checking.{has_member}
use Rattle.lks_base.specs.declared.plans.Rules.{Rules}
use Rattle.lks_base.specs.declared.records.Record.{Record}
use Rattle.lks_base.specs.declared.records.Record.TheVariants.{PollOpened, Nominated, OuterOpened, VoteIn, Asked}
use Rattle.lks_law.specs.Journal.{Request, later, is_closed, opens_running, opens_open, opens_lately, outer_in}
use Rattle.lks_law.specs.Journal.{widens, is_widened, outer_of, nominees_in, nominations, is_nominated_by}
use Rattle.lks_law.specs.Journal.{has_nominated, vote_in, is_vote_of, has_voted, asks, was_asked}
use Rattle.lks_law.specs.Polls.{votes}
use Rattle.lks_law.specs.Reacting.{is_recent}
use Rattle.lks_law.specs.State.{Nomination, Poll}
use Rattle.lks_law.proofs.HeldCopies.{opened_after, opened_from}
use Rattle.lks_law.proofs.RunningPolls.{nomination_in, asked_in, circle_in, voter_of, poll_as, running_in, polls_of}
use Rattle.lks_tally.specs.declared.ballots.Vote.{Vote}

abbrev test_of : {X : Type 0} → (X → Bool) → Option X → Bool
test_of q None = false
test_of q (Some x) = q x

any_in : {X : Type 0} (h : Record → Option X) (q : X → Bool) (test : Record → Bool)
    → ((r : Record) → test_of q (h r) ≡ test r)
    → (js : List Record) → list_any q (filter_map h js) ≡ list_any test js
any_in h q test same [] = refl
any_in {X = X} h q test same (r ∷ rs) = first (h r) (filter_map h rs) ∙ (λ i. same r i || any_in h q test same rs i)
  where
    first : (o : Option X) (xs : List X) → list_any q (cons_option o xs) ≡ (test_of q o || list_any q xs)
    first None xs = refl
    first (Some x) xs = refl

if_number : {X : Type 0} (q : X → Bool) (b : Bool) (x : X) → test_of q (cond b (Some x) None) ≡ (b && q x)
if_number q true x = refl
if_number q false x = refl

-- Of one poll.

pub voted_is : (n v : ℕ) (js : List Record) → has_member (map voter_of (votes n js)) v ≡ has_voted n v js
unfolding has_member votes has_voted
voted_is n v js = mapped (filter_map _ js) ∙ any_in _ _ _ by_record js
  where
    mapped : (vs : List Vote) → list_any (λ i. eqb i v) (map voter_of vs) ≡ list_any (λ (w : Vote). eqb w.voter v) vs
    mapped [] = refl
    mapped (w ∷ vs) = ap (λ b. eqb w.voter v || b) (mapped vs)

    by_record : (r : Record) → test_of (λ (w : Vote). eqb w.voter v) (vote_in n r) ≡ is_vote_of n v r
    by_record (VoteIn number voter hashes) = if_number (λ (w : Vote). eqb w.voter v) _ _
    by_record r = refl

pub nominated_is : (n v : ℕ) (js : List Record)
    → list_any (λ (x : Nomination). eqb x.voter v) (filter_map (nomination_in n) js) ≡ has_nominated n v js
unfolding has_nominated
nominated_is n v js = any_in _ _ _ by_record js
  where
    by_record : (r : Record) → test_of (λ (x : Nomination). eqb x.voter v) (nomination_in n r) ≡ is_nominated_by n v r
    by_record (Nominated number voter nominees) = if_number (λ (x : Nomination). eqb x.voter v) _ _
    by_record r = refl

pub asked_is : (n b v : ℕ) (js : List Record)
    → list_any (λ (x : Request). eqb x.block b && eqb x.voter v) (filter_map (asked_in n) js) ≡ was_asked n b v js
unfolding was_asked
asked_is n b v js = any_in _ _ _ by_record js
  where
    by_record : (r : Record) → test_of (λ (x : Request). eqb x.block b && eqb x.voter v) (asked_in n r) ≡ asks n b v r
    by_record (Asked number block voter) = if_number (λ (x : Request). eqb x.block b && eqb x.voter v) _ _
    by_record r = refl

abbrev names : Option Nomination → Option (List ℕ)
names None = None
names (Some x) = Some x.nominees

pub nominees_are : (n : ℕ) (js : List Record)
    → map (λ (x : Nomination). x.nominees) (filter_map (nomination_in n) js) ≡ nominations n js
unfolding nominations
nominees_are n [] = refl
nominees_are n (r ∷ rs) =
    first (nomination_in n r) (filter_map _ rs)
    ∙ (λ i. cons_option (by_record r i) (nominees_are n rs i))
  where
    first : (o : Option Nomination) (xs : List Nomination)
        → map (λ (x : Nomination). x.nominees) (cons_option o xs)
        ≡ cons_option (names o) (map (λ (x : Nomination). x.nominees) xs)
    first None xs = refl
    first (Some x) xs = refl

    by_number : (b : Bool) (voter : ℕ) (nominees : List ℕ)
        → names (cond b (Some (record { voter = voter; nominees = nominees })) None) ≡ cond b (Some nominees) None
    by_number true voter nominees = refl
    by_number false voter nominees = refl

    by_record : (r : Record) → names (nomination_in n r) ≡ nominees_in n r
    by_record (Nominated number voter nominees) = by_number (eqb number n) voter nominees
    by_record r = refl

pub widened_is : (n : ℕ) (js : List Record) → is_some (circle_in n js) ≡ is_widened n js
unfolding is_widened
widened_is n [] = refl
widened_is n (r ∷ rs) = first (outer_in n r) (circle_in n rs) ∙ (λ i. by_record r i || widened_is n rs i)
  where
    first : (o rest : Option (List ℕ)) → is_some (cond (is_some o) o rest) ≡ (is_some o || is_some rest)
    first None rest = refl
    first (Some o) rest = refl

    by_number : (b : Bool) (outer : List ℕ) → is_some (cond b (Some outer) None) ≡ b
    by_number true outer = refl
    by_number false outer = refl

    by_record : (r : Record) → is_some (outer_in n r) ≡ widens n r
    by_record (OuterOpened number outer) = by_number (eqb number n) outer
    by_record r = refl

pub outer_is : (n : ℕ) (js : List Record) → unwrap_or (circle_in n js) [] ≡ outer_of n js
unfolding outer_of
outer_is n [] = refl
outer_is n (r ∷ rs) =
    first (outer_in n r) (circle_in n rs)
    ∙ ap (cond (is_some _) (unwrap_or (outer_in n r) [])) (outer_is n rs)
  where
    first : (o rest : Option (List ℕ))
        → unwrap_or (cond (is_some o) o rest) [] ≡ cond (is_some o) (unwrap_or o []) (unwrap_or rest [])
    first None rest = refl
    first (Some o) rest = refl

-- Of all polls.

pub running_is : (rules : Rules) (au : ℕ) (js : List Record)
    → list_any (λ (p : Poll). eqb p.opening.au au) (polls_of rules js) ≡ list_any (opens_running au js) js
unfolding opens_running
running_is rules au js = any_in _ _ _ by_record js
  where
    by_tests : (c b : Bool) (p : Poll) → eqb p.opening.au au ≡ b
        → test_of (λ (p : Poll). eqb p.opening.au au) (cond c None (Some p)) ≡ (b && not c)
    by_tests true true p e = refl
    by_tests true false p e = refl
    by_tests false true p e = e
    by_tests false false p e = e

    by_record : (r : Record)
        → test_of (λ (p : Poll). eqb p.opening.au au) (running_in rules js r) ≡ opens_running au js r
    by_record (PollOpened n a nonce inner tick limits kind) =
        by_tests (is_closed n js) (eqb a au) (poll_as n _ js) refl
    by_record r = refl

counted_in : (h : Record → Option Poll) (test : Record → Bool) → ((r : Record) → is_some (h r) ≡ test r)
    → (js : List Record) → length (filter_map h js) ≡ count_by test js
counted_in h test same [] = refl
counted_in h test same (r ∷ rs) =
    first (h r) (filter_map h rs) (count_by test rs) (counted_in h test same rs)
    ∙ ap (λ b. cond b 1 0 + count_by test rs) (same r) ∙ sym (sum_by-cons _ r rs)
  where
    first : (o : Option Poll) (ps : List Poll) (k : ℕ) → length ps ≡ k
        → length (cons_option o ps) ≡ cond (is_some o) 1 0 + k
    first None ps k e = omega (arith, e)
    first (Some p) ps k e = omega (arith, e)

pub count_is : (rules : Rules) (js : List Record) → length (polls_of rules js) ≡ count_by (opens_open js) js
unfolding opens_open
count_is rules js = counted_in _ _ by_record js
  where
    by_test : (c : Bool) (p : Poll) → is_some (cond c None (Some p)) ≡ not c
    by_test true p = refl
    by_test false p = refl

    by_record : (r : Record) → is_some (running_in rules js r) ≡ opens_open js r
    by_record (PollOpened n a nonce inner tick limits kind) = by_test (is_closed n js) (poll_as n _ js)
    by_record r = refl

-- The last opening.

sooner : (x y pace : ℕ) → x ≤ y → ltb x pace ≡ (ltb y pace || ltb x pace)
sooner x y pace le = by_test (ltb y pace) refl
  where
    by_test : (b : Bool) → ltb y pace ≡ b → ltb x pace ≡ (b || ltb x pace)
    by_test true e = let low = ltb-true y pace e in lt-ltb x pace (omega (arith, low, le))
    by_test false e = refl

or_swap : (a b : Bool) → (a || b) ≡ (b || a)
or_swap true true = refl
or_swap true false = refl
or_swap false true = refl
or_swap false false = refl

later_is : (before : Option ℕ) (t tick pace : ℕ)
    → is_recent (later before t) tick pace ≡ (is_recent before tick pace || ltb (tick - t) pace)
later_is None t tick pace = refl
later_is (Some b) t tick pace = by_test (ltb b t) refl
  where
    by_test : (c : Bool) → ltb b t ≡ c → ltb (tick - cond c t b) pace ≡ (ltb (tick - b) pace || ltb (tick - t) pace)
    by_test true e = let low = ltb-true b t e in sooner _ _ pace (omega (arith, low))
    by_test false e =
        let high = ltb-false b t e in
        sooner _ _ pace (omega (arith, high))
        ∙ or_swap (ltb (tick - t) pace) _

or_false : (a : Bool) → a ≡ (a || false)
or_false true = refl
or_false false = refl

or_assoc : (a b c : Bool) → ((a || b) || c) ≡ (a || (b || c))
or_assoc true b c = refl
or_assoc false b c = refl

pub recent_is : (au tick pace : ℕ) (before : Option ℕ) (js : List Record)
    → is_recent (opened_from au before js) tick pace
    ≡ (is_recent before tick pace || list_any (opens_lately au tick pace) js)
unfolding opens_lately
recent_is au tick pace before [] = or_false _
recent_is au tick pace before (r ∷ rs) =
    recent_is au tick pace (opened_after au before r) rs
    ∙ ap (λ b. b || list_any (opens_lately au tick pace) rs) (by_record r)
    ∙ or_assoc _ (opens_lately au tick pace r) _
  where
    by_number : (b : Bool) (t : ℕ)
        → is_recent (cond b (later before t) before) tick pace
        ≡ (is_recent before tick pace || (b && ltb (tick - t) pace))
    by_number true t = later_is before t tick pace
    by_number false t = or_false _

    by_record : (r : Record)
        → is_recent (opened_after au before r) tick pace
        ≡ (is_recent before tick pace || opens_lately au tick pace r)
    by_record (PollOpened number a nonce inner t limits kind) = by_number (eqb a au) t
    by_record r = or_false _
