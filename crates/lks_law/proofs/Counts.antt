-- How many sessions are open, which of them wait for their vote, and the marks of peers: over a journal and one record
-- more.
use Rattle.std.proofs.Common.{◌≡◌, ◌+◌, ◌∙◌, ap, sym, ℕ, Bool, true, false, cond, eqb, List, [], ◌∷◌, ◌++◌, refl, arith}
use Rattle.std.specs.Prelude.{Option, Some, None, is_some, unwrap_or, option_and_then, filter, find, not, ◌&&◌, ◌||◌}
use Rattle.std.specs.Prelude.{count_by}
use Rattle.std.specs.List.{filter_map, cons_option}
use Rattle.std.proofs.lemmas.Bool.{eqb-true}
use Rattle.std.proofs.lemmas.List.Sums.{sum_by-cons, sum_by_push}
use Rattle.lks_base.specs.declared.names.PollName.{PollName}
use Rattle.lks_base.specs.declared.records.Record.{Record}
use Rattle.lks_law.specs.Journal.{Told, said_by}
use Rattle.lks_law.specs.Sessions.{Turn, Part, is_poll, part_of, join_by, commitment_by, hashes_by, of_poll, ends}
use Rattle.lks_law.specs.Sessions.{first_in, join_of, commitment_of, is_ended, joined_part, joined_in, joined_polls}
use Rattle.lks_law.specs.Sessions.{committed_part, committed_in, committed_polls, is_vote_by, votes_received}
use Rattle.lks_law.specs.Sessions.{is_vote_for, votes_given, low_part, low_from, last_low}
use Rattle.lks_law.specs.Taking.{Mark, mark_at, mark_put, marked_given, marks_told, marks_turned, marks_by}
use Rattle.lks_law.proofs.Grown.{any_more}
use Rattle.lks_law.proofs.Keyed.{Apart, at, same_poll, is_swapped}
use Rattle.lks_law.proofs.RunningPolls.{pushed, filter_map_more}
use Rattle.lks_tally.specs.declared.ballots.Vote.{Vote}

abbrev pub itself : PollName → PollName
itself q = q

-- whether a name stands in a list
abbrev pub stands_in : PollName → List PollName → Bool
stands_in q names = is_some (at itself q names)

-- the part of which a record says something, if it does
abbrev named_if : {X : Type 0} → (Turn → Option X) → Option Part → Option PollName
named_if says None = None
named_if says (Some p) = cond (is_some (says p.turn)) (Some p.poll) None

-- a name stands in the list of the parts of which records say something exactly if they say it of its part
named_is : {X : Type 0} (says : Turn → Option X) (q : PollName) (js : List Record)
    → stands_in q (filter_map (λ r. named_if says (part_of r)) js)
    ≡ is_some (first_in (λ r. of_poll q says (part_of r)) js)
named_is says q [] = refl
named_is {X = X} says q (r ∷ rs) =
    first_name (named_if says _) (filter_map _ rs)
    ∙ (λ i. by_part (part_of r) i || named_is says q rs i)
    ∙ sym (first_has (of_poll q says _) (first_in (λ r. of_poll q says _) rs))
  where
    first_name : (o : Option PollName) (names : List PollName)
        → stands_in q (cons_option o names) ≡ (is_some (at itself q (cons_option o [])) || stands_in q names)
    first_name None names = refl
    first_name (Some n) names = by_test (is_poll n q)
      where
        by_test : (b : Bool)
            → is_some (cond b (Some n) (at itself q names))
            ≡ (is_some (cond {A = Option PollName} b (Some n) None) || stands_in q names)
        by_test true = refl
        by_test false = refl

    first_has : (o rest : Option X) → is_some (cond (is_some o) o rest) ≡ (is_some o || is_some rest)
    first_has None rest = refl
    first_has (Some x) rest = refl

    by_part : (o : Option Part) → is_some (at itself q (cons_option (named_if says o) [])) ≡ is_some (of_poll q says o)
    by_part None = refl
    by_part (Some p) = by_says (says p.turn)
      where
        by_says : (o : Option X)
            → is_some (at itself q (cons_option (cond (is_some o) (Some p.poll) None) []))
            ≡ is_some (option_and_then (λ x. cond (is_poll p.poll q) (Some x) None) o)
        by_says None = refl
        by_says (Some x) = by_test (is_poll p.poll q)
          where
            by_test : (b : Bool)
                → is_some (cond {A = Option PollName} b (Some p.poll) None) ≡ is_some (cond b (Some x) None)
            by_test true = refl
            by_test false = refl

joined_is_named : (o : Option Part) → joined_part o ≡ named_if join_by o
joined_is_named None = refl
joined_is_named (Some p) = refl

committed_is_named : (o : Option Part) → committed_part o ≡ named_if commitment_by o
committed_is_named None = refl
committed_is_named (Some p) = refl

pub joined_stands : (q : PollName) (js : List Record) → stands_in q (joined_polls js) ≡ is_some (join_of q js)
unfolding joined_polls join_of
joined_stands q js = (λ i. stands_in q (filter_map (λ r. joined_is_named (part_of r) i) js)) ∙ named_is join_by q js

pub committed_stands : (q : PollName) (js : List Record)
    → stands_in q (committed_polls js) ≡ is_some (commitment_of q js)
unfolding committed_polls commitment_of
committed_stands q js =
    (λ i. stands_in q (filter_map (λ r. committed_is_named (part_of r) i) js)) ∙ named_is commitment_by q js

pub ended_more : (q : PollName) (js : List Record) (r : Record)
    → is_ended q (js ++ r ∷ []) ≡ cond (ends q r) true (is_ended q js)
unfolding is_ended
ended_more q js r = any_more _ js r

pub joined_more : (js : List Record) (r : Record) → joined_polls (js ++ r ∷ []) ≡ pushed (joined_polls js) (joined_in r)
unfolding joined_polls
joined_more js r = filter_map_more joined_in js r

pub committed_more : (js : List Record) (r : Record)
    → committed_polls (js ++ r ∷ []) ≡ pushed (committed_polls js) (committed_in r)
unfolding committed_polls
committed_more js r = filter_map_more committed_in js r

-- Counting names.

count_cons : (f : PollName → Bool) (n : PollName) (names : List PollName)
    → count_by f (n ∷ names) ≡ cond (f n) 1 0 + count_by f names
count_cons f n names = sum_by-cons _ n names

pub count_push : (f : PollName → Bool) (names : List PollName) (n : PollName)
    → count_by f (names ++ n ∷ []) ≡ count_by f names + cond (f n) 1 0
count_push f names n = sum_by_push _ names n

-- but for one name the tests agree, and it isn't there
count_without : (f g : PollName → Bool) (n : PollName) (names : List PollName)
    → ((q : PollName) → is_poll n q ≡ false → g q ≡ f q) → at itself n names ≡ None
    → count_by g names ≡ count_by f names
count_without f g n [] same none = refl
count_without f g n (x ∷ names) same none = here (is_poll x n) refl none (count_without f g n names same)
  where
    here : (b : Bool) → is_poll x n ≡ b → cond b (Some x) (at itself n names) ≡ None
        → (at itself n names ≡ None → count_by g names ≡ count_by f names)
        → count_by g (x ∷ names) ≡ count_by f (x ∷ names)
    here true is none rest = absurd cc
    here false is none rest =
        count_cons g x names ∙ (λ i. cond (same x (is_swapped n x ∙ is) i) 1 0 + rest none i)
        ∙ sym (count_cons f x names)

-- it is there once, passed one and doesn't pass the other
pub count_gone : (f g : PollName → Bool) (n : PollName) (names : List PollName)
    → ((q : PollName) → is_poll n q ≡ false → g q ≡ f q) → Apart itself names → stands_in n names ≡ true
    → f n ≡ true → g n ≡ false
    → count_by f names ≡ count_by g names + 1
count_gone f g n [] same apart there passed gone = absurd cc
count_gone f g n (x ∷ names) same apart there passed gone =
    here (is_poll x n) refl there (λ there. count_gone f g n names same apart.1 there passed gone)
  where
    here : (b : Bool) → is_poll x n ≡ b → is_some (cond b (Some x) (at itself n names)) ≡ true
        → (stands_in n names ≡ true → count_by f names ≡ count_by g names + 1)
        → count_by f (x ∷ names) ≡ count_by g (x ∷ names) + 1
    here true is there rest =
        let named : x ≡ n = same_poll x n is in
        let others = count_without f g n names same (ap (λ m. at itself m names) (sym named) ∙ apart.0) in
        let one : count_by f (x ∷ names)
        ≡ 1 + count_by f names = count_cons f x names
        ∙ ap (λ b. cond b 1 0 + count_by f names) (ap f named ∙ passed) in
        let none : count_by g (x ∷ names)
        ≡ 0 + count_by g names = count_cons g x names
        ∙ ap (λ b. cond b 1 0 + count_by g names) (ap g named ∙ gone) in
        omega (arith, others, one, none)
    here false is there rest =
        let more = rest there in
        let left = count_cons f x names in
        let right : count_by g (x ∷ names)
        ≡ cond (f x) 1 0 + count_by g names = count_cons g x names
        ∙ ap (λ b. cond b 1 0 + count_by g names) (same x (is_swapped n x ∙ is)) in
        omega (arith, more, left, right)

-- Passing names on.

pub filter_same : (f g : PollName → Bool) (n : PollName) (names : List PollName)
    → ((q : PollName) → is_poll n q ≡ false → g q ≡ f q) → at itself n names ≡ None
    → filter g names ≡ filter f names
filter_same f g n [] same none = refl
filter_same f g n (x ∷ names) same none = here (is_poll x n) refl none (filter_same f g n names same)
  where
    here : (b : Bool) → is_poll x n ≡ b → cond b (Some x) (at itself n names) ≡ None
        → (at itself n names ≡ None → filter g names ≡ filter f names)
        → cond (g x) (x ∷ filter g names) (filter g names) ≡ cond (f x) (x ∷ filter f names) (filter f names)
    here true is none rest = absurd cc
    here false is none rest = λ i. cond (same x (is_swapped n x ∙ is) i) (x ∷ rest none i) (rest none i)

pub filter_left : (f g : PollName → Bool) (n : PollName) (names : List PollName)
    → ((q : PollName) → g q ≡ (f q && not (is_poll q n)))
    → filter g names ≡ filter (λ q. not (is_poll q n)) (filter f names)
filter_left f g n [] both = refl
filter_left f g n (x ∷ names) both =
    ap (λ b. cond b (x ∷ filter g names) (filter g names)) (both x) ∙ here (f x) (filter_left f g n names both)
  where
    here : (b : Bool) → filter g names ≡ filter (λ q. not (is_poll q n)) (filter f names)
        → cond (b && not (is_poll x n)) (x ∷ filter g names) (filter g names)
        ≡ filter (λ q. not (is_poll q n)) (cond b (x ∷ filter f names) (filter f names))
    here true rest = ap (λ qs. cond (not (is_poll x n)) (x ∷ qs) qs) rest
    here false rest = rest

-- Marks.

marks_found : (f : ℕ) (m : Mark) (ms : List Mark) → mark_at f (mark_put m ms) ≡ cond (eqb m.peer f) m (mark_at f ms)
marks_found f m [] = by_test (eqb m.peer f)
  where
    by_test : (b : Bool)
        → unwrap_or (cond b (Some m) None) (record { peer = f; received = 0; given = 0 })
        ≡ cond b m (record { peer = f; received = 0; given = 0 })
    by_test true = refl
    by_test false = refl
marks_found f m (x ∷ ms) = by_tests (eqb x.peer m.peer) refl (eqb m.peer f) refl (marks_found f m ms)
  where
    by_tests : (b : Bool) → eqb x.peer m.peer ≡ b → (c : Bool) → eqb m.peer f ≡ c
        → mark_at f (mark_put m ms) ≡ cond c m (mark_at f ms)
        → mark_at f (cond b (m ∷ ms) (x ∷ mark_put m ms)) ≡ cond c m (mark_at f (x ∷ ms))
    by_tests true same true mine rest =
        ap
        (λ t. unwrap_or (cond t (Some m) (find (λ (m : Mark). eqb m.peer f) ms))
        (record { peer = f; received = 0; given = 0 })) mine
    by_tests true same false mine rest =
        ap
        (λ t. unwrap_or (cond t (Some m) (find (λ (m : Mark). eqb m.peer f) ms))
        (record { peer = f; received = 0; given = 0 })) mine
        ∙ sym
        (ap
        (λ t. unwrap_or (cond t (Some x) (find (λ (m : Mark). eqb m.peer f) ms))
        (record { peer = f; received = 0; given = 0 }))
        (ap (λ p. eqb p f) (eqb-true x.peer m.peer same) ∙ mine))
    by_tests false same true mine rest =
        ap
        (λ t. unwrap_or (cond t (Some x) (find (λ (m : Mark). eqb m.peer f) (mark_put m ms)))
        (record { peer = f; received = 0; given = 0 })) (not_mine mine same)
        ∙ rest
      where
        not_mine : eqb m.peer f ≡ true → eqb x.peer m.peer ≡ false → eqb x.peer f ≡ false
        not_mine mine same = ap (eqb x.peer) (sym (eqb-true m.peer f mine)) ∙ same
    by_tests false same false mine rest = by_test (eqb x.peer f) rest
      where
        by_test : (b : Bool) → mark_at f (mark_put m ms) ≡ mark_at f ms
            → unwrap_or (cond b (Some x) (find (λ (m : Mark). eqb m.peer f) (mark_put m ms)))
            (record { peer = f; received = 0; given = 0 })
            ≡ unwrap_or (cond b (Some x) (find (λ (m : Mark). eqb m.peer f) ms))
            (record { peer = f; received = 0; given = 0 })
        by_test true rest = refl
        by_test false rest = rest

abbrev pub mark_of : ℕ → List Record → Mark
mark_of f js = record { peer = f; received = votes_received f js; given = votes_given f js }

received_more : (f : ℕ) (js : List Record) (r : Record)
    → votes_received f (js ++ r ∷ []) ≡ votes_received f js + cond (is_vote_by f (said_by r).voted) 1 0
unfolding votes_received
received_more f js r = sum_by_push _ js r

given_more : (f : ℕ) (js : List Record) (r : Record)
    → votes_given f (js ++ r ∷ []) ≡ votes_given f js + cond (is_vote_for f (part_of r)) 1 0
unfolding votes_given
given_more f js r = sum_by_push _ js r

module _ (js : List Record) (ms : List Mark) (are : (f : ℕ) → mark_at f ms ≡ mark_of f js) where
  told_are : (o : Option (Told Vote)) (f : ℕ)
      → mark_at f (marks_told o ms)
      ≡ record { peer = f; received = votes_received f js + cond (is_vote_by f o) 1 0; given = votes_given f js }
  told_are None f =
      are f
      ∙ (let more : votes_received f js ≡ votes_received f js + 0 = omega arith in
      λ i. record { peer = f; received = more i; given = votes_given f js })
  told_are (Some told) f =
      marks_found f (record (mark_at told.fact.voter ms) { received = (mark_at told.fact.voter ms).received + 1 }) ms
      ∙ (λ i. cond (eqb (are told.fact.voter i).peer f)
      (record (are told.fact.voter i) { received = (are told.fact.voter i).received + 1 }) (are f i))
      ∙ by_test (eqb told.fact.voter f) refl
    where
      by_test : (b : Bool) → eqb told.fact.voter f ≡ b
          → cond b
          (record {
            peer = told.fact.voter;
            received = votes_received told.fact.voter js + 1;
            given = votes_given told.fact.voter js;
          }) (mark_of f js)
          ≡ record { peer = f; received = votes_received f js + cond b 1 0; given = votes_given f js }
      by_test true same =
          ap (λ k. record { peer = k; received = votes_received k js + 1; given = votes_given k js })
          (eqb-true told.fact.voter f same)
      by_test false same =
          let more : votes_received f js ≡ votes_received f js + 0 = omega arith in
          λ i. record { peer = f; received = more i; given = votes_given f js }

  given_to : (ns : List Mark) (k : ℕ → ℕ)
      → ((f : ℕ) → mark_at f ns ≡ record { peer = f; received = k f; given = votes_given f js }) → (g f : ℕ)
      → mark_at f (marked_given g ns)
      ≡ record { peer = f; received = k f; given = votes_given f js + cond (eqb g f) 1 0 }
  given_to ns k has g f =
      marks_found f _ ns
      ∙ (λ i. cond (eqb (has g i).peer f) (record (has g i) { given = (has g i).given + 1 }) (has f i))
      ∙ by_test (eqb g f) refl
    where
      by_test : (b : Bool) → eqb g f ≡ b
          → ◌≡◌ {A = Mark}
          (cond b (record { peer = g; received = k g; given = votes_given g js + 1 })
          (record { peer = f; received = k f; given = votes_given f js }))
          (record { peer = f; received = k f; given = votes_given f js + cond b 1 0 })
      by_test true same =
          ap (λ h. record { peer = h; received = k h; given = votes_given h js + 1 }) (eqb-true g f same)
      by_test false same =
          let more : votes_given f js ≡ votes_given f js + 0 = omega arith in
          λ i. record { peer = f; received = k f; given = more i }

  none_given : (ns : List Mark) (k : ℕ → ℕ)
      → ((f : ℕ) → mark_at f ns ≡ record { peer = f; received = k f; given = votes_given f js }) → (b : Bool)
      → b ≡ false → (f : ℕ)
      → mark_at f ns ≡ record { peer = f; received = k f; given = votes_given f js + cond b 1 0 }
  none_given ns k has b e f =
      has f
      ∙ (let more : votes_given f js
      ≡ votes_given f js
      + cond b 1 0 = (let none : ◌≡◌ {A = ℕ} _ 0 = ap (λ b. cond b 1 0) e in omega (arith, none))
      in λ i. record { peer = f; received = k f; given = more i })

  and_false : (b : Bool) → (b && false) ≡ false
  and_false true = refl
  and_false false = refl

  and_true : (b : Bool) → (b && true) ≡ b
  and_true true = refl
  and_true false = refl

  marks_by_part : (ns : List Mark) (k : ℕ → ℕ)
      → ((f : ℕ) → mark_at f ns ≡ record { peer = f; received = k f; given = votes_given f js })
      → (o : Option Part) (f : ℕ)
      → mark_at f (marks_by o ns)
      ≡ record { peer = f; received = k f; given = votes_given f js + cond (is_vote_for f o) 1 0 }
  marks_by_part ns k has None f = none_given ns k has false refl f
  marks_by_part ns k has (Some p) f = by_turn p.turn
    where
      by_turn : (t : Turn)
          → mark_at f (marks_turned p.poll t ns)
          ≡ record {
            peer = f;
            received = k f;
            given = votes_given f js + cond (eqb p.poll.poller f && is_some (hashes_by t)) 1 0;
          }
      by_turn (Turn.Joins j) = none_given ns k has _ (and_false _) f
      by_turn (Turn.Commits c) = none_given ns k has _ (and_false _) f
      by_turn (Turn.Votes hashes) =
          given_to ns k has p.poll.poller f
          ∙ ap (λ b. record { peer = f; received = k f; given = votes_given f js + cond b 1 0 })
          (sym (and_true _))
      by_turn (Turn.Serves block) = none_given ns k has _ (and_false _) f
      by_turn Turn.Ends = none_given ns k has _ (and_false _) f

  pub marks_more : (r : Record) (f : ℕ)
      → mark_at f (marks_by (part_of r) (marks_told (said_by r).voted ms)) ≡ mark_of f (js ++ r ∷ [])
  marks_more r f =
      marks_by_part _ _ (told_are (said_by r).voted) _ f
      ∙ (λ i. record { peer = f; received = sym (received_more f js r) i; given = sym (given_more f js r) i })

-- The last admission of a peer of low grade.

low_after : (before : Option ℕ) (js : List Record) (r : Record)
    → low_from before (js ++ r ∷ []) ≡ low_part (low_from before js) (part_of r)
low_after before [] r = refl
low_after before (j ∷ js) r = low_after (low_part before _) js r

pub low_more : (js : List Record) (r : Record) → last_low (js ++ r ∷ []) ≡ low_part (last_low js) (part_of r)
unfolding last_low
low_more js r = low_after None js r
