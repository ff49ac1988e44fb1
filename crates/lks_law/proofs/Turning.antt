-- A walk over the numbers of a journal's polls, which passes over those that don't run, is a walk over the running
-- polls.
use Rattle.std.proofs.Common.{◌≡◌, ◌∙◌, ap, sym, subst, ℕ, Bool, true, false, cond, not, List, [], ◌∷◌, ◌++◌, filter}
use Rattle.std.proofs.Common.{refl}
use Rattle.std.specs.Prelude.{Option, Some, None, is_some, map, slice_get, ◌&&◌}
use Rattle.std.specs.List.{filter_map, cons_option, range_with_len}
use Rattle.std.proofs.lemmas.Bool.{eq-eqb}
use Rattle.lks_base.specs.declared.events.PeerStep.TheVariants.{Tally, Work}
use Rattle.lks_base.specs.declared.plans.Rules.{Rules}
use Rattle.lks_base.specs.declared.records.Record.{Record}
use Rattle.lks_base.specs.declared.records.Record.TheVariants.{PollOpened, VoteIn}
use Rattle.lks_law.specs.Due.{works_at, tallies_at, ready_at, turn_at, turn_of, turns_at}
use Rattle.lks_law.specs.Entries.{has_inner, is_inner}
use Rattle.lks_law.specs.Journal.{Opening, opened_in, opened_numbers, opening_in, opening_of, openings, is_closed}
use Rattle.lks_law.specs.Journal.{is_running, is_shut, is_voting, is_widened, unanswered_request}
use Rattle.lks_law.specs.Polls.{Station}
use Rattle.lks_law.specs.Reaction.{may_tally}
use Rattle.lks_law.specs.State.{settled_opening, Poll, poll_at, state_of}
use Rattle.lks_law.specs.Taking.{Pinned}
use Rattle.lks_law.specs.Turning.{works_on, ready_in, tallies_on, ready_on, turn_in, turns_on, has_inner_of}
use Rattle.lks_law.specs.Turning.{has_inner_in}
use Rattle.lks_law.specs.Written.{AreWritten}
use Rattle.lks_law.proofs.Grown.{closed_more}
use Rattle.lks_law.proofs.Kept.{same_opening}
use Rattle.lks_law.proofs.Parts.{poll_of_pinned}
use Rattle.lks_law.proofs.RunningPolls.{poll_as, running_in, polls_of, running_by, found_at, AreApart}
use Rattle.lks_law.proofs.Scans.{widened_is}
use Rattle.lks_law.proofs.Standing.{poll_is, state_stands}
use Rattle.lks_law.proofs.Writing.{written_more}

-- The walk, for any row that gives nothing of a poll that doesn't run, and of one that runs what it says of the poll.

abbrev Walks : {X : Type 0} → List Record → (ℕ → Option X) → (Poll → Option X) → Type 0
Walks js g f =
    (n : ℕ) (o : Opening) → is_some (opening_of n js) ≡ true → cond (is_closed n js) None (f (poll_as n o js)) ≡ g n

module _ {X : Type 0} (rules : Rules) (js : List Record) (g : ℕ → Option X) (f : Poll → Option X)
    (walks : Walks js g f) where
  of_one : (over : Bool) (p : Poll) (ps : List Poll)
      → filter_map f (cons_option (cond over None (Some p)) ps)
      ≡ cons_option (cond over None (f p)) (filter_map f ps)
  of_one true p ps = refl
  of_one false p ps = refl

  opened_later : (n : ℕ) (x : Record) (xs : List Record) → is_some (opening_of n xs) ≡ true
      → is_some (opening_of n (x ∷ xs)) ≡ true
  unfolding opening_of
  opened_later n x xs e = by_first (opening_in n x)
    where
      by_first : (o : Option Opening) → is_some (cond (is_some o) o (opening_of n xs)) ≡ true
      by_first None = e
      by_first (Some o) = refl

  opened_here : (n tick : ℕ) (o : Opening) (xs : List Record)
      → is_some (opening_of n (PollOpened n o.au o.nonce o.inner tick o.limits o.kind ∷ xs)) ≡ true
  unfolding opening_of
  opened_here n tick o xs =
      ap (λ b. is_some (cond (is_some (cond b (Some o) None)) (cond b (Some o) None) (opening_of n xs)))
      (eq-eqb n n refl)

  walk_in : (xs : List Record) → ((n : ℕ) → is_some (opening_of n xs) ≡ true → is_some (opening_of n js) ≡ true)
      → filter_map f (filter_map (running_in rules js) xs) ≡ filter_map g (filter_map opened_in xs)
  walk_in [] are = refl
  walk_in (PollOpened n au nonce inner tick limits kind ∷ xs) are =
      let o : Opening = record { au = au; nonce = nonce; inner = inner; limits = limits; kind = kind } in
      of_one _ _ _
      ∙ (λ i. cons_option (walks n (settled_opening rules o) (are n (opened_here n tick o xs)) i)
      (walk_in xs (λ m e. are m (opened_later m _ xs e)) i))
  walk_in (x ∷ xs) are = walk_in xs (λ m e. are m (opened_later m x xs e))

  pub walk : opened_numbers js ≡ range_with_len 1 (openings js)
      → filter_map f (polls_of rules js) ≡ filter_map g (range_with_len 1 (openings js))
  unfolding opened_numbers
  walk numbered = walk_in js (λ n e. e) ∙ ap (filter_map g) numbered

-- The rows.

chosen : {X : Type 0} (q : ℕ → Bool) (h : ℕ → X) (ns : List ℕ)
    → filter_map (λ n. cond (q n) (Some (h n)) None) ns ≡ map h (filter q ns)
chosen q h [] = refl
chosen {X = X} q h (n ∷ ns) = by_test (q n) (chosen q h ns)
  where
    by_test : (b : Bool) → filter_map (λ n. cond (q n) (Some (h n)) None) ns ≡ map h (filter q ns)
        → cons_option (cond b (Some (h n)) None) (filter_map (λ n. cond (q n) (Some (h n)) None) ns)
        ≡ map h (cond b (n ∷ filter q ns) (filter q ns))
    by_test true e = ap (λ xs. h n ∷ xs) e
    by_test false e = e

tally_walks : (id : ℕ) (js : List Record) → Walks js (λ n. cond (may_tally n js) (Some (Tally id n)) None) (ready_in id)
unfolding may_tally is_running
tally_walks id js n o is =
    by_closed (is_closed n js)
    ∙ ap (λ b. cond (b && not (is_closed n js) && is_shut n js && not (is_some (unanswered_request n js)))
    (Some (Tally id n)) None) (sym is)
  where
    by_closed : (c : Bool)
        → cond c None (ready_in id (poll_as n o js))
        ≡ cond (true && not c && is_shut n js && not (is_some (unanswered_request n js))) (Some (Tally id n)) None
    by_closed true = refl
    by_closed false = refl

turn_walks : (id : ℕ) (js : List Record) → Walks js (turn_of id js) (turn_in id)
unfolding turn_of is_voting is_running
turn_walks id js n o is =
    by_closed (is_closed n js)
    ∙ ap (λ b. cond (b && not (is_closed n js))
    (turn_at id n (is_some (unanswered_request n js)) (b && not (is_closed n js) && not (is_shut n js))
    (is_widened n js)) None) (sym is)
  where
    by_closed : (c : Bool)
        → cond c None (turn_in id (poll_as n o js))
        ≡ cond (true && not c)
        (turn_at id n (is_some (unanswered_request n js)) (true && not c && not (is_shut n js))
        (is_widened n js)) None
    by_closed true = refl
    by_closed false = ap (turn_at id n _ _) (widened_is n js)

works_are : (own : Station) (js : List Record) → AreWritten [] js
    → works_on own (state_of own js).voter ≡ works_at (record { own = own; journal = js })
unfolding works_on works_at
works_are own js written =
    named_so (state_of own js).voter.pinned ∙ ap (map _) (state_stands own js written).voter.order
  where
    named_so : (ps : List Pinned)
        → map (λ (p : Pinned). Work own.id p.committed.joined.poll) ps ≡ map (Work own.id) (map poll_of_pinned ps)
    named_so [] = refl
    named_so (p ∷ ps) = ap (λ ss. Work own.id p.committed.joined.poll ∷ ss) (named_so ps)

tallies_are : (own : Station) (js : List Record) → AreWritten [] js
    → opened_numbers js ≡ range_with_len 1 (openings js)
    → tallies_on own (state_of own js) ≡ tallies_at (record { own = own; journal = js })
unfolding tallies_on tallies_at
tallies_are own js written numbered =
    ap (filter_map _) (state_stands own js written).polls
    ∙ walk own.rules js _ _ (tally_walks own.id js) numbered
    ∙ chosen _ _ (range_with_len 1 (openings js))

pub ready_is : (own : Station) (js : List Record) → AreWritten [] js
    → opened_numbers js ≡ range_with_len 1 (openings js)
    → ready_on own (state_of own js) ≡ ready_at (record { own = own; journal = js })
ready_is own js written numbered = λ i. works_are own js written i ++ tallies_are own js written numbered i

pub turns_are : (own : Station) (js : List Record) → AreWritten [] js
    → opened_numbers js ≡ range_with_len 1 (openings js)
    → turns_on own (state_of own js) ≡ turns_at (record { own = own; journal = js })
unfolding turns_on turns_at
turns_are own js written numbered =
    ap (filter_map _) (state_stands own js written).polls
    ∙ walk own.rules js _ _ (turn_walks own.id js) numbered

pub inner_is : (own : Station) (js : List Record) → AreWritten [] js → (n voter : ℕ) → is_running n js ≡ true
    → has_inner_in (state_of own js) n voter ≡ is_inner js n voter
unfolding has_inner_in is_inner is_running
inner_is own js written n voter runs =
    ap (λ p. has_inner_of p voter) (poll_is own js _ (state_stands own js written) n)
    ∙ by_opening (opening_of n js) (is_closed n js) runs
  where
    by_opening : (o : Option Opening) (c : Bool) → (is_some o && not c) ≡ true
        → has_inner_of (running_by own.rules n js o c) voter ≡ has_inner o voter
    by_opening None c e = refl
    by_opening (Some o) true e = absurd cc
    by_opening (Some o) false e = refl

-- each poll of the state is found by its number
pub poll_there : (own : Station) (js : List Record) → AreWritten [] js → (k : ℕ) (p : Poll)
    → slice_get (state_of own js).polls k ≡ Some p → poll_at p.number (state_of own js).polls ≡ Some p
poll_there own js written k p at =
    let stands = state_stands own js written in
    found_at (state_of own js).polls (subst AreApart (sym stands.polls) stands.apart) k p at

-- a poll that is found in the state runs
pub runs_there : (own : Station) (js : List Record) → AreWritten [] js → (n : ℕ)
    → is_some (poll_at n (state_of own js).polls) ≡ true → is_running n js ≡ true
unfolding is_running
runs_there own js written n found =
    by_opening (opening_of n js) (is_closed n js)
    (ap is_some (sym (poll_is own js _ (state_stands own js written) n)) ∙ found)
  where
    by_opening : (o : Option Opening) (c : Bool) → is_some (running_by own.rules n js o c) ≡ true
        → (is_some o && not c) ≡ true
    by_opening None c e = absurd cc
    by_opening (Some o) true e = absurd cc
    by_opening (Some o) false e = refl

-- and so does the poll of a vote once the vote is noted
pub inner_noted : (own : Station) (js : List Record) (n voter : ℕ) (hashes : List (List ℕ)) → AreWritten [] js
    → is_some (poll_at n (state_of own js).polls) ≡ true
    → has_inner_in (state_of own (js ++ VoteIn n voter hashes ∷ [])) n voter
    ≡ is_inner (js ++ VoteIn n voter hashes ∷ []) n voter
unfolding is_running
inner_noted own js n voter hashes written found =
    let vote = VoteIn n voter hashes in
    inner_is own _ (written_more [] js vote written tt) n voter
    ((λ i. is_some (same_opening n js vote refl i) && not (closed_more n js vote i))
    ∙ runs_there own js written n found)
