-- What each rule of a peer keeps.
use Rattle.std.proofs.Common.{◌≡◌, ◌≤◌, sym, subst, ℕ, Bool, true, false, cond, List, [], ◌∷◌, ◌++◌, length, refl}
use Rattle.std.specs.Prelude.{Option, Some, None, is_some, not}
use Rattle.std.specs.List.{filter_map, cons_option}
use Rattle.std.proofs.lemmas.Bool.{and_parts, not-true, cond_both, ltb-false}
use Rattle.std.proofs.lemmas.List.{append-nil, append_assoc}
use Rattle.lks_base.specs.declared.names.Judged.{Judged}
use Rattle.lks_base.specs.declared.names.Outcome.{Outcome}
use Rattle.lks_base.specs.declared.names.Outcome.TheVariants as outcome
use Rattle.lks_base.specs.declared.plans.AuPlan.{AuPlan}
use Rattle.lks_base.specs.declared.reactions.Reaction.{Reaction}
use Rattle.lks_base.specs.declared.records.Record.{Record}
use Rattle.lks_base.specs.declared.records.Record.TheVariants as records
use Rattle.lks_law.specs.Journal.{Opening, Request, contents_of, opening_of, is_voting, is_running, is_shut}
use Rattle.lks_law.specs.Journal.{is_closed, has_voted, unanswered_request}
use Rattle.lks_law.specs.Polls.{Station, limits_of, inner_votes, verdict_in}
use Rattle.lks_law.specs.Reaction.{no_effect, for_opening, is_inquorate, on_shut}
use Rattle.lks_law.specs.Reaction.{may_tally, closes_poll, asks_supplier, follows_verdict, on_tally, may_prove}
use Rattle.lks_law.specs.Reaction.{sends_proof, on_challenge, notes_nominees, on_nominate, is_accepted}
use Rattle.lks_law.specs.Reaction.{may_vote, on_vote, invites_outer, on_widen, must_note, overdue_in}
use Rattle.lks_law.specs.Reaction.{on_check, reminds_silent, asked_again, on_nudge}
use Rattle.lks_law.specs.References.{outer_circle}
use Rattle.lks_law.proofs.Kept.{Kept, kept_more, rest_more, good_more, same_copies, plain_nominated, plain_widened}
use Rattle.lks_law.proofs.Kept.{plain_overdue, plain_vote, plain_shut, plain_asked, plain_closed, unvoted}
use Rattle.lks_law.proofs.PollStates.{Good, Poll, poll_of, poll_after, poll_more, copies_in, if_own, good_voted}
use Rattle.lks_law.proofs.PollStates.{good_ended, good_given_up, good_done, good_asking, ended, done}
use Rattle.lks_tally.specs.declared.ballots.Verdict.{Verdict}
use Rattle.lks_tally.specs.declared.ballots.Verdict.TheVariants as verdict
use Rattle.lks_tally.proofs.Deciding.{loss_first}

abbrev pub KeptBy : Station → List Record → Reaction → Type 0
KeptBy own js r = Kept own (js ++ r.records)

pub kept_nothing : (own : Station) (js : List Record) → Kept own js → KeptBy own js no_effect
kept_nothing own js kept = subst (Kept own) (sym (append-nil js)) kept

pub kept_if : (own : Station) (js : List Record) (b : Bool) (r : Reaction) → Kept own js
    → (b ≡ true → KeptBy own js r) → KeptBy own js (cond b r no_effect)
kept_if own js b r kept does = cond_both b r no_effect (KeptBy own js) does (λ e. kept_nothing own js kept)

pub kept_opening : (own : Station) (js : List Record) (o : Option Opening) (f : Opening → Reaction) → Kept own js
    → ((x : Opening) → o ≡ Some x → KeptBy own js (f x)) → KeptBy own js (for_opening o f)
kept_opening own js None f kept does = kept_nothing own js kept
kept_opening own js (Some o) f kept does = does o refl

pub voting_parts : (n : ℕ) (js : List Record) → is_voting n js ≡ true
    → (is_closed n js ≡ false) × (is_shut n js ≡ false)
unfolding is_voting is_running
voting_parts n js voting =
    let parts = and_parts _ _ voting in (
      not-true _ (and_parts _ _ parts.0).1,
      not-true _ parts.1,
    )

-- A vote.

pub kept_vote : (own : Station) (js : List Record) (from m : ℕ) (hashes : List (List ℕ)) (o : Opening) → Kept own js
    → opening_of m js ≡ Some o → is_shut m js ≡ false → has_voted m from js ≡ false
    → Kept own (js ++ records.VoteIn m from hashes ∷ [])
kept_vote own js from m hashes o kept opened voting new =
    kept_more own js _ (plain_vote m from hashes) kept (λ n. if_own own n _ m _ _ (kept.good n) (λ same.
    good_voted own n _ o _ _ (kept.good n)
    (subst (λ k. opening_of k js ≡ Some o) same opened) (subst (λ k. is_shut k js ≡ false) same voting)
    (unvoted n from js (subst (λ k. has_voted k from js ≡ false) same new))))

unvoted_by : (js : List Record) (from n hashes : ℕ) (o : Opening) → may_vote js from n hashes o ≡ true
    → has_voted n from js ≡ false
unfolding may_vote
unvoted_by js from n hashes o may = let parts = and_parts _ _ may in not-true _ (and_parts _ _ parts.0).1

pub kept_on_vote : (own : Station) (js : List Record) (from n : ℕ) (hashes : List (List ℕ)) (judged : Judged)
    → Kept own js → KeptBy own js (on_vote js from n hashes judged)
unfolding on_vote
kept_on_vote own js from n hashes judged kept =
    kept_if own js _ _ kept (λ may.
    let voting = voting_parts n js (and_parts (is_accepted judged) _ may).1 in
    kept_opening own js _ _ kept (λ o opened.
    kept_if own js _ _ kept (λ counts.
    kept_vote own js from n hashes o kept opened voting.1 (unvoted_by js from n _ o counts))))

-- The end of voting.

pub kept_shut : (own : Station) (js : List Record) (m : ℕ) (o : Opening) → Kept own js → opening_of m js ≡ Some o
    → is_shut m js ≡ false
    → is_inquorate own m o js ≡ false → Kept own (js ++ records.Shut m ∷ [])
unfolding is_inquorate inner_votes
kept_shut own js m o kept opened voting enough =
    kept_more own js _ (plain_shut m) kept (λ n. if_own own n _ m _ _ (kept.good n) (λ same.
    good_ended own n _ o _ (kept.good n)
    (subst (λ k. opening_of k js ≡ Some o) same opened) (subst (λ k. is_shut k js ≡ false) same voting)
    (subst (λ k. (limits_of own.rules o).quorum ≤ length (inner_votes k o.inner js)) same (ltb-false _ _ enough))))

twice : (b : Bool) (p : Poll) → cond b (done (ended p)) p ≡ cond b (done (cond b (ended p) p)) (cond b (ended p) p)
twice true p = refl
twice false p = refl

pub kept_given_up : (own : Station) (js : List Record) (tick m : ℕ) (o : Opening) → Kept own js
    → opening_of m js ≡ Some o → is_shut m js ≡ false
    → Kept own (js ++ records.Shut m ∷ records.Closed m outcome.Inquorate tick ∷ [])
kept_given_up own js tick m o kept opened voting =
    let over = js ++ records.Shut m ∷ [] in
    subst (Kept own) (append_assoc js _ _) (record {
      good = good_more own over _ (plain_closed m outcome.Inquorate tick) (λ n.
          subst (λ copies. Good own n copies
          (poll_after n (poll_of n over) (records.Closed m outcome.Inquorate tick)))
          (sym (same_copies js _ (plain_shut m)))
          (subst (λ p. Good own n (copies_in js) (poll_after n p (records.Closed m outcome.Inquorate tick)))
          (sym (poll_more n js (records.Shut m))) (subst (Good own n _) (twice _ (poll_of n js))
          (if_own own n _ m _ _ (kept.good n) (λ same. good_given_up own n _ o _ (kept.good n)
          (subst (λ k. opening_of k js ≡ Some o) same opened) (subst (λ k. is_shut k js ≡ false) same voting))))));
      rest =
          rest_more own over _ (plain_closed m outcome.Inquorate tick) (rest_more own js _ (plain_shut m) kept.rest);
    })

pub kept_on_shut : (own : Station) (js : List Record) (tick n : ℕ) → Kept own js → KeptBy own js (on_shut own js tick n)
unfolding on_shut
kept_on_shut own js tick n kept =
    kept_if own js _ _ kept (λ voting. kept_opening own js _ _ kept (λ o opened. cond_both _ _ _ (KeptBy own js)
    (λ few. kept_given_up own js tick n o kept opened (voting_parts n js voting).1)
    (λ enough. kept_shut own js n o kept opened (voting_parts n js voting).1 enough)))

-- A tally.

pub kept_closed : (own : Station) (js : List Record) (tick m : ℕ) (how : Outcome) (o : Opening) → Kept own js
    → opening_of m js ≡ Some o → unanswered_request m js ≡ None
    → KeptBy own js (closes_poll js tick m how)
unfolding closes_poll
kept_closed own js tick m how o kept opened free =
    kept_more own js _ (plain_closed m how tick) kept (λ n. if_own own n _ m _ _ (kept.good n) (λ same.
    good_done own n _ o _ (kept.good n)
    (subst (λ k. opening_of k js ≡ Some o) same opened) (subst (λ k. unanswered_request k js ≡ None) same free)))

pub kept_asked : (own : Station) (js : List Record) (m b v : ℕ) (o : Opening) → Kept own js
    → opening_of m js ≡ Some o → unanswered_request m js ≡ None
    → is_closed m js ≡ false → is_shut m js ≡ true → verdict_in own m o js ≡ verdict.Loss b
    → Kept own (js ++ records.Asked m b v ∷ [])
unfolding verdict_in inner_votes
kept_asked own js m b v o kept opened free runs over lost =
    kept_more own js _ (plain_asked m b v) kept (λ n. if_own own n _ m _ _ (kept.good n) (λ same.
    let limits = limits_of own.rules o in
    let copy = contents_of o.au js in
    let found = loss_first limits.minority _ _ copy
    limits.quorum b (subst (λ k. verdict_in own k o js ≡ verdict.Loss b) same lost) in
    good_asking own n _ o _ _ (kept.good n)
    (subst (λ k. opening_of k js ≡ Some o) same opened) (subst (λ k. unanswered_request k js ≡ None) same free)
    (subst (λ k. is_closed k js ≡ false) same runs) (subst (λ k. is_shut k js ≡ true) same over) found.0 found.1.here))

pub record MayTally (n : ℕ) (js : List Record) : Type 0 where
  pub runs : is_closed n js ≡ false
  pub over : is_shut n js ≡ true
  pub free : unanswered_request n js ≡ None

none_is : (r : Option Request) → not (is_some r) ≡ true → r ≡ None
none_is None e = refl
none_is (Some r) e = absurd cc

pub tally_parts : (n : ℕ) (js : List Record) → may_tally n js ≡ true → MayTally n js
unfolding may_tally is_running
tally_parts n js may =
    let all = and_parts _
    _ may in
    let first = and_parts _ _ all.0 in
    record {
      runs = not-true _ (and_parts _ _ first.0).1;
      over = first.1;
      free = none_is _ all.1;
    }

by_candidate : (own : Station) (js : List Record) (tick n b : ℕ) (o : Opening) (v : Option ℕ) → Kept own js
    → opening_of n js ≡ Some o → MayTally n js
    → verdict_in own n o js ≡ verdict.Loss b → KeptBy own js (asks_supplier js tick n b v)
by_candidate own js tick n b o None kept opened may lost = kept_closed own js tick n _ o kept opened may.free
by_candidate own js tick n b o (Some v) kept opened may lost =
    kept_asked own js n b v o kept opened may.free may.runs may.over lost

by_verdict : (own : Station) (js : List Record) (tick n : ℕ) (o : Opening) (v : Verdict) → Kept own js
    → opening_of n js ≡ Some o → MayTally n js
    → verdict_in own n o js ≡ v → KeptBy own js (follows_verdict own js tick n o v)
by_verdict own js tick n o verdict.Inquorate kept opened may is = kept_nothing own js kept
by_verdict own js tick n o verdict.Agreed kept opened may is =
    kept_closed own js tick n outcome.Agreed o kept opened may.free
by_verdict own js tick n o (verdict.Split b) kept opened may is = kept_closed own js tick n _ o kept opened may.free
by_verdict own js tick n o (verdict.Loss b) kept opened may is = by_candidate own js tick n b o _ kept opened may is

pub kept_on_tally : (own : Station) (js : List Record) (tick n : ℕ) → Kept own js
    → KeptBy own js (on_tally own js tick n)
unfolding on_tally
kept_on_tally own js tick n kept =
    kept_if own js _ _ kept (λ may. kept_opening own js _ _ kept (λ o opened.
    by_verdict own js tick n o _ kept opened (tally_parts n js may) refl))

-- A challenge and a nomination.

pub kept_on_challenge : (own : Station) (js : List Record) (from n : ℕ) (agrees : Bool) → Kept own js
    → KeptBy own js (on_challenge own js from n agrees)
unfolding on_challenge
kept_on_challenge own js from n agrees kept =
    kept_if own js _ (for_opening (opening_of n js) (sends_proof own js from n)) kept (λ may.
    kept_opening own js _ (sends_proof own js from n) kept (λ o opened.
    kept_if own js (may_prove js from n o) _ kept (λ proves. kept_nothing own js kept)))

pub kept_on_nominate : (own : Station) (js : List Record) (from n : ℕ) (nominees : List ℕ) → Kept own js
    → KeptBy own js (on_nominate js from n nominees)
unfolding on_nominate
kept_on_nominate own js from n nominees kept =
    kept_if own js _ _ kept (λ may.
    kept_opening own js (opening_of n js) (notes_nominees js from n nominees) kept (λ o opened.
    kept_if own js _ _ kept (λ first. kept_more own js _ (plain_nominated n from nominees) kept kept.good)))

-- An outer circle, and AUs that are overdue.

pub kept_on_widen : (own : Station) (js : List Record) (n : ℕ) → Kept own js → KeptBy own js (on_widen own js n)
unfolding on_widen
kept_on_widen own js n kept =
    kept_if own js _ (for_opening (opening_of n js) (invites_outer own js n)) kept (λ may.
    kept_opening own js _ _ kept (λ o opened. kept_more own js _ (plain_widened n (outer_circle own n o js))
    kept kept.good))

kept_noted : (own : Station) (all js : List Record) (tick : ℕ) (aus : List AuPlan) → Kept own js
    → Kept own (js ++ filter_map (overdue_in own all tick) aus)
kept_noted own all js tick [] kept = subst (Kept own) (sym (append-nil js)) kept
kept_noted own all js tick (au ∷ aus) kept =
    by_test (must_note own all tick au.id) (filter_map _ aus) (λ later k. kept_noted own all later tick aus k)
  where
    by_test : (b : Bool) (rest : List Record) → ((later : List Record) → Kept own later → Kept own (later ++ rest))
        → Kept own (js ++ cons_option (cond b (Some (records.Overdue au.id tick)) None) rest)
    by_test true rest go_on =
        subst (Kept own) (append_assoc js _ rest) (go_on _
        (kept_more own js _ (plain_overdue au.id tick) kept kept.good))
    by_test false rest go_on = go_on js kept

pub kept_on_check : (own : Station) (js : List Record) (tick : ℕ) → Kept own js → KeptBy own js (on_check own js tick)
unfolding on_check
kept_on_check own js tick kept = kept_noted own js js tick own.aus kept

-- A reminder.

pub kept_on_nudge : (own : Station) (js : List Record) (n : ℕ) → Kept own js → KeptBy own js (on_nudge js n)
unfolding on_nudge
kept_on_nudge own js n kept =
    cond_both _ _ _ (KeptBy own js)
    (λ voting. kept_opening own js (opening_of n js) (reminds_silent js n) kept (λ o opened. kept_nothing own js kept))
    (λ over. by_request (unanswered_request n js))
  where
    by_request : (r : Option Request) → KeptBy own js (asked_again n r)
    by_request None = kept_nothing own js kept
    by_request (Some r) = kept_nothing own js kept
