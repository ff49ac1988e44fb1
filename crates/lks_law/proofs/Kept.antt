-- What every record that the rules add keeps.
use Rattle.std.proofs.Common.{◌≡◌, ◌≢◌, ◌≤◌, ◌<◌, ◌+◌, ◌∙◌, inl, inr, ap, sym, subst, ℕ, zero, suc, Bool, true, false}
use Rattle.std.proofs.Common.{cond, eqb, List, [], ◌∷◌, ◌++◌, length, get_or, refl, arith}
use Rattle.std.specs.Prelude.{Option, Some, None, unwrap_or, ◌&&◌}
use Rattle.std.specs.List.{cons_option, range_with_len}
use Rattle.std.proofs.lemmas.Bool.{eq-eqb, and_from, both_ways, or_parts}
use Rattle.std.proofs.lemmas.List.{append-nil, take-append-le, take_at}
use Rattle.lks_base.specs.Quorums.{obeys_quorum_rule}
use Rattle.lks_base.specs.declared.names.Numbers.{Numbers}
use Rattle.lks_base.specs.declared.names.Outcome.{Outcome}
use Rattle.lks_base.specs.declared.plans.Rules.{Rules}
use Rattle.lks_base.specs.declared.records.Record.{Record}
use Rattle.lks_base.specs.declared.records.Record.TheVariants.{PollOpened, Nominated, OuterOpened, VoteIn, Shut}
use Rattle.lks_base.specs.declared.records.Record.TheVariants.{Asked, RepairBad, Closed, Overdue}
use Rattle.lks_law.specs.Journal.{Opening, Repair, said_by, deposit_in, replacement_if, contents_of, opening_in}
use Rattle.lks_law.specs.Journal.{opening_of, is_opening, openings, opened_in, opened_numbers, vote_in, is_vote_of}
use Rattle.lks_law.specs.Journal.{has_voted, is_closed}
use Rattle.lks_law.specs.Polls.{Station, ObeyQuorumRule, limits_in, limits_of, numbers_in_force, limits_in_force, votes}
use Rattle.lks_law.specs.Safe.{Evidence, HasEvidence}
use Rattle.lks_law.proofs.Grown.{first_opening, opening_more, openings_more, numbers_more, numbers_last, closed_more}
use Rattle.lks_law.proofs.Grown.{contents_more, replaced_if, last_or_before, first_stays}
use Rattle.lks_law.proofs.PollStates.{Good, poll_of, poll_after, poll_more, copies_in}
use Rattle.lks_tally.specs.declared.ballots.Vote.{Vote}

-- the numbers in force obey the quorum rule, and so do those of each poll
pub record AreLawful (rules : Rules) (js : List Record) : Type 0 where
  pub in_force : ObeyQuorumRule (limits_in_force rules js)
  pub opened : (n : ℕ) (o : Opening) → opening_of n js ≡ Some o → ObeyQuorumRule (limits_of rules o)

-- a tuning is by such numbers
abbrev pub TunesLawfully : Option Numbers → Type 0
TunesLawfully None = Unit {0}
TunesLawfully (Some numbers) = obeys_quorum_rule numbers.quorum numbers.minority ≡ true

-- the polls of a journal, apart from what each is
pub record Rest (own : Station) (js : List Record) : Type 0 where
  pub in_order : opened_numbers js ≡ range_with_len 1 (openings js)
  pub numbered : (n : ℕ) (o : Opening) → opening_of n js ≡ Some o → n ≤ openings js
  pub alone : (m n : ℕ) (o p : Opening) → opening_of m js ≡ Some o → opening_of n js ≡ Some p
      → is_closed m js ≡ false → is_closed n js ≡ false → o.au ≡ p.au → m ≡ n
  pub lawful : ObeyQuorumRule (limits_in own.rules) → AreLawful own.rules js
  pub evidence : ObeyQuorumRule (limits_in own.rules) → HasEvidence own.rules own.id js

abbrev pub AllGood : Station → List Record → Type 0
AllGood own js = (n : ℕ) → Good own n (copies_in js) (poll_of n js)

pub record Kept (own : Station) (js : List Record) : Type 0 where
  pub good : AllGood own js
  pub rest : Rest own js

-- a record that opens no poll and changes no AU
pub record IsPlain (r : Record) : Type 0 where
  pub deposit : (au : ℕ) → deposit_in au r ≡ None
  pub replaced : (said_by r).replaced ≡ None
  pub opening : (n : ℕ) → opening_in n r ≡ None
  pub counted : is_opening r ≡ false
  pub tuned : TunesLawfully (said_by r).tuned

pub same_opening : (n : ℕ) (js : List Record) (r : Record) → opening_in n r ≡ None
    → opening_of n (js ++ r ∷ []) ≡ opening_of n js
same_opening n js r none = opening_more n js r ∙ ap (first_opening _) none ∙ first_stays _

-- a poll that isn't closed wasn't closed before
pub was_running : (n : ℕ) (js : List Record) (r : Record) → is_closed n (js ++ r ∷ []) ≡ false → is_closed n js ≡ false
was_running n js r later = by_close _ (is_closed n js) (sym (closed_more n js r) ∙ later)
  where
    by_close : (b closed : Bool) → cond b true closed ≡ false → closed ≡ false
    by_close true closed e = absurd cc
    by_close false closed e = e

pub in_force_more : (rules : Rules) (js : List Record) (r : Record) → TunesLawfully (said_by r).tuned
    → ObeyQuorumRule (limits_in_force rules js) → ObeyQuorumRule (limits_in_force rules (js ++ r ∷ []))
unfolding numbers_in_force
in_force_more rules js r tuned obey =
    subst (λ (x : Numbers). obeys_quorum_rule x.quorum x.minority ≡ true) (sym (numbers_last _ js r))
    (by_tuning (said_by r).tuned tuned)
  where
    by_tuning : (t : Option Numbers) → TunesLawfully t
        → (let x : Numbers = unwrap_or t (numbers_in_force rules js) in obeys_quorum_rule x.quorum x.minority ≡ true)
    by_tuning None lawful = obey
    by_tuning (Some x) lawful = lawful

-- evidence stands in the journal before its record, so it stays
pub evidence_more : (own : Station) (js : List Record) (r : Record) → HasEvidence own.rules own.id js
    → ((x : Repair) → (said_by r).replaced ≡ Some x → Evidence own.rules own.id js x)
    → HasEvidence own.rules own.id (js ++ r ∷ [])
evidence_more own js r has last i q x at says = elim (last_or_before js r i q at) [
  | inl before ↦ let low =
      before.0 in
      subst (λ front. Evidence own.rules own.id front x) (sym (take-append-le i js _ (omega (arith, low))))
      (has i q x before.1 says)
  | inr here ↦ let place =
      here.0 in
      subst (λ front. Evidence own.rules own.id front x) (sym (take_at js _ i (sym place)))
      (last x (ap (λ s. (said_by s).replaced) here.1 ∙ says))
]

-- numbers that are tuned are in force from then on
pub lawful_more : (rules : Rules) (js : List Record) (r : Record) → TunesLawfully (said_by r).tuned
    → ((n : ℕ) → opening_in n r ≡ None) → AreLawful rules js → AreLawful rules (js ++ r ∷ [])
lawful_more rules js r tuned none lawful = record {
  in_force = in_force_more rules js r tuned lawful.in_force;
  opened = λ n o is. lawful.opened n o (sym (same_opening n js r (none n)) ∙ is);
}

opens_none : (r : Record) → is_opening r ≡ false → opened_in r ≡ None
opens_none (PollOpened number au nonce inner tick limits kind) e = absurd cc
opens_none r e = refl

same_numbers : (js : List Record) (r : Record) → is_opening r ≡ false
    → opened_numbers (js ++ r ∷ []) ≡ opened_numbers js
same_numbers js r counted =
    numbers_more js r ∙ ap (λ o. opened_numbers js ++ cons_option o []) (opens_none r counted)
    ∙ append-nil _

-- a record that opens no poll leaves their numbers, and at most one runs on an AU
pub rest_after : (own : Station) (js : List Record) (r : Record) → ((n : ℕ) → opening_in n r ≡ None)
    → is_opening r ≡ false → TunesLawfully (said_by r).tuned
    → (ObeyQuorumRule (limits_in own.rules) → HasEvidence own.rules own.id (js ++ r ∷ [])) → Rest own js
    → Rest own (js ++ r ∷ [])
rest_after own js r none counted tuned evidence rest =
    let same : (n : ℕ) → opening_of n _ ≡ opening_of n js = λ n. same_opening n js r (none n) in
    let count : openings _
    ≡ openings js + 0 = openings_more js r ∙ ap (λ b. openings js + cond b 1 0) counted in
    let as_many : openings (js ++ r ∷ []) ≡ openings js = omega (arith, count) in
    record {
      in_order = same_numbers js r counted ∙ rest.in_order ∙ ap (range_with_len 1) (sym as_many);
      numbered = λ n o opened. let low = rest.numbered n o (sym (same n) ∙ opened) in omega (arith, low, count);
      alone = λ m n o p first second runs also au.
          rest.alone m n o p (sym (same m) ∙ first) (sym (same n) ∙ second) (was_running m js r runs)
          (was_running n js r also) au;
      lawful = λ rule. lawful_more own.rules js r tuned none (rest.lawful rule);
      evidence = evidence;
    }

pub rest_more : (own : Station) (js : List Record) (r : Record) → IsPlain r → Rest own js → Rest own (js ++ r ∷ [])
rest_more own js r plain rest =
    rest_after own js r plain.opening plain.counted plain.tuned (λ rule. evidence_more own js r (rest.evidence rule)
    (λ x is. absurd (let both : None ≡ Some x = sym plain.replaced ∙ is in cc))) rest

pub same_copies : (js : List Record) (r : Record) → IsPlain r → copies_in (js ++ r ∷ []) ≡ copies_in js
same_copies js r plain =
    λ i au.
    (contents_more au js r (plain.deposit au)
    ∙ ap (λ o. replaced_if (contents_of au js) (replacement_if au o)) plain.replaced) i

pub good_more : (own : Station) (js : List Record) (r : Record) → IsPlain r
    → ((n : ℕ) → Good own n (copies_in js) (poll_after n (poll_of n js) r)) → AllGood own (js ++ r ∷ [])
good_more own js r plain good n =
    subst (λ copies. Good own n copies (poll_of n (js ++ r ∷ []))) (sym (same_copies js r plain))
    (subst (Good own n _) (sym (poll_more n js r)) (good n))

pub kept_more : (own : Station) (js : List Record) (r : Record) → IsPlain r → Kept own js
    → ((n : ℕ) → Good own n (copies_in js) (poll_after n (poll_of n js) r)) → Kept own (js ++ r ∷ [])
kept_more own js r plain kept good =
    record { good = good_more own js r plain good; rest = rest_more own js r plain kept.rest }

pub plain_nominated : (n v : ℕ) (nominees : List ℕ) → IsPlain (Nominated n v nominees)
plain_nominated n v nominees =
    record { deposit = λ au. refl; replaced = refl; opening = λ m. refl; counted = refl; tuned = tt }

pub plain_widened : (n : ℕ) (outer : List ℕ) → IsPlain (OuterOpened n outer)
plain_widened n outer =
    record { deposit = λ au. refl; replaced = refl; opening = λ m. refl; counted = refl; tuned = tt }

pub plain_overdue : (au tick : ℕ) → IsPlain (Overdue au tick)
plain_overdue au tick = record { deposit = λ a. refl; replaced = refl; opening = λ m. refl; counted = refl; tuned = tt }

pub plain_vote : (n v : ℕ) (hashes : List (List ℕ)) → IsPlain (VoteIn n v hashes)
plain_vote n v hashes =
    record { deposit = λ au. refl; replaced = refl; opening = λ m. refl; counted = refl; tuned = tt }

pub plain_shut : (n : ℕ) → IsPlain (Shut n)
plain_shut n = record { deposit = λ au. refl; replaced = refl; opening = λ m. refl; counted = refl; tuned = tt }

pub plain_asked : (n b v : ℕ) → IsPlain (Asked n b v)
plain_asked n b v = record { deposit = λ au. refl; replaced = refl; opening = λ m. refl; counted = refl; tuned = tt }

pub plain_bad : (n b v : ℕ) → IsPlain (RepairBad n b v)
plain_bad n b v = record { deposit = λ au. refl; replaced = refl; opening = λ m. refl; counted = refl; tuned = tt }

pub plain_closed : (n : ℕ) (how : Outcome) (tick : ℕ) → IsPlain (Closed n how tick)
plain_closed n how tick =
    record { deposit = λ au. refl; replaced = refl; opening = λ m. refl; counted = refl; tuned = tt }

-- Who hasn't voted has no vote.

is_by : (n v : ℕ) (r : Record) (w : Vote) → vote_in n r ≡ Some w → w.voter ≡ v → is_vote_of n v r ≡ true
is_by n v (VoteIn number voter hashes) w is of = by_number (eqb number n) refl is
  where
    by_number : (b : Bool) → eqb number n ≡ b
        → cond b (Some (record { voter = voter; hashes = hashes })) None ≡ Some w
        → (eqb number n && eqb voter v) ≡ true
    by_number true e is =
        let same : voter
        ≡ w.voter = ap (λ (x : Option Vote). elim x as (λ _. ℕ) [ None ↦ 0 | Some y ↦ y.voter ]) is in
        and_from _ _ e (eq-eqb voter v (same ∙ of))
    by_number false e is = absurd cc
is_by n v r w is of = absurd cc

abbrev AreNotBy : ℕ → List Vote → Type 0
AreNotBy v votes = (k : ℕ) (d : Vote) → k < length votes → (get_or votes k d).voter ≢ v

one_more : (v : ℕ) (w : Option Vote) (ws : List Vote) → ((x : Vote) → w ≡ Some x → x.voter ≢ v) → AreNotBy v ws
    → AreNotBy v (cons_option w ws)
one_more v None ws first rest k d low = rest k d low
one_more v (Some w) ws first rest zero d low = first w refl
one_more v (Some w) ws first rest (suc k) d low = rest k d (omega arith)

pub unvoted : (n v : ℕ) (js : List Record) → has_voted n v js ≡ false → AreNotBy v (votes n js)
unfolding has_voted votes
unvoted n v [] none = λ k d low. absurd (omega arith)
unvoted n v (r ∷ rs) none =
    let parts = or_parts _ _ none in
    one_more v _ _ (λ x is of. both_ways _ parts.0 (is_by n v r x is of))
    (unvoted n v rs parts.1)
