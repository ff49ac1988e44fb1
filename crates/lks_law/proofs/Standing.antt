-- The state for which a journal stands.
use Rattle.std.proofs.Common.{◌≡◌, ◌∙◌, ap, sym, subst, ℕ, Bool, true, false, cond, eqb, not, List, [], ◌∷◌, ◌++◌}
use Rattle.std.proofs.Common.{refl, arith}
use Rattle.std.specs.Prelude.{Option, Some, None, is_some, ◌+◌}
use Rattle.std.proofs.lemmas.Bool.{eqb-true, and_parts, and_from}
use Rattle.std.proofs.lemmas.List.{append-nil, append_assoc}
use Rattle.lks_base.specs.declared.names.Outcome.TheVariants.{Agreed}
use Rattle.lks_base.specs.declared.records.Record.{Record}
use Rattle.lks_base.specs.declared.records.Record.TheVariants.{Asked, RepairBad, Replaced, Closed}
use Rattle.lks_law.specs.Journal.{Opening, deposit_of, is_opening, openings, opening_in, opening_of, closes}
use Rattle.lks_law.specs.Journal.{is_closed, is_running, contents_of, numbers_after, unanswered_after}
use Rattle.lks_law.specs.Journal.{unanswered_request}
use Rattle.lks_law.specs.Polls.{Station, numbers_in_force}
use Rattle.lks_law.specs.References.{dissenters, joiners, picked_friends, list_agreed, list_with, list_from}
use Rattle.lks_law.specs.References.{reference_list}
use Rattle.lks_law.specs.State.{settled_opening, State, poll_at, copy_at, blocks_at, refs_agreed, refs_after, leavers}
use Rattle.lks_law.specs.State.{comers, polls_after, copies_after, after, after_all, state_of}
use Rattle.lks_law.specs.Written.{MayFollow, AreWritten}
use Rattle.lks_law.proofs.HeldCopies.{copy_of, copies_more, blocks_are}
use Rattle.lks_law.proofs.RunningPolls.{AreApart, apart_after, poll_as, polls_of, polls_more, running_by, poll_found}
use Rattle.lks_law.proofs.Grown.{first_opening, opening_more, openings_more, numbers_last, closed_more, unanswered_more}
use Rattle.lks_law.proofs.Taken.{Takes, takes_more, takes_none}
use Rattle.lks_choice.specs.Lists.{list_after}

pub record Stands (own : Station) (js : List Record) (s : State) : Type 0 where
  pub numbers : s.numbers ≡ numbers_in_force own.rules js
  pub openings_are : s.openings ≡ openings js
  pub copies : (au : ℕ) → copy_at au s.copies ≡ copy_of au js
  pub polls : s.polls ≡ polls_of own.rules js
  pub apart : AreApart (polls_of own.rules js)
  pub refs : s.refs ≡ reference_list own js
  pub idle : (n : ℕ) → is_some (unanswered_request n js) ≡ true → is_running n js ≡ true
  pub voter : Takes own.rules js s.voter

count_more : (js : List Record) (r : Record)
    → openings (js ++ r ∷ []) ≡ cond (is_opening r) (openings js + 1) (openings js)
count_more js r = openings_more js r ∙ by_test (is_opening r)
  where
    by_test : (b : Bool) → openings js + cond b 1 0 ≡ cond b (openings js + 1) (openings js)
    by_test true = refl
    by_test false = omega arith

list_last : (own : Station) (before : List Record) (list : List ℕ) (js : List Record) (r : Record)
    → list_from own before list (js ++ r ∷ []) ≡ list_with own (before ++ js) (list_from own before list js) r
list_last own before list [] r = ap (λ js. list_with own js list r) (sym (append-nil before))
list_last own before list (j ∷ js) r =
    list_last own _ (list_with own before list j) js r
    ∙ ap (λ front. list_with own front (list_from own (before ++ j ∷ []) (list_with own before list j) js) r)
    (append_assoc before _ js)

refs_last : (own : Station) (js : List Record) (r : Record)
    → reference_list own (js ++ r ∷ []) ≡ list_with own js (reference_list own js) r
unfolding reference_list
refs_last own js r = list_last own [] own.refs js r

module _ (own : Station) (js : List Record) (s : State) (is : Stands own js s) where
  pub poll_is : (n : ℕ) → poll_at n s.polls ≡ running_by own.rules n js (opening_of n js) (is_closed n js)
  poll_is n = ap (poll_at n) is.polls ∙ poll_found own.rules n js

  pub blocks_is : (au : ℕ) → blocks_at au s.copies ≡ contents_of au js
  blocks_is au = blocks_are js s.copies is.copies au

  agreed_refs : (n : ℕ) (o : Option Opening)
      → refs_agreed own s.refs s.copies (running_by own.rules n js o false)
      ≡ list_agreed own js (reference_list own js) n o
  unfolding dissenters joiners
  agreed_refs n None = is.refs
  agreed_refs n (Some o) =
      λ i. list_after own.id (is.refs i)
      (leavers own (poll_as n (settled_opening own.rules o) js) (blocks_is o.au i))
      (comers own (poll_as n (settled_opening own.rules o) js) (blocks_is o.au i)) (picked_friends own n)

  refs_are : (r : Record) → MayFollow js r → refs_after own s r ≡ list_with own js (reference_list own js) r
  unfolding list_with
  refs_are (Closed n Agreed tick) may =
      ap (refs_agreed own s.refs s.copies) (poll_is n ∙ ap (running_by own.rules n js _) may.0)
      ∙ agreed_refs n _
  refs_are r may = is.refs

  -- a poll runs on
  runs_on : (n : ℕ) (r : Record) → closes n r ≡ false → is_running n js ≡ true → is_running n (js ++ r ∷ []) ≡ true
  unfolding is_running
  runs_on n r goes e =
      let parts = and_parts _ _ e in
      and_from _ _
      (ap is_some (opening_more n js r) ∙ stays (opening_of n js) (opening_in n r) parts.0)
      (ap not (closed_more n js r ∙ ap (λ b. cond b true (is_closed n js)) goes) ∙ parts.1)
    where
      stays : (o later : Option Opening) → is_some o ≡ true → is_some (first_opening o later) ≡ true
      stays None later e = absurd cc
      stays (Some o) later e = refl

  idle_more : (r : Record) → MayFollow js r → (n : ℕ) → is_some (unanswered_request n (js ++ r ∷ [])) ≡ true
      → is_running n (js ++ r ∷ []) ≡ true
  idle_more r may n e = by_record r may (ap is_some (sym (unanswered_more n js r)) ∙ e)
    where
      by_record : (r : Record) → MayFollow js r → is_some (unanswered_after n (unanswered_request n js) r) ≡ true
          → is_running n (js ++ r ∷ []) ≡ true
      by_record (Asked number block voter) may e = by_number (eqb number n) refl e
        where
          by_number : (b : Bool) → eqb number n ≡ b
              → is_some (cond b (Some (record { block = block; voter = voter })) (unanswered_request n js)) ≡ true
              → is_running n (js ++ Asked number block voter ∷ []) ≡ true
          by_number true same e = runs_on n _ refl (ap (λ m. is_running m js) (sym (eqb-true number n same)) ∙ may)
          by_number false same e = runs_on n _ refl (is.idle n e)
      by_record (RepairBad number block voter) may e = by_number (eqb number n) e
        where
          by_number : (b : Bool) → is_some (cond b None (unanswered_request n js)) ≡ true
              → is_running n (js ++ RepairBad number block voter ∷ []) ≡ true
          by_number true e = absurd cc
          by_number false e = runs_on n _ refl (is.idle n e)
      by_record (Replaced number au block bytes) may e = by_number (eqb number n) e
        where
          by_number : (b : Bool) → is_some (cond b None (unanswered_request n js)) ≡ true
              → is_running n (js ++ Replaced number au block bytes ∷ []) ≡ true
          by_number true e = absurd cc
          by_number false e = runs_on n _ refl (is.idle n e)
      by_record (Closed number outcome tick) may e = by_number (eqb number n) refl
        where
          by_number : (b : Bool) → eqb number n ≡ b → is_running n (js ++ Closed number outcome tick ∷ []) ≡ true
          by_number true same =
              absurd
              (let both : true
              ≡ false = sym e
              ∙ ap is_some (ap (λ m. unanswered_request m js) (sym (eqb-true number n same)) ∙ may.1) in cc)
          by_number false same = runs_on n _ same (is.idle n e)
      by_record r may e = runs_on n r refl (is.idle n e)

  stands_more : (r : Record) → MayFollow js r → Stands own (js ++ r ∷ []) (after own s r)
  unfolding after numbers_in_force
  stands_more r may = record {
    numbers =
        ap (λ l. numbers_after l r) is.numbers
        ∙ sym (numbers_last _ js r);
    openings_are = ap (λ n. cond (is_opening r) (n + 1) n) is.openings_are ∙ sym (count_more js r);
    copies =
        subst (λ ps. (au : ℕ) → copy_at au (copies_after ps r s.copies) ≡ copy_of au (js ++ r ∷ [])) (sym is.polls)
        (copies_more own.rules js s.copies is.copies r may);
    polls = ap (polls_after own.rules r) is.polls ∙ sym (polls_more own.rules js r may is.apart);
    apart = subst AreApart (sym (polls_more own.rules js r may is.apart)) (apart_after own.rules js r may is.apart);
    refs = refs_are r may ∙ sym (refs_last own js r);
    idle = idle_more r may;
    voter = takes_more own.rules _ js s.voter blocks_is is.voter r may;
  }

stands_all : (own : Station) (before rest : List Record) (s : State) → Stands own before s → AreWritten before rest
    → Stands own (before ++ rest) (after_all own s rest)
stands_all own before [] s is written = subst (λ js. Stands own js s) (sym (append-nil before)) is
stands_all own before (r ∷ rs) s is written =
    subst (λ js. Stands own js (after_all own (after own s r) rs)) (append_assoc before _ rs)
    (stands_all own _ rs (after own s r) (stands_more own before s is r written.0) written.1)

pub state_stands : (own : Station) (js : List Record) → AreWritten [] js → Stands own js (state_of own js)
unfolding state_of numbers_in_force openings reference_list deposit_of unanswered_request
state_stands own js written = stands_all own [] js _ (record {
  numbers = refl;
  openings_are = refl;
  copies = λ au. refl;
  polls = refl;
  apart = tt;
  refs = refl;
  idle = λ n e. absurd cc;
  voter = takes_none own.rules;
}) written
