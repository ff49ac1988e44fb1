-- What stands before a mark says nothing of a poll with a higher number.
use Rattle.std.proofs.Common.{◌≡◌, ◌∙◌, ◌≤◌, ◌<◌, ◌+◌, ◌++◌, ap, sym, subst, ℕ, max, Bool, true, false, cond, List}
use Rattle.std.proofs.Common.{[], ◌∷◌, length, take, drop, refl, arith}
use Rattle.std.specs.Prelude.{Option, Some, None, is_some, unwrap_or, option_map, nat_lt, ◌==◌, ◌||◌, filter}
use Rattle.std.specs.List.{All, list_any, filter_map, cons_option}
use Rattle.std.proofs.lemmas.Bool.{eqb-true, ltb-true}
use Rattle.std.proofs.lemmas.List.{take-append-drop, take-append-le, length-append}
use Rattle.std.proofs.Math.Seq.{take-append_seam}
use Rattle.std.proofs.lemmas.List.Elements.{All-head, All-tail, All-push, All-weaker}
use Rattle.std.proofs.lemmas.List.Sums.{sum_by-cons}
use Rattle.lks_base.specs.Checking.{has_member}
use Rattle.lks_base.specs.declared.plans.Plan.{Plan}
use Rattle.lks_base.specs.declared.records.Record.{Record}
use Rattle.lks_law.specs.Journal.{Opening, Opened, Told, Repair, said_by, opening_if, opening_in, opening_of, vote_in}
use Rattle.lks_law.specs.Journal.{told_of, shuts, is_shut, is_number}
use Rattle.lks_law.specs.Polls.{votes, inner_votes}
use Rattle.lks_tally.specs.declared.ballots.Vote.{Vote}
use Rattle.lks_evidence.specs.declared.findings.Shelf.{Shelf}
use Rattle.lks_evidence.specs.declared.marks.ReadMark.{ReadMark}
use Rattle.lks_base.specs.declared.records.Record.TheVariants.{Deposit, PollOpened, Nominated, OuterOpened, VoteIn}
use Rattle.lks_base.specs.declared.records.Record.TheVariants.{Shut, Asked, RepairBad, Replaced, Closed, Overdue}
use Rattle.lks_base.specs.declared.records.Record.TheVariants.{Joined, Committed, Voted, Served, Ended, Tuned}
use Rattle.lks_evidence.specs.Marks.{polled_in, AtMost, IsUpTo, IsMark, recent_records, mark_after}
use Rattle.lks_evidence.specs.Records.{openings, repair_in}
use Rattle.lks_evidence.specs.Rules.{is_polled}
use Rattle.lks_evidence.specs.Recounts.{recount_by, recount_if, recount_of}

-- a record of no poll above a number says nothing of a poll above it
record Silent (n : ℕ) (r : Record) : Type 0 where
  no_opening : opening_in n r ≡ None
  no_vote : vote_in n r ≡ None
  no_shut : shuts n r ≡ false

other : (k n high : ℕ) → k ≤ high → high < n → (k == n) ≡ false
other k n high small above = by_test (k == n) refl
  where
    by_test : (t : Bool) → (k == n) ≡ t → (k == n) ≡ false
    by_test true e = absurd (omega (arith, small, above, eqb-true k n e))
    by_test false e = e

silent : (n high : ℕ) (r : Record) → high < n → IsUpTo high r → Silent n r
silent n high r above upto = record {
  no_opening = by_opened (said_by r).opened upto.0;
  no_vote = by_voted (said_by r).voted upto.1;
  no_shut = by_shut (said_by r).shut upto.2;
}
  where
    by_opened : (o : Option Opened) → AtMost high (option_map (λ o. o.number) o) → opening_if n o ≡ None
    by_opened None small = refl
    by_opened (Some o) small = rw (other o.number n high small above) refl

    by_voted : (o : Option (Told Vote)) → AtMost high (option_map (λ t. t.number) o) → told_of n o ≡ None
    by_voted None small = refl
    by_voted (Some t) small = rw (other t.number n high small above) refl

    by_shut : (o : Option ℕ) → AtMost high o → is_number o n ≡ false
    by_shut None small = refl
    by_shut (Some k) small = other k n high small above

openings-cons : (n : ℕ) (x : Record) (js : List Record)
    → openings n (x ∷ js) ≡ cond (is_some (opening_in n x)) 1 0 + openings n js
unfolding openings
openings-cons n x js = sum_by-cons (λ r. cond (is_some (opening_in n r)) 1 0) x js

-- Words on a poll, over what stands before and what is recent.

module _ (n high : ℕ) (above : high < n) (ys : List Record) where
  opening_recent : (xs : List Record) → All (IsUpTo high) xs → opening_of n (xs ++ ys) ≡ opening_of n ys
  unfolding opening_of
  opening_recent [] upto = refl
  opening_recent (x ∷ xs) upto =
      ap (λ o. cond (is_some o) o (opening_of n (xs ++ ys)))
      (silent n high x above (All-head (IsUpTo high) x xs upto)).no_opening
      ∙ opening_recent xs (All-tail (IsUpTo high) x xs upto)

  openings_recent : (xs : List Record) → All (IsUpTo high) xs → openings n (xs ++ ys) ≡ openings n ys
  openings_recent [] upto = refl
  openings_recent (x ∷ xs) upto =
      omega (
        arith,
        openings-cons n x (xs ++ ys),
        ap {B = ℕ} (λ o. cond (is_some o) 1 0) (silent n high x above (All-head (IsUpTo high) x xs upto)).no_opening,
        openings_recent xs (All-tail (IsUpTo high) x xs upto),
      )

  shut_recent : (xs : List Record) → All (IsUpTo high) xs → is_shut n (xs ++ ys) ≡ is_shut n ys
  unfolding is_shut
  shut_recent [] upto = refl
  shut_recent (x ∷ xs) upto =
      ap (λ t. t || list_any (shuts n) (xs ++ ys)) (silent n high x above (All-head (IsUpTo high) x xs upto)).no_shut
      ∙ shut_recent xs (All-tail (IsUpTo high) x xs upto)

  votes_recent : (xs : List Record) → All (IsUpTo high) xs → votes n (xs ++ ys) ≡ votes n ys
  unfolding votes
  votes_recent [] upto = refl
  votes_recent (x ∷ xs) upto =
      ap (λ o. cons_option o (filter_map (vote_in n) (xs ++ ys)))
      (silent n high x above (All-head (IsUpTo high) x xs upto)).no_vote
      ∙ votes_recent xs (All-tail (IsUpTo high) x xs upto)

  inner_recent : (inner : List ℕ) (xs : List Record) → All (IsUpTo high) xs
      → inner_votes n inner (xs ++ ys) ≡ inner_votes n inner ys
  unfolding inner_votes
  inner_recent inner xs upto = ap (filter (λ v. has_member inner v.voter)) (votes_recent xs upto)

-- a poll is recounted by what is recent as by all
module _ (plan : Plan) (set : List Shelf) (poller : ℕ) (copy : List (List ℕ)) (r : Repair) where
  same_on : (high : ℕ) (xs ys : List Record) → high < r.number → All (IsUpTo high) xs
      → recount_of plan set poller ys copy r ≡ recount_of plan set poller (xs ++ ys) copy r
  unfolding recount_of recount_by is_polled
  same_on high xs ys above upto =
      by_opening (opening_of r.number ys)
      ∙ ap (recount_if plan set poller (xs ++ ys) copy r) (sym (opening_recent r.number high above ys xs upto))
    where
      by_opening : (o : Option Opening)
          → recount_if plan set poller ys copy r o ≡ recount_if plan set poller (xs ++ ys) copy r o
      by_opening None = refl
      by_opening (Some o) =
          rw (
            openings_recent r.number high above ys xs upto,
            shut_recent r.number high above ys xs upto,
            inner_recent r.number high above ys o.inner xs upto,
          ) refl

  pub recent_is : (before : List Record) (m : ReadMark) → IsMark before m
      → recount_of plan set poller (recent_records m r.number before) copy r ≡ recount_of plan set poller before copy r
  recent_is before m is = by_test (nat_lt m.high r.number) refl
    where
      by_test : (t : Bool) → nat_lt m.high r.number ≡ t
          → recount_of plan set poller (cond t (drop m.place before) before) copy r
          ≡ recount_of plan set poller before copy r
      by_test false e = refl
      by_test true e =
          same_on m.high (take m.place before) (drop m.place before) (ltb-true m.high r.number e) is.marked
          ∙ ap (λ js. recount_of plan set poller js copy r) (take-append-drop m.place before)

-- One record more.

upto_own : (r : Record) → IsUpTo (unwrap_or (polled_in r) 0) r
unfolding polled_in
upto_own (Deposit au blocks) = (tt, tt, tt)
upto_own (PollOpened number au nonce inner tick limits kind) = (omega arith, tt, tt)
upto_own (Nominated number voter nominees) = (tt, tt, tt)
upto_own (OuterOpened number outer) = (tt, tt, tt)
upto_own (VoteIn number voter hashes) = (tt, omega arith, tt)
upto_own (Shut number) = (tt, tt, omega arith)
upto_own (Asked number block voter) = (tt, tt, tt)
upto_own (RepairBad number block voter) = (tt, tt, tt)
upto_own (Replaced number au block bytes) = (tt, tt, tt)
upto_own (Closed number outcome tick) = (tt, tt, tt)
upto_own (Overdue au tick) = (tt, tt, tt)
upto_own (Joined poll au tick low repairs) = (tt, tt, tt)
upto_own (Committed poll nonce version kind) = (tt, tt, tt)
upto_own (Voted poll hashes) = (tt, tt, tt)
upto_own (Served poll block) = (tt, tt, tt)
upto_own (Ended poll) = (tt, tt, tt)
upto_own (Tuned quorum minority repairs) = (tt, tt, tt)

more : (a b : ℕ) (o : Option ℕ) → a ≤ b → AtMost a o → AtMost b o
more a b None less small = tt
more a b (Some n) less small = omega (arith, less, small)

upto_more : (a b : ℕ) → a ≤ b → (r : Record) → IsUpTo a r → IsUpTo b r
upto_more a b less r upto = (more a b _ less upto.0, more a b _ less upto.1, more a b _ less upto.2)

pub mark_on : (before : List Record) (m : ReadMark) (item : Record) → IsMark before m
    → IsMark (before ++ item ∷ []) (mark_after (length before) m item)
unfolding mark_after
mark_on before m item is = by_test (is_some (repair_in item))
  where
    seen : ℕ
    seen = max m.seen (unwrap_or (polled_in item) 0)

    all : All (IsUpTo seen) (before ++ item ∷ [])
    all =
        All-push (IsUpTo seen) before item
        (All-weaker (IsUpTo m.seen) (IsUpTo seen) (upto_more m.seen seen (omega arith)) before is.seen)
        (upto_more (unwrap_or (polled_in item) 0) seen (omega arith) item (upto_own item))

    longer : length (before ++ item ∷ []) ≡ length before + 1
    longer = length-append before (item ∷ [])

    by_test : (t : Bool)
        → IsMark (before ++ item ∷ [])
        (cond t (record { place = length before; high = m.seen; seen = seen })
        (record { place = m.place; high = m.high; seen = seen }))
    by_test true = record {
      within = omega (arith, longer);
      marked = subst (All (IsUpTo m.seen)) (sym (take-append_seam before (item ∷ []))) is.seen;
      seen = all;
    }
    by_test false = record {
      within = omega (arith, longer, is.within);
      marked = subst (All (IsUpTo m.high)) (sym (take-append-le m.place before (item ∷ []) is.within)) is.marked;
      seen = all;
    }
