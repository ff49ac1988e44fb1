-- Every journal is written as the rules have it.
use Rattle.std.proofs.Common.{◌≡◌, ◌≤◌, ◌+◌, ◌∙◌, inl, inr, ap, sym, subst, ℕ, Bool, true, false, cond, eqb, List, []}
use Rattle.std.proofs.Common.{◌∷◌, ◌++◌, length, refl, arith}
use Rattle.std.specs.Prelude.{Option, Some, None, is_some, not, map, ◌&&◌, ◌||◌, slice_get}
use Rattle.std.specs.List.{list_any, list_all, filter_map, cons_option}
use Rattle.std.proofs.lemmas.Bool.{and_parts, and_from, not_from_false, both_ways, eqb-true}
use Rattle.std.proofs.lemmas.List.{append-nil, append_assoc}
use Rattle.std.proofs.lemmas.List.Folds.{list_any-append, list_all-append}
use Rattle.lks_base.specs.declared.events.Event.{Event}
use Rattle.lks_base.specs.declared.messages.Message.{Message}
use Rattle.lks_base.specs.declared.messages.Message.TheVariants as message
use Rattle.lks_base.specs.declared.names.HashKind.{HashKind}
use Rattle.lks_base.specs.declared.names.Judged.{Judged}
use Rattle.lks_base.specs.declared.names.Limits.{Limits}
use Rattle.lks_base.specs.declared.names.Outcome.{Outcome}
use Rattle.lks_base.specs.declared.names.Outcome.TheVariants as outcome
use Rattle.lks_base.specs.declared.plans.AuPlan.{AuPlan}
use Rattle.lks_base.specs.declared.plans.Holding.{Holding}
use Rattle.lks_base.specs.declared.plans.PeerPlan.{PeerPlan}
use Rattle.lks_base.specs.declared.plans.Plan.{Plan}
use Rattle.lks_base.specs.declared.reactions.Input.{Input}
use Rattle.lks_base.specs.declared.reactions.Input.TheVariants as input
use Rattle.lks_base.specs.declared.reactions.Reaction.{Reaction}
use Rattle.lks_base.specs.declared.records.Record.{Record}
use Rattle.lks_base.specs.declared.records.Record.TheVariants as records
use Rattle.lks_law.specs.Facts.{Heard, AddsFor, GoesBy, IsJournalOf, HasJournal, unnumbered}
use Rattle.lks_law.specs.Journal.{Opening, Request, opening_of, openings, is_opening, is_closed, is_running}
use Rattle.lks_law.specs.Journal.{is_voting, is_shut, is_widened, asks_any, shuts, unanswered_after}
use Rattle.lks_law.specs.Journal.{unanswered_request}
use Rattle.lks_law.specs.Polls.{Station, verdict_in, candidate, restores}
use Rattle.lks_law.specs.Reaction.{no_effect, for_opening, may_open, on_open, invites_outer, on_widen}
use Rattle.lks_law.specs.Reaction.{is_inquorate, shut_inquorate, on_shut, may_tally, closes_poll}
use Rattle.lks_law.specs.Reaction.{asks_supplier, follows_verdict, on_tally, must_note, overdue_in, on_check}
use Rattle.lks_law.specs.Reaction.{reminds_silent, asked_again, on_nudge, given_up, on_give_up, may_prove}
use Rattle.lks_law.specs.Reaction.{sends_proof, on_challenge, may_nominate, notes_nominees, on_nominate, is_accepted}
use Rattle.lks_law.specs.Reaction.{may_vote, counts_vote, on_vote, may_repair, takes_repair, on_repair}
use Rattle.lks_law.specs.Table.{reaction, on_message}
use Rattle.lks_law.specs.World.{Standing, deposit_for, deposits, world}
use Rattle.lks_law.specs.Written.{is_deposit, is_of, MayFollow, AreWritten}
use Rattle.lks_law.proofs.Grown.{openings_more, closed_more, shut_more, unanswered_more}
use Rattle.lks_law.proofs.Journals.{journals_are_own}
use Rattle.lks_law.proofs.Rows.{voting_parts, tally_parts}
use Rattle.lks_law.proofs.RunningPolls.{unnamed}
use Rattle.lks_law.proofs.Standing.{state_stands}
use Rattle.lks_tally.specs.declared.ballots.Verdict.{Verdict}
use Rattle.lks_tally.specs.declared.ballots.Verdict.TheVariants as verdict
use Rattle.lks_law.specs.Voting.{poll_named}
use Rattle.lks_law.proofs.VoterAdds.{IsVoters, VoterMay, VoterAdds, unnumbered_adds, invitation_adds, proof_adds}
use Rattle.lks_law.proofs.VoterAdds.{work_adds, request_adds, end_adds, tune_adds}

-- no record names a poll that isn't opened
abbrev IsNamed : List Record → Type 0
IsNamed js = (n : ℕ) → list_any (is_of n) js ≡ true → n ≤ openings js

-- a poll with a request that is unanswered is shut
abbrev WaitsShut : List Record → Type 0
WaitsShut js = (n : ℕ) → is_some (unanswered_request n js) ≡ true → is_shut n js ≡ true

record Proper (js : List Record) : Type 0 where
  written : AreWritten [] js
  named : IsNamed js
  waits : WaitsShut js

record MayAdd (js : List Record) (r : Record) : Type 0 where
  follows : MayFollow js r
  named : (n : ℕ) → is_of n r ≡ true → n ≤ openings (js ++ r ∷ [])
  over : (n : ℕ) → asks_any n r ≡ true → is_shut n js ≡ true

abbrev MayAll : List Record → List Record → Type 0
MayAll js [] = Unit {0}
MayAll js (r ∷ rs) = MayAdd js r × MayAll (js ++ r ∷ []) rs

-- A proper journal and one record more.

pub written_more : (before js : List Record) (r : Record) → AreWritten before js → MayFollow (before ++ js) r
    → AreWritten before (js ++ r ∷ [])
written_more before [] r written follows = (subst (λ front. MayFollow front r) (append-nil before) follows, tt)
written_more before (j ∷ js) r written follows = (
  written.0,
  written_more _ js r written.1
      (subst (λ front. MayFollow front r) (sym (append_assoc before _ js)) follows),
)

named_more : (js : List Record) (r : Record) → IsNamed js → MayAdd js r → IsNamed (js ++ r ∷ [])
named_more js r named may n e = by_test (list_any _ js) refl (sym (list_any-append _ js _) ∙ e)
  where
    last : (b : Bool) → (b || false) ≡ true → b ≡ true
    last true e = refl
    last false e = absurd cc

    by_test : (b : Bool) → list_any (is_of n) js ≡ b → (b || (is_of n r || false)) ≡ true → n ≤ openings (js ++ r ∷ [])
    by_test true was e =
        let low = named n was in
        let count : openings _ ≡ openings js + cond (is_opening r) 1 0 = openings_more js r in
        omega (arith, low, count)
    by_test false was e = may.named n (last (is_of n r) e)

waits_more : (js : List Record) (r : Record) → WaitsShut js → MayAdd js r → WaitsShut (js ++ r ∷ [])
waits_more js r waits may n e = shut_more n js r ∙ by_record r may.over (sym (ap is_some (unanswered_more n js r)) ∙ e)
  where
    by_record : (r : Record) → ((m : ℕ) → asks_any m r ≡ true → is_shut m js ≡ true)
        → is_some (unanswered_after n (unanswered_request n js) r) ≡ true
        → cond (shuts n r) true (is_shut n js) ≡ true
    by_record (records.Asked number block voter) over e = by_number (eqb number n) refl e
      where
        by_number : (b : Bool) → eqb number n ≡ b
            → is_some (cond b (Some (record { block = block; voter = voter })) (unanswered_request n js)) ≡ true
            → is_shut n js ≡ true
        by_number true same e = over n same
        by_number false same e = waits n e
    by_record (records.RepairBad number block voter) over e = by_number (eqb number n) e
      where
        by_number : (b : Bool) → is_some (cond b None (unanswered_request n js)) ≡ true → is_shut n js ≡ true
        by_number true e = absurd cc
        by_number false e = waits n e
    by_record (records.Replaced number au block bytes) over e = by_number (eqb number n) e
      where
        by_number : (b : Bool) → is_some (cond b None (unanswered_request n js)) ≡ true → is_shut n js ≡ true
        by_number true e = absurd cc
        by_number false e = waits n e
    by_record (records.Shut number) over e = by_number (eqb number n)
      where
        by_number : (b : Bool) → cond b true (is_shut n js) ≡ true
        by_number true = refl
        by_number false = waits n e
    by_record r over e = waits n e

proper_more : (js : List Record) (r : Record) → Proper js → MayAdd js r → Proper (js ++ r ∷ [])
proper_more js r proper may = record {
  written = written_more [] js r proper.written may.follows;
  named = named_more js r proper.named may;
  waits = waits_more js r proper.waits may;
}

proper_all : (js added : List Record) → Proper js → MayAll js added → Proper (js ++ added)
proper_all js [] proper may = subst Proper (sym (append-nil js)) proper
proper_all js (r ∷ rs) proper may =
    subst Proper (append_assoc js _ rs) (proper_all _ rs (proper_more js r proper may.0) may.1)

-- Records of a poll that was opened, with their numbers or without.

abbrev MayBoth : List Record → List Record → Type 0
MayBoth js rs = MayAll js rs × MayAll js (map unnumbered rs)

alike : (js rs : List Record) → map unnumbered rs ≡ rs → MayAll js rs → MayBoth js rs
alike js rs same may = (may, subst (MayAll js) (sym same) may)

module _ (own : Station) (js : List Record) (proper : Proper js) where
  -- a poll that was opened has a low number
  low_of : (n : ℕ) (o : Opening) → opening_of n js ≡ Some o → n ≤ openings js
  low_of n o opened = by_test (list_any (is_of n) js) refl
    where
      by_test : (b : Bool) → list_any (is_of n) js ≡ b → n ≤ openings js
      by_test true e = proper.named n e
      by_test false e = absurd (let both : None ≡ Some o = sym (unnamed n js e).unopened ∙ opened in cc)

  low_in : (n : ℕ) (o : Opening) (r : Record) → opening_of n js ≡ Some o → ((m : ℕ) → is_of m r ≡ eqb n m) → (m : ℕ)
      → is_of m r ≡ true → m ≤ openings (js ++ r ∷ [])
  low_in n o r opened names m e =
      let same : n ≡ m = eqb-true n m (sym (names m) ∙ e) in
      let low = low_of n o opened in
      let count : openings _ ≡ openings js + cond (is_opening r) 1 0 = openings_more js r in
      omega (arith, same, low, count)

  -- a record that only names a poll that was opened
  one_may : (n : ℕ) (o : Opening) (r : Record) → opening_of n js ≡ Some o → MayFollow js r
      → ((m : ℕ) → is_of m r ≡ eqb n m) → ((m : ℕ) → asks_any m r ≡ true → is_shut m js ≡ true) → MayAdd js r
  one_may n o r opened follows names over =
      record { follows = follows; named = low_in n o r opened names; over = over }

  opened_when : (n : ℕ) → is_running n js ≡ true → (o : Opening) × (opening_of n js ≡ Some o)
  unfolding is_running
  opened_when n runs = by_opening (opening_of n js) refl (and_parts _ _ runs).0
    where
      by_opening : (o : Option Opening) → opening_of n js ≡ o → is_some o ≡ true
          → (o : Opening) × (opening_of n js ≡ Some o)
      by_opening None opened e = absurd cc
      by_opening (Some o) opened e = (o, opened)

  idle : (n : ℕ) (r : Request) → unanswered_request n js ≡ Some r → (o : Opening) × (opening_of n js ≡ Some o)
  idle n r waits = opened_when n ((state_stands own js proper.written).idle n (ap is_some waits))

  free : (n : ℕ) → is_shut n js ≡ false → unanswered_request n js ≡ None
  free n voting = by_request (unanswered_request n js) refl
    where
      by_request : (r : Option Request) → unanswered_request n js ≡ r → r ≡ None
      by_request None e = refl
      by_request (Some r) e = absurd (both_ways _ voting (proper.waits n (ap is_some e)))

  if_may : (b : Bool) (r : Reaction) → (b ≡ true → MayBoth js r.records) → MayBoth js (cond b r no_effect).records
  if_may true r may = may refl
  if_may false r may = (tt, tt)

  at_opening : (o : Option Opening) (f : Opening → Reaction)
      → ((x : Opening) → o ≡ Some x → MayBoth js (f x).records) → MayBoth js (for_opening o f).records
  at_opening None f may = (tt, tt)
  at_opening (Some x) f may = may x refl

  opening_may : (au : ℕ) (nonce inner : List ℕ) (tick : ℕ) (limits : Option Limits) (kind : HashKind)
      → MayAdd js (records.PollOpened (openings js + 1) au nonce inner tick limits kind)
  opening_may au nonce inner tick limits kind = record {
    follows = by_test (list_any _ js) refl;
    named = λ n e.
        let same : openings js + 1 ≡ n = eqb-true _ n e in
        let count : openings _
        ≡ openings js
        + 1 = openings_more js (records.PollOpened (openings js + 1) au nonce inner tick limits kind) in
        omega (arith, same, count);
    over = λ n e. absurd cc;
  }
    where
      by_test : (b : Bool) → list_any (is_of (openings js + 1)) js ≡ b → b ≡ false
      by_test true e = absurd (let low = proper.named _ e in omega (arith, low))
      by_test false e = refl

  open_may : (tick au : ℕ) → MayBoth js (on_open own js tick au).records
  unfolding on_open
  open_may tick au = if_may (may_open own js tick au) _ (λ may. (
    (opening_may au _ _ tick _ own.hash, tt),
    (opening_may au _ _ tick _ own.hash, tt),
  ))

  widen_may : (n : ℕ) → MayBoth js (on_widen own js n).records
  unfolding on_widen
  widen_may n =
      if_may _ (for_opening (opening_of n js) (invites_outer own js n)) (λ may. at_opening _ _
      (λ o opened. alike js (invites_outer own js n o).records refl
      (one_may n o _ opened tt (λ m. refl) (λ m e. absurd cc), tt)))

  shut_may : (tick n : ℕ) → MayBoth js (on_shut own js tick n).records
  unfolding on_shut
  shut_may tick n = if_may _ _ (λ voting.
      at_opening _ _ (λ o opened. by_quorum (is_inquorate own n o js) o opened (voting_parts n js voting)))
    where
      first : (o : Opening) → opening_of n js ≡ Some o → MayAdd js (records.Shut n)
      first o opened = one_may n o _ opened tt (λ m. refl) (λ m e. absurd cc)

      second : (o : Opening) → opening_of n js ≡ Some o → (is_closed n js ≡ false) × (is_shut n js ≡ false)
          → MayAdd (js ++ records.Shut n ∷ []) (records.Closed n outcome.Inquorate tick)
      second o opened voting = record {
        follows =
            (closed_more n js _ ∙ voting.0, unanswered_more n js _ ∙ free n voting.1);
        named = λ m e.
            let same : n ≡ m = eqb-true n m e in
            let low = low_of n o opened in
            let one = openings_more js (records.Shut n) in
            let two = openings_more (js ++ records.Shut n ∷ []) (records.Closed n outcome.Inquorate tick) in
            omega (arith, same, low, one, two);
        over = λ m e. absurd cc;
      }

      by_quorum : (b : Bool) (o : Opening) → opening_of n js ≡ Some o
          → (is_closed n js ≡ false) × (is_shut n js ≡ false)
          → MayBoth js
          (cond {A = Reaction} b (shut_inquorate js tick n)
          (record { records = records.Shut n ∷ []; sends = [] })).records
      by_quorum true o opened voting =
          alike js (shut_inquorate js tick n).records refl (first o opened, (second o opened voting, tt))
      by_quorum false o opened voting = alike js (records.Shut n ∷ []) refl (first o opened, tt)

  tally_may : (tick n : ℕ) → MayBoth js (on_tally own js tick n).records
  unfolding on_tally closes_poll is_running
  tally_may tick n = if_may _ _ (λ may. at_opening _ _ (λ o opened. by_verdict may o opened (verdict_in own n o js)))
    where
      closes : may_tally n js ≡ true → (o : Opening) → opening_of n js ≡ Some o → (how : Outcome)
          → MayBoth js (closes_poll js tick n how).records
      closes may o opened how =
          let parts = tally_parts n js may in
          alike js (closes_poll js tick n how).records refl (
            one_may n o _ opened (parts.runs, parts.free) (λ m. refl)
                (λ m e. absurd cc),
            tt,
          )

      runs : may_tally n js ≡ true → (o : Opening) → opening_of n js ≡ Some o → is_running n js ≡ true
      runs may o opened = and_from _ _ (ap is_some opened) (not_from_false _ (tally_parts n js may).runs)

      by_candidate : may_tally n js ≡ true → (o : Opening) → opening_of n js ≡ Some o → (b : ℕ) (v : Option ℕ)
          → MayBoth js (asks_supplier js tick n b v).records
      by_candidate may o opened b None = closes may o opened (outcome.NoSupplier b)
      by_candidate may o opened b (Some v) =
          alike js (asks_supplier js tick n b (Some v)).records refl (
            one_may n o _ opened (runs may o opened) (λ m. refl)
                (λ m e. ap (λ k. is_shut k js) (sym (eqb-true n m e)) ∙ (tally_parts n js may).over),
            tt,
          )

      by_verdict : may_tally n js ≡ true → (o : Opening) → opening_of n js ≡ Some o → (v : Verdict)
          → MayBoth js (follows_verdict own js tick n o v).records
      by_verdict may o opened verdict.Inquorate = (tt, tt)
      by_verdict may o opened verdict.Agreed = closes may o opened outcome.Agreed
      by_verdict may o opened (verdict.Split b) = closes may o opened (outcome.Split b)
      by_verdict may o opened (verdict.Loss b) = by_candidate may o opened b (candidate own n o b js)

  give_up_may : (n : ℕ) → MayBoth js (on_give_up js n).records
  unfolding on_give_up
  give_up_may n = by_request (unanswered_request n js) refl
    where
      by_request : (r : Option Request) → unanswered_request n js ≡ r → MayBoth js (given_up n r).records
      by_request None e = (tt, tt)
      by_request (Some r) e =
          let found = idle n r e in
          alike js (given_up n (Some r)).records refl (
            one_may n found.0 _ found.1 tt (λ m. refl) (λ m e. absurd cc),
            tt,
          )

  nudge_may : (n : ℕ) → MayBoth js (on_nudge js n).records
  unfolding on_nudge
  nudge_may n = either (is_voting n js)
    where
      by_request : (r : Option Request) → MayBoth js (asked_again n r).records
      by_request None = (tt, tt)
      by_request (Some r) = (tt, tt)

      either : (b : Bool)
          → MayBoth js
          (cond b (for_opening (opening_of n js) (reminds_silent js n))
          (asked_again n (unanswered_request n js))).records
      either true = at_opening (opening_of n js) _ _
      either false = by_request (unanswered_request n js)

  voter_may : (r : Record) → VoterMay js r → MayAdd js r
  voter_may r may =
      record {
        follows = may.follows;
        named = λ n e. absurd (not_own r may.voters n e);
        over = λ n e. absurd (not_asking r may.voters n e);
      }
    where
      not_own : (r : Record) → IsVoters r → (n : ℕ) → is_of n r ≡ true → ⊥
      not_own (records.Joined poll au tick low repairs) is n e = absurd cc
      not_own (records.Committed poll nonce version kind) is n e = absurd cc
      not_own (records.Voted poll hashes) is n e = absurd cc
      not_own (records.Served poll block) is n e = absurd cc
      not_own (records.Ended poll) is n e = absurd cc
      not_own (records.Tuned quorum minority repairs) is n e = absurd cc
      not_own r is n e = absurd is

      not_asking : (r : Record) → IsVoters r → (n : ℕ) → asks_any n r ≡ true → ⊥
      not_asking (records.Joined poll au tick low repairs) is n e = absurd cc
      not_asking (records.Committed poll nonce version kind) is n e = absurd cc
      not_asking (records.Voted poll hashes) is n e = absurd cc
      not_asking (records.Served poll block) is n e = absurd cc
      not_asking (records.Ended poll) is n e = absurd cc
      not_asking (records.Tuned quorum minority repairs) is n e = absurd cc
      not_asking r is n e = absurd is

  one_half : (rs : List Record) → VoterAdds js rs → MayAll js rs
  one_half [] may = tt
  one_half (r ∷ []) may = (voter_may r may, tt)
  one_half (r ∷ s ∷ rs) may = absurd may

  voters_may : (rs : List Record) → VoterAdds js rs → MayBoth js rs
  voters_may rs may = (one_half rs may, one_half _ (unnumbered_adds js rs may))

  message_may : (tick from : ℕ) (m : Message) (judged : Judged)
      → MayBoth js (on_message own js tick from m judged).records
  unfolding on_challenge on_nominate on_vote on_repair
  message_may tick from (message.PollChallenge n agrees) judged =
      if_may _ (for_opening (opening_of n js) (sends_proof own js from n)) (λ may. at_opening (opening_of n js) _
      (λ o opened. if_may (may_prove js from n o) _ (λ e. (tt, tt))))
  message_may tick from (message.Nominate n nominees) judged =
      if_may (is_voting n js && not (is_widened n js))
      (for_opening (opening_of n js) (notes_nominees js from n nominees)) (λ may.
      at_opening _ (notes_nominees js from n nominees) (λ o opened. if_may (may_nominate js from n o) _ (λ e.
      alike js (records.Nominated n from nominees ∷ []) refl
      (one_may n o _ opened tt (λ m. refl) (λ m e. absurd cc), tt))))
  message_may tick from (message.Vote n hashes proof) judged =
      if_may (is_accepted judged && is_voting n js) (for_opening (opening_of n js) (counts_vote js from n hashes))
      (λ may. at_opening (opening_of n js) _ (λ o opened. if_may (may_vote js from n (length hashes) o) _ (λ e.
      alike js (records.VoteIn n from hashes ∷ []) refl
      (one_may n o _ opened tt (λ m. refl) (λ m e. absurd cc), tt))))
  message_may tick from (message.Repair n b bytes) judged =
      if_may (may_repair js from n b) (for_opening (opening_of n js) (takes_repair own js from n b bytes)) (λ may.
      at_opening (opening_of n js) _ (λ o opened. either (restores own n o b bytes js) o opened))
    where
      either : (t : Bool) (o : Opening) → opening_of n js ≡ Some o
          → MayBoth js
          (cond {A = Reaction} t (record { records = records.Replaced n o.au b bytes ∷ []; sends = [] })
          (record { records = records.RepairBad n b from ∷ []; sends = [] })).records
      either true o opened =
          alike js (records.Replaced n o.au b bytes ∷ []) refl
          (one_may n o _ opened tt (λ m. refl) (λ m e. absurd cc), tt)
      either false o opened =
          alike js (records.RepairBad n b from ∷ []) refl
          (one_may n o (records.RepairBad n b from) opened tt (λ m. refl) (λ m e. absurd cc), tt)
  message_may tick from (message.Poll n au) judged = voters_may _ (invitation_adds own js tick (poll_named from n) au)
  message_may tick from (message.PollProof n nonce kind proof) judged =
      voters_may _ (proof_adds own js (poll_named from n) nonce kind judged)
  message_may tick from (message.RepairRequest n b) judged = voters_may _ (request_adds own js _ b)
  message_may tick from (message.Receipt n) judged = voters_may _ (end_adds own js (poll_named from n))

noted_may : (own : Station) (all js : List Record) (tick : ℕ) (aus : List AuPlan)
    → MayBoth js (filter_map (overdue_in own all tick) aus)
noted_may own all js tick [] = (tt, tt)
noted_may own all js tick (au ∷ aus) = first (must_note own all tick au.id) (λ later. noted_may own all later tick aus)
  where
    one : MayAdd js (records.Overdue au.id tick)
    one = record { follows = tt; named = λ n e. absurd cc; over = λ n e. absurd cc }

    first : (b : Bool) → ((later : List Record) → MayBoth later (filter_map (overdue_in own all tick) aus))
        → MayBoth js
        (cons_option (cond b (Some (records.Overdue au.id tick)) None)
        (filter_map (overdue_in own all tick) aus))
    first true rest = let later = rest _ in ((one, later.0), (one, later.1))
    first false rest = rest js

reaction_may : (own : Station) (js : List Record) (tick : ℕ) (i : Input) → Proper js
    → MayBoth js (reaction own js tick i).records
unfolding reaction on_check
reaction_may own js tick (input.OpenPoll au) proper = open_may own js proper tick au
reaction_may own js tick (input.Widen n) proper = widen_may own js proper n
reaction_may own js tick (input.Shut n) proper = shut_may own js proper tick n
reaction_may own js tick (input.Tally n) proper = tally_may own js proper tick n
reaction_may own js tick (input.Nudge n) proper = nudge_may own js proper n
reaction_may own js tick (input.GiveUp n) proper = give_up_may own js proper n
reaction_may own js tick input.Check proper = noted_may own js js tick own.aus
reaction_may own js tick (input.Got from m judged) proper = message_may own js proper tick from m judged
reaction_may own js tick (input.Work q) proper = voters_may own js proper _ (work_adds own js q)
reaction_may own js tick (input.Expire q) proper = voters_may own js proper _ (end_adds own js q)
reaction_may own js tick (input.Tune quorum minority repairs) proper =
    voters_may own js proper _ (tune_adds own js quorum minority repairs)

-- The beginning: deposits alone.

held_are : (au : AuPlan) (copies : List Holding) → list_all is_deposit (filter_map (deposit_for au) copies) ≡ true
held_are au [] = refl
held_are au (copy ∷ copies) = first (eqb copy.au au.id) (held_are au copies)
  where
    first : (b : Bool) → list_all is_deposit (filter_map (deposit_for au) copies) ≡ true
        → list_all is_deposit
        (cons_option (cond b (Some (records.Deposit au.id copy.blocks)) None)
        (filter_map (deposit_for au) copies))
        ≡ true
    first true rest = rest
    first false rest = rest

pub deposits_are : (aus : List AuPlan) (copies : List Holding) → list_all is_deposit (deposits aus copies) ≡ true
unfolding deposits
deposits_are [] copies = refl
deposits_are (au ∷ aus) copies =
    list_all-append is_deposit (filter_map _ copies) _
    ∙ ap (λ b. b && list_all is_deposit (deposits aus copies)) (held_are au copies) ∙ deposits_are aus copies

deposits_written : (before js : List Record) → list_all is_deposit before ≡ true → list_all is_deposit js ≡ true
    → AreWritten before js
deposits_written before [] all more = tt
deposits_written before (records.Deposit au blocks ∷ js) all more = (
  all,
  deposits_written _ js
      (list_all-append is_deposit before _ ∙ ap (λ b. b && true) all) more,
)
deposits_written before (j ∷ js) all more = absurd cc

none_named : (n : ℕ) (js : List Record) → list_all is_deposit js ≡ true → list_any (is_of n) js ≡ false
none_named n [] all = refl
none_named n (records.Deposit au blocks ∷ js) all = none_named n js all
none_named n (j ∷ js) all = absurd cc

none_waits : (n : ℕ) (js : List Record) → list_all is_deposit js ≡ true → unanswered_request n js ≡ None
unfolding unanswered_request
none_waits n [] all = refl
none_waits n (records.Deposit au blocks ∷ js) all = none_waits n js all
none_waits n (j ∷ js) all = absurd cc

proper_deposits : (js : List Record) → list_all is_deposit js ≡ true → Proper js
proper_deposits js all = record {
  written = deposits_written [] js refl all;
  named = λ n e. absurd (both_ways _ (none_named n js all) e);
  waits = λ n e. absurd (both_ways _ (ap is_some (none_waits n js all)) e);
}

-- Every journal.

added_may : (own : Station) (js : List Record) (h : Heard) (added : List Record)
    → MayBoth js (reaction own js h.tick h.input).records → AddsFor own js h added → MayAll js added
added_may own js h added may (inl is) = subst (MayAll js) (sym is) may.0
added_may own js h added may (inr lacks) = subst (MayAll js) (sym lacks.1) may.1

proper_journal : (own : Station) (aus : List AuPlan) (copies : List Holding) (heard : List Heard) (js : List Record)
    → GoesBy own (deposits aus copies) heard js → Proper js
proper_journal own aus copies [] js is = subst Proper (sym is) (proper_deposits _ (deposits_are aus copies))
proper_journal own aus copies (h ∷ hs) js (before, added, goes, heard, adds, is) =
    let proper = proper_journal own aus copies hs before goes in
    subst Proper (sym is)
    (proper_all before added proper
    (added_may own before h added (reaction_may own before h.tick h.input proper) adds))

pub written_by : (own : Station) (aus : List AuPlan) (copies : List Holding) (heard : List Heard) (js : List Record)
    → GoesBy own (deposits aus copies) heard js → AreWritten [] js
written_by own aus copies heard js goes = (proper_journal own aus copies heard js goes).written

pub written_of : (own : Station) (aus : List AuPlan) (copies : List Holding) (tick : ℕ) (js : List Record)
    → IsJournalOf own (deposits aus copies) tick js → AreWritten [] js
written_of own aus copies tick js is = written_by own aus copies is.heard js is.made

pub written_in : (plan : Plan) (history : List Event) (place : ℕ) (s : Standing)
    → slice_get (world plan history).peers place ≡ Some s → AreWritten [] s.journal
written_in plan history place s at =
    by_peer (world plan history).tick _ ((journals_are_own plan history).each place s at)
  where
    by_peer : (tick : ℕ) (p : Option PeerPlan) → HasJournal plan tick p s → AreWritten [] s.journal
    by_peer tick None has = absurd has
    by_peer tick (Some p) has = written_of s.own plan.aus p.copies tick s.journal has.1
