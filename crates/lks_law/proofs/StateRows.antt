-- Each row over the state is the row over the journal.
use Rattle.std.proofs.Common.{◌≡◌, ◌+◌, ◌∙◌, ap, sym, ℕ, Bool, true, false, cond, ltb, not, List, [], ◌∷◌, ◌++◌}
use Rattle.std.proofs.Common.{length, filter, refl}
use Rattle.std.specs.Prelude.{Option, Some, None, is_some, map, find, ◌&&◌, ◌||◌, count_by}
use Rattle.std.specs.List.{list_any, filter_map}
use Rattle.std.proofs.lemmas.Bool.{both_ways}
use Rattle.lks_base.specs.Checking.{has_member}
use Rattle.lks_base.specs.declared.messages.Message.TheVariants as message
use Rattle.lks_base.specs.declared.names.Judged.{Judged}
use Rattle.lks_base.specs.declared.names.Outcome.{Outcome}
use Rattle.lks_base.specs.declared.names.Outcome.TheVariants as outcome
use Rattle.lks_base.specs.declared.plans.AuPlan.{AuPlan}
use Rattle.lks_base.specs.declared.records.Record.{Record}
use Rattle.lks_base.specs.declared.records.Record.TheVariants as records
use Rattle.lks_draw.specs.Picks.{picked_by}
use Rattle.lks_draw.specs.Words.{drawn_from}
use Rattle.lks_hash.specs.Hashes.{nonce_from}
use Rattle.lks_law.specs.Journal.{Opening, Request, deposit_of, contents_of, opening_of, opens_running, opens_open}
use Rattle.lks_law.specs.Journal.{opens_lately, is_voting, is_running, is_shut, is_closed, is_widened, has_nominated}
use Rattle.lks_law.specs.Journal.{has_voted, unanswered_request, is_overdue}
use Rattle.lks_law.specs.Polls.{Station, limits_of, ballot_of, votes, inner_votes, is_invited, verdict_in, candidate}
use Rattle.lks_law.specs.Polls.{said_at, restores}
use Rattle.lks_law.specs.References.{inner_circle, outer_circle}
use Rattle.lks_law.specs.Reaction.{no_effect, letter, for_opening, may_open, on_open, invites_outer, on_widen}
use Rattle.lks_law.specs.Reaction.{silent_voters, reminds_silent, asked_again, on_nudge, given_up, on_give_up}
use Rattle.lks_law.specs.Reaction.{receipts, is_inquorate, ends_voting, on_shut, may_tally, closes_poll}
use Rattle.lks_law.specs.Reaction.{asks_supplier, follows_verdict, on_tally, must_note, on_check, may_prove}
use Rattle.lks_law.specs.Reaction.{sends_proof, on_challenge, may_nominate, notes_nominees, on_nominate, is_accepted}
use Rattle.lks_law.specs.Reaction.{may_vote, counts_vote, on_vote, is_request, may_repair, takes_repair, on_repair}
use Rattle.lks_law.specs.Reacting.{for_poll, if_may, may_open_copy, may_open_in, inner_of, open_in, outer_of_poll}
use Rattle.lks_law.specs.Reacting.{widen_in, silent_in, nudge_in, give_up_in, receipts_of, shut_in, closed_as}
use Rattle.lks_law.specs.Reacting.{asked_for, verdict_of, was_asked_of, supplier, tallied_as, tally_in}
use Rattle.lks_law.specs.Reacting.{must_note_copy, check_in, is_invited_to, challenge_in, has_nominated_in}
use Rattle.lks_law.specs.Reacting.{nominate_in, vote_in_poll, said_of, repair_in}
use Rattle.lks_law.specs.State.{settled_opening, State, poll_at, copy_at, blocks_at}
use Rattle.lks_law.proofs.HeldCopies.{copy_by}
use Rattle.lks_law.proofs.RunningPolls.{voter_of, poll_as, polls_of, running_by}
use Rattle.lks_law.proofs.Scans.{voted_is, nominated_is, asked_is, nominees_are, widened_is, outer_is, running_is}
use Rattle.lks_law.proofs.Scans.{count_is, recent_is}
use Rattle.lks_law.proofs.Standing.{Stands, poll_is, blocks_is}
use Rattle.lks_choice.specs.Circles.{circle_of}
use Rattle.lks_tally.specs.PollRules as poll
use Rattle.lks_tally.specs.Running as running
use Rattle.lks_tally.specs.Counting.{voters_against}
use Rattle.lks_tally.specs.declared.ballots.Verdict.{Verdict}
use Rattle.lks_tally.specs.declared.ballots.Vote.{Vote}

never : (b : Bool) → cond b no_effect no_effect ≡ no_effect
never true = refl
never false = refl

module _ (own : Station) (js : List Record) (s : State) (is : Stands own js s) where
  -- What the journal has of a poll.

  receipts_are : (n : ℕ) (o : Opening) → receipts_of (poll_as n (settled_opening own.rules o) js) ≡ receipts n js
  unfolding receipts_of receipts
  receipts_are n o = mapped (votes n js)
    where
      mapped : (vs : List Vote)
          → map (letter (message.Receipt n)) (map voter_of vs)
          ≡ map (λ (v : Vote). letter (message.Receipt n) v.voter) vs
      mapped [] = refl
      mapped (v ∷ vs) = ap (λ os. letter (message.Receipt n) v.voter ∷ os) (mapped vs)

  closed_is : (tick n : ℕ) (o : Opening) (how : Outcome)
      → closed_as (poll_as n (settled_opening own.rules o) js) tick how ≡ closes_poll js tick n how
  unfolding closed_as closes_poll
  closed_is tick n o how = λ i. record { records = records.Closed n how tick ∷ []; sends = receipts_are n o i }

  invited_is : (n v : ℕ) (o : Opening)
      → is_invited_to (poll_as n (settled_opening own.rules o) js) v ≡ is_invited v n o.inner js
  unfolding is_invited_to is_invited
  invited_is n v o = λ i. has_member o.inner v || has_member (outer_is n js i) v

  -- A tally.

  asked_are : (tick n b : ℕ) (o : Opening) (v : Option ℕ)
      → asked_for (poll_as n (settled_opening own.rules o) js) tick b v ≡ asks_supplier js tick n b v
  asked_are tick n b o v =
      λ i. running.supplied_by (λ how. closed_is tick n o how i)
      (λ b v. record { records = records.Asked n b v ∷ []; sends = letter (message.RepairRequest n b) v ∷ [] }) b
      v

  supplier_is : (n b : ℕ) (o : Opening)
      → supplier own (poll_as n (settled_opening own.rules o) js) b (contents_of o.au js) ≡ candidate own n o b js
  unfolding supplier was_asked_of candidate
  supplier_is n b o =
      λ i. find (λ v. not (asked_is n b v js i))
      (voters_against (ballot_of own n o (length (contents_of o.au js))) (inner_votes n o.inner js)
      (contents_of o.au js) b)

  tallied_is : (tick n : ℕ) (o : Opening) (v : Verdict)
      → tallied_as own (poll_as n (settled_opening own.rules o) js) tick (contents_of o.au js) v
      ≡ follows_verdict own js tick n o v
  tallied_is tick n o v =
      let lost : _
      → _
      ≡ _ = λ b. ap (asked_for _ tick b) (supplier_is n b o)
      ∙ asked_are tick n b o _ in
      λ i. running.follows (λ how. closed_is tick n o how i) no_effect (λ b. lost b i) v

  pub tally_is : (tick n : ℕ) → for_poll (poll_at n s.polls) (tally_in own tick s.copies) ≡ on_tally own js tick n
  unfolding tally_in verdict_of on_tally may_tally is_running verdict_in
  tally_is tick n =
      ap (λ p. for_poll p (tally_in own tick s.copies)) (poll_is own js s is n)
      ∙ by_opening (opening_of n js) (is_closed n js)
    where
      by_opening : (o : Option Opening) (c : Bool)
          → for_poll (running_by own.rules n js o c) (tally_in own tick s.copies)
          ≡ cond (is_some o && not c && is_shut n js && not (is_some (unanswered_request n js)))
          (for_opening o (λ x. follows_verdict own js tick n x (verdict_in own n x js))) no_effect
      by_opening None c = refl
      by_opening (Some o) true = refl
      by_opening (Some o) false =
          ap (λ bs. if_may (is_shut n js && not (is_some (unanswered_request n js)))
          (tallied_as own (poll_as n (settled_opening own.rules o) js) tick bs
          (verdict_of own (poll_as n (settled_opening own.rules o) js) bs))) (blocks_is own js s is o.au)
          ∙ ap (if_may _) (tallied_is tick n o _)

  -- The end of voting.

  pub shut_is : (tick n : ℕ) → for_poll (poll_at n s.polls) (shut_in own tick) ≡ on_shut own js tick n
  unfolding shut_in on_shut is_voting is_running is_inquorate
  shut_is tick n =
      ap (λ p. for_poll p (shut_in own tick)) (poll_is own js s is n)
      ∙ by_opening (opening_of n js) (is_closed n js)
    where
      by_opening : (o : Option Opening) (c : Bool) → for_poll (running_by own.rules n js o c) (shut_in own tick)
          ≡ cond (is_some o && not c && not (is_shut n js)) (for_opening o (ends_voting own js tick n)) no_effect
      by_opening None c = refl
      by_opening (Some o) true = refl
      by_opening (Some o) false = λ i.
          cond (not (is_shut n js)) (cond (ltb (length (inner_votes n o.inner js)) (limits_of own.rules o).quorum)
          (record {
            records = records.Shut n ∷ records.Closed n outcome.Inquorate tick ∷ [];
            sends = receipts_are n o i;
          }) (record { records = records.Shut n ∷ []; sends = [] }))
          no_effect

  -- The outer circle.

  pub widen_is : (n : ℕ) → for_poll (poll_at n s.polls) (widen_in own) ≡ on_widen own js n
  unfolding widen_in outer_of_poll on_widen is_voting is_running outer_circle
  widen_is n =
      ap (λ p. for_poll p (widen_in own)) (poll_is own js s is n) ∙ by_opening (opening_of n js) (is_closed n js)
    where
      by_opening : (o : Option Opening) (c : Bool) → for_poll (running_by own.rules n js o c) (widen_in own)
          ≡ cond (is_some o && not c && not (is_shut n js) && not (is_widened n js))
          (for_opening o (invites_outer own js n)) no_effect
      by_opening None c = refl
      by_opening (Some o) true = refl
      by_opening (Some o) false = λ i.
          cond (not (is_shut n js) && not (widened_is n js i)) (record {
            records = records.OuterOpened n
                (circle_of (drawn_from own.seed 2 n) own.id o.inner (nominees_are n js i) own.rules.outer).peers
                ∷ [];
            sends = map (letter (message.Poll n o.au))
                (circle_of (drawn_from own.seed 2 n) own.id o.inner (nominees_are n js i) own.rules.outer).peers;
          }) no_effect

  -- A poll that doesn't run waits for nothing.

  quiet : (n : ℕ) → is_running n js ≡ false → unanswered_request n js ≡ None
  quiet n e = by_request (unanswered_request n js) refl
    where
      by_request : (r : Option Request) → unanswered_request n js ≡ r → r ≡ None
      by_request None w = refl
      by_request (Some r) w = absurd (both_ways _ e (is.idle n (ap is_some w)))

  running_is_not : (n : ℕ) (o : Option Opening) (c : Bool) → opening_of n js ≡ o → is_closed n js ≡ c
      → (is_some o && not c) ≡ false → is_running n js ≡ false
  unfolding is_running
  running_is_not n o c eo ec e = (λ i. is_some (eo i) && not (ec i)) ∙ e

  silent_is : (n : ℕ) (o : Opening) → silent_in (poll_as n (settled_opening own.rules o) js) ≡ silent_voters n o js
  unfolding silent_in silent_voters
  silent_is n o = λ i. filter (λ v. not (voted_is n v js i)) (o.inner ++ outer_is n js i)

  pub nudge_is : (n : ℕ) → for_poll (poll_at n s.polls) nudge_in ≡ on_nudge js n
  unfolding nudge_in on_nudge is_voting is_running
  nudge_is n =
      ap (λ p. for_poll p nudge_in) (poll_is own js s is n)
      ∙ by_opening (opening_of n js) (is_closed n js) refl refl
    where
      by_opening : (o : Option Opening) (c : Bool) → opening_of n js ≡ o → is_closed n js ≡ c
          → for_poll (running_by own.rules n js o c) nudge_in
          ≡ cond (is_some o && not c && not (is_shut n js)) (for_opening o (reminds_silent js n))
          (asked_again n (unanswered_request n js))
      by_opening None c eo ec = ap (asked_again n) (sym (quiet n (running_is_not n None c eo ec refl)))
      by_opening (Some o) true eo ec = ap (asked_again n) (sym (quiet n (running_is_not n _ true eo ec refl)))
      by_opening (Some o) false eo ec = λ i.
          cond (not (is_shut n js))
          (record { records = []; sends = map (letter (message.Poll n o.au)) (silent_is n o i) })
          (asked_again n (unanswered_request n js))

  pub give_up_is : (n : ℕ) → for_poll (poll_at n s.polls) give_up_in ≡ on_give_up js n
  unfolding give_up_in on_give_up
  give_up_is n =
      ap (λ p. for_poll p give_up_in) (poll_is own js s is n)
      ∙ by_opening (opening_of n js) (is_closed n js) refl refl
    where
      by_opening : (o : Option Opening) (c : Bool) → opening_of n js ≡ o → is_closed n js ≡ c
          → for_poll (running_by own.rules n js o c) give_up_in ≡ given_up n (unanswered_request n js)
      by_opening None c eo ec = ap (given_up n) (sym (quiet n (running_is_not n None c eo ec refl)))
      by_opening (Some o) true eo ec = ap (given_up n) (sym (quiet n (running_is_not n _ true eo ec refl)))
      by_opening (Some o) false eo ec = refl

  -- A repair.

  said_is : (n b : ℕ) (bytes : List ℕ) (o : Opening)
      → said_of own (poll_as n (settled_opening own.rules o) js) b bytes (contents_of o.au js)
      ≡ restores own n o b bytes js
  unfolding said_of restores said_at
  said_is n b bytes o = refl

  pub repair_is : (from n b : ℕ) (bytes : List ℕ)
      → for_poll (poll_at n s.polls) (repair_in own from b bytes s.copies) ≡ on_repair own js from n b bytes
  unfolding repair_in on_repair may_repair
  repair_is from n b bytes =
      ap (λ p. for_poll p (repair_in own from b bytes s.copies)) (poll_is own js s is n)
      ∙ by_opening (opening_of n js) (is_closed n js) refl refl
    where
      by_opening : (o : Option Opening) (c : Bool) → opening_of n js ≡ o → is_closed n js ≡ c
          → for_poll (running_by own.rules n js o c) (repair_in own from b bytes s.copies)
          ≡ cond (is_request b from (unanswered_request n js)) (for_opening o (takes_repair own js from n b bytes))
          no_effect
      by_opening None c eo ec = sym (never _)
      by_opening (Some o) true eo ec =
          ap (λ r. cond (is_request b from r) (takes_repair own js from n b bytes o) no_effect)
          (sym (quiet n (running_is_not n _ true eo ec refl)))
      by_opening (Some o) false eo ec =
          ap (λ bs. if_may (is_request b from (unanswered_request n js))
          (cond (said_of own (poll_as n (settled_opening own.rules o) js) b bytes bs)
          (record { records = records.Replaced n o.au b bytes ∷ []; sends = [] })
          (record { records = records.RepairBad n b from ∷ []; sends = [] })))
          (blocks_is own js s is o.au)
          ∙ ap (λ t. if_may (is_request b from (unanswered_request n js))
          (cond t (record { records = records.Replaced n o.au b bytes ∷ []; sends = [] })
          (record { records = records.RepairBad n b from ∷ []; sends = [] })))
          (said_is n b bytes o)

  -- A vote, a nomination and a challenge.

  pub vote_row : (from n : ℕ) (hashes : List (List ℕ)) (judged : Judged)
      → for_poll (poll_at n s.polls) (vote_in_poll from hashes judged s.copies) ≡ on_vote js from n hashes judged
  unfolding vote_in_poll on_vote is_voting is_running may_vote
  vote_row from n hashes judged =
      ap (λ p. for_poll p (vote_in_poll from hashes judged s.copies)) (poll_is own js s is n)
      ∙ by_opening (is_accepted judged) (opening_of n js) (is_closed n js)
    where
      by_opening : (a : Bool) (o : Option Opening) (c : Bool) → for_poll (running_by own.rules n js o c) (λ p.
          if_may (a && running.may_vote p from (length hashes) (length (blocks_at p.opening.au s.copies)))
          (record { records = records.VoteIn p.number from hashes ∷ []; sends = [] }))
          ≡ cond (a && (is_some o && not c && not (is_shut n js))) (for_opening o (counts_vote js from n hashes))
          no_effect
      by_opening true None c = refl
      by_opening false None c = refl
      by_opening true (Some o) true = refl
      by_opening false (Some o) true = refl
      by_opening false (Some o) false = refl
      by_opening true (Some o) false =
          (λ i. if_may (not (is_shut n js)
          && poll.may_vote (invited_is n from o i) (voted_is n from js i) (length hashes)
          (length (blocks_is own js s is o.au i)))
          (record { records = records.VoteIn n from hashes ∷ []; sends = [] }))
          ∙ by_shut (is_shut n js)
        where
          by_shut : (b : Bool)
              → if_may
              (not b
              && poll.may_vote (is_invited from n o.inner js) (has_voted n from js) (length hashes)
              (length (contents_of o.au js))) (record { records = records.VoteIn n from hashes ∷ []; sends = [] })
              ≡ cond (not b) (counts_vote js from n hashes o) no_effect
          by_shut true = refl
          by_shut false = refl

  pub nominate_is : (from n : ℕ) (nominees : List ℕ)
      → for_poll (poll_at n s.polls) (nominate_in from nominees) ≡ on_nominate js from n nominees
  unfolding nominate_in has_nominated_in on_nominate is_voting is_running may_nominate
  nominate_is from n nominees =
      ap (λ p. for_poll p (nominate_in from nominees)) (poll_is own js s is n)
      ∙ by_opening (opening_of n js) (is_closed n js)
    where
      by_opening : (o : Option Opening) (c : Bool)
          → for_poll (running_by own.rules n js o c) (nominate_in from nominees)
          ≡ cond (is_some o && not c && not (is_shut n js) && not (is_widened n js))
          (for_opening o (notes_nominees js from n nominees)) no_effect
      by_opening None c = refl
      by_opening (Some o) true = refl
      by_opening (Some o) false =
          (λ i. if_may (poll.may_widen (not (is_shut n js)) (widened_is n js i)
          && poll.may_nominate (has_member o.inner from) (nominated_is n from js i))
          (record { records = records.Nominated n from nominees ∷ []; sends = [] }))
          ∙ by_tests (poll.may_widen _ _)
        where
          by_tests : (b : Bool)
              → if_may (b && poll.may_nominate (has_member o.inner from) (has_nominated n from js))
              (record { records = records.Nominated n from nominees ∷ []; sends = [] })
              ≡ cond b (notes_nominees js from n nominees o) no_effect
          by_tests true = refl
          by_tests false = refl

  pub challenge_is : (from n : ℕ) (agrees : Bool)
      → for_poll (poll_at n s.polls) (challenge_in own from agrees) ≡ on_challenge own js from n agrees
  unfolding challenge_in on_challenge is_voting is_running may_prove
  challenge_is from n agrees =
      ap (λ p. for_poll p (challenge_in own from agrees)) (poll_is own js s is n)
      ∙ by_opening agrees (opening_of n js) (is_closed n js)
    where
      by_opening : (a : Bool) (o : Option Opening) (c : Bool)
          → for_poll (running_by own.rules n js o c) (challenge_in own from a)
          ≡ cond (a && (is_some o && not c && not (is_shut n js))) (for_opening o (sends_proof own js from n)) no_effect
      by_opening true None c = refl
      by_opening false None c = refl
      by_opening true (Some o) true = refl
      by_opening false (Some o) true = refl
      by_opening false (Some o) false = refl
      by_opening true (Some o) false =
          (λ i. if_may (not (is_shut n js) && invited_is n from o i && not (voted_is n from js i))
          (record { records = []; sends = letter (message.PollProof n o.nonce o.kind own.proof) from ∷ [] }))
          ∙ by_shut (is_shut n js)
        where
          by_shut : (b : Bool)
              → if_may (not b && is_invited from n o.inner js && not (has_voted n from js))
              (record { records = []; sends = letter (message.PollProof n o.nonce o.kind own.proof) from ∷ [] })
              ≡ cond (not b) (sends_proof own js from n o) no_effect
          by_shut true = refl
          by_shut false = refl

  -- A poll is opened.

  may_open_is : (tick au : ℕ) → may_open_in own s tick au ≡ may_open own js tick au
  unfolding may_open_in may_open
  may_open_is tick au =
      (λ i. may_open_copy tick own.rules.pace au (is.polls i) (is.copies au i)) ∙ by_deposit (deposit_of au js)
    where
      by_deposit : (d : Option (List (List ℕ)))
          → may_open_copy tick own.rules.pace au (polls_of own.rules js) (copy_by au js d)
          ≡ (is_some d && not (list_any (opens_running au js) js) && ltb (count_by (opens_open js) js) 8
          && not (list_any (opens_lately au tick own.rules.pace) js))
      by_deposit None = refl
      by_deposit (Some d) =
          λ i. not (running_is own.rules au js i) && ltb (count_is own.rules js i) 8
          && not (recent_is au tick own.rules.pace None js i)

  pub open_is : (tick au : ℕ) → open_in own s tick au ≡ on_open own js tick au
  unfolding open_in on_open inner_of inner_circle
  open_is tick au = λ i.
      cond (may_open_is tick au i) (record {
        records =
            records.PollOpened (is.openings_are i + 1) au (nonce_from own.seed (is.openings_are i + 1))
            (picked_by (drawn_from own.seed 1 (is.openings_are i + 1)) (is.refs i) own.rules.inner) tick
            (Some (record { quorum = (is.numbers i).quorum; minority = (is.numbers i).minority })) own.hash
            ∷ [];
        sends =
            map (letter (message.Poll (is.openings_are i + 1) au))
            (picked_by (drawn_from own.seed 1 (is.openings_are i + 1)) (is.refs i) own.rules.inner);
      })
      no_effect

  -- Audits.

  note_is : (tick au : ℕ) → must_note_copy own tick (copy_at au s.copies) ≡ must_note own js tick au
  unfolding must_note is_overdue
  note_is tick au = ap (must_note_copy own tick) (is.copies au) ∙ by_deposit (deposit_of au js)
    where
      by_deposit : (d : Option (List (List ℕ)))
          → must_note_copy own tick (copy_by au js d) ≡ (is_some d && is_overdue au tick own.rules.overdue js)
      by_deposit None = refl
      by_deposit (Some d) = refl

  pub check_is : (tick : ℕ) → check_in own s.copies tick ≡ on_check own js tick
  unfolding check_in on_check
  check_is tick =
      λ i.
      record {
        records = filter_map
            (λ (au : AuPlan). cond (note_is tick au.id i) (Some (records.Overdue au.id tick)) None) own.aus;
        sends = [];
      }
