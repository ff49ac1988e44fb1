-- What a voter adds and sends over its journal is what it adds and sends in the state for which the journal stands.
use Rattle.std.proofs.Common.{◌≡◌, ◌∙◌, ap, sym, ℕ, Bool, true, false, cond, List, [], refl}
use Rattle.std.specs.Prelude.{Option, Some, None, is_some, not, ◌&&◌, ◌||◌, nat_lt}
use Rattle.lks_base.specs.Checking.{has_member}
use Rattle.lks_base.specs.declared.messages.Message.{Message}
use Rattle.lks_base.specs.declared.messages.Message.TheVariants as message
use Rattle.lks_base.specs.declared.names.HashKind.{HashKind}
use Rattle.lks_base.specs.declared.names.Judged.{Judged}
use Rattle.lks_base.specs.declared.names.PollName.{PollName}
use Rattle.lks_base.specs.declared.reactions.Input.{Input}
use Rattle.lks_base.specs.declared.reactions.Input.TheVariants as input
use Rattle.lks_base.specs.declared.reactions.Reaction.{Reaction}
use Rattle.lks_base.specs.declared.records.Record.{Record}
use Rattle.lks_base.specs.declared.records.Record.TheVariants as records
use Rattle.lks_draw.specs.Words.{drawn_from}
use Rattle.lks_choice.specs.Grading.{grade_from, is_low, is_admitted}
use Rattle.lks_law.specs.Answering.{is_open, open_sessions, was_ended, grade_in, is_admitted_in, may_join_in}
use Rattle.lks_law.specs.Answering.{joined_now, invitation_in, version_in, version_at, proof_at, proof_in, hashes_for}
use Rattle.lks_law.specs.Answering.{work_at, work_in, request_at, request_in, end_in}
use Rattle.lks_law.specs.Journal.{deposit_of}
use Rattle.lks_law.specs.Polls.{Station}
use Rattle.lks_law.specs.Reaction.{no_effect}
use Rattle.lks_law.specs.References.{reference_list}
use Rattle.lks_law.specs.Sessions.{Join, Commitment, join_of, commitment_of, hashes_of_vote, served_blocks, is_ended}
use Rattle.lks_law.specs.Sessions.{is_session, version_now}
use Rattle.lks_law.specs.State.{State, copy_at, state_of}
use Rattle.lks_law.specs.Table.{on_message, reaction, receive_in, react_on}
use Rattle.lks_law.specs.Taking.{session_at, pinned_at, cast_at}
use Rattle.lks_law.specs.Voting.{answers, adds, adds_only, draw_number, challenge, grade_of_poller}
use Rattle.lks_law.specs.Voting.{may_join, joins_poll, on_invitation, commits, commits_again, proved_to, on_proof}
use Rattle.lks_law.specs.Voting.{casts_vote, on_work, answers_request, on_request, on_end}
use Rattle.lks_law.specs.Written.{AreWritten}
use Rattle.lks_law.proofs.HeldCopies.{copy_by}
use Rattle.lks_law.proofs.Parts.{session_by, pinned_by, cast_by}
use Rattle.lks_law.proofs.Standing.{Stands, state_stands}
use Rattle.lks_law.proofs.StateRows.{open_is as opening_is, widen_is, shut_is, tally_is, nudge_is, give_up_is}
use Rattle.lks_law.proofs.StateRows.{check_is, challenge_is, nominate_is, vote_row, repair_is}

-- what a proof of the poller's effort makes of an open session
abbrev proved_by : Station → List Record → PollName → List ℕ → HashKind → Judged → Option Join → Option Commitment
    → Option (List (List ℕ)) → Reaction
proved_by own js q nonce kind judged None c h = no_effect
proved_by own js q nonce kind judged (Some j) None h =
    commits own (reference_list own js) q (version_now j.au js) nonce kind judged
proved_by own js q nonce kind judged (Some j) (Some c) h = commits_again own (reference_list own js) q c nonce kind h

proved_is : (own : Station) (js : List Record) (q : PollName) (nonce : List ℕ) (kind : HashKind) (judged : Judged)
    (j : Option Join) (c : Option Commitment)
    → proved_by own js q nonce kind judged j c (hashes_of_vote q js) ≡ proved_to own js q nonce kind judged j c
proved_is own js q nonce kind judged None c = refl
proved_is own js q nonce kind judged (Some j) None = refl
proved_is own js q nonce kind judged (Some j) (Some c) = refl

module _ (own : Station) (js : List Record) (s : State) (is : Stands own js s) where
  session_is : (q : PollName)
      → session_at q s.voter.sessions ≡ session_by own.rules q (join_of q js) (commitment_of q js) (is_ended q js)
  session_is q = (is.voter.at q).sessions

  pinned_is : (q : PollName)
      → pinned_at q s.voter.pinned
      ≡ pinned_by own.rules js q (join_of q js) (commitment_of q js) (hashes_of_vote q js) (is_ended q js)
  pinned_is q = (is.voter.at q).pinned

  cast_is : (q : PollName)
      → cast_at q s.voter.cast
      ≡ cast_by own.rules js q (join_of q js) (commitment_of q js) (hashes_of_vote q js) (served_blocks q js)
      (is_ended q js)
  cast_is q = (is.voter.at q).cast

  -- Which sessions are open.

  open_is : (q : PollName) → is_open q s.voter ≡ is_session q js
  unfolding is_open is_session
  open_is q =
      (λ i. is_some (session_is q i) || is_some (pinned_is q i) || is_some (cast_is q i))
      ∙ by_phase (join_of q js) (commitment_of q js) (hashes_of_vote q js) (is_ended q js)
    where
      by_phase : (j : Option Join) (c : Option Commitment) (h : Option (List (List ℕ))) (over : Bool)
          → (is_some (session_by own.rules q j c over) || is_some (pinned_by own.rules js q j c h over)
          || is_some (cast_by own.rules js q j c h (served_blocks q js) over))
          ≡ (is_some j && not over)
      by_phase None c h over = refl
      by_phase (Some j) None h true = refl
      by_phase (Some j) None h false = refl
      by_phase (Some j) (Some c) None true = refl
      by_phase (Some j) (Some c) None false = refl
      by_phase (Some j) (Some c) (Some h) true = refl
      by_phase (Some j) (Some c) (Some h) false = refl

  -- An invitation.

  grade_is : (f : ℕ) → grade_in own s.voter f ≡ grade_of_poller own js f
  unfolding grade_in grade_of_poller
  grade_is f = λ i. grade_from (is.voter.marks f i).received (is.voter.marks f i).given (has_member own.friends f)

  held_is : (au : ℕ) → is_some (copy_at au s.copies) ≡ is_some (deposit_of au js)
  held_is au = ap is_some (is.copies au) ∙ by_deposit (deposit_of au js)
    where
      by_deposit : (d : Option (List (List ℕ))) → is_some (copy_by au js d) ≡ is_some d
      by_deposit None = refl
      by_deposit (Some d) = refl

  -- whoever has no open session joined before exactly if its session is over
  joined_is : (q : PollName) → is_session q js ≡ false → is_ended q js ≡ is_some (join_of q js)
  unfolding is_session
  joined_is q closed = by_tests (join_of q js) refl (is_ended q js) refl closed
    where
      by_tests : (j : Option Join) → join_of q js ≡ j → (over : Bool) → is_ended q js ≡ over
          → (is_some j && not over) ≡ false → over ≡ is_some j
      by_tests None ej true eo e = sym ((is.voter.at q).proper.over eo) ∙ ap is_some ej
      by_tests None ej false eo e = refl
      by_tests (Some j) ej true eo e = refl
      by_tests (Some j) ej false eo e = absurd cc

  may_join_is : (tick : ℕ) (q : PollName) (au : ℕ) → is_session q js ≡ false
      → may_join_in own s.voter s.copies tick q au ≡ may_join own js tick q au
  unfolding may_join_in may_join was_ended open_sessions is_admitted_in
  may_join_is tick q au closed = λ i.
      not ((is.voter.ended q ∙ joined_is q closed) i) && held_is au i && nat_lt (is.voter.count i) 16
      && is_admitted (grade_is q.poller i) own.rules (is.voter.low i) tick (drawn_from own.seed 3 (draw_number q))

  invitation_is : (tick : ℕ) (q : PollName) (au : ℕ)
      → invitation_in own s.voter s.copies s.numbers.repairs tick q au ≡ on_invitation own js tick q au
  unfolding invitation_in on_invitation
  invitation_is tick q au =
      ap (λ b. cond b (answers (challenge q true)) closed_in) (open_is q) ∙ by_test (is_session q js) refl
    where
      closed_in : Reaction
      closed_in =
          cond (may_join_in own s.voter s.copies tick q au) (joined_now own s.voter s.numbers.repairs tick q au)
          (answers (challenge q false))

      by_test : (b : Bool) → is_session q js ≡ b
          → cond b (answers (challenge q true)) closed_in
          ≡ cond b (answers (challenge q true))
          (cond (may_join own js tick q au) (joins_poll own js tick q au) (answers (challenge q false)))
      by_test true e = refl
      by_test false e = λ i.
          cond (may_join_is tick q au e i)
          (adds (records.Joined q au tick (is_low (grade_is q.poller i)) (Some (is.numbers i).repairs))
          (challenge q true)) (answers (challenge q false))

  -- A proof of the poller's effort.

  version_is : (au : ℕ) → is_some (deposit_of au js) ≡ true → version_at au s.copies ≡ version_now au js
  unfolding version_now
  version_is au held = ap version_in (is.copies au) ∙ by_deposit (deposit_of au js) held
    where
      by_deposit : (d : Option (List (List ℕ))) → is_some d ≡ true → version_in (copy_by au js d) ≡ version_now au js
      by_deposit None e = absurd cc
      by_deposit (Some d) e = refl

  proof_is : (q : PollName) (nonce : List ℕ) (kind : HashKind) (judged : Judged)
      → proof_in own s.voter s.copies s.refs q nonce kind judged ≡ on_proof own js q nonce kind judged
  unfolding proof_in on_proof is_session
  proof_is q nonce kind judged =
      (λ i. proof_at own s.copies (is.refs i) q nonce kind judged (session_is q i) (pinned_is q i) (cast_is q i))
      ∙ by_phase (join_of q js) refl (commitment_of q js) (hashes_of_vote q js) (is_ended q js)
      ∙ ap (λ r. cond (is_some (join_of q js) && not (is_ended q js)) r no_effect)
      (proved_is own js q nonce kind judged _ _)
    where
      refs : List ℕ
      refs = reference_list own js

      by_phase : (j : Option Join) → join_of q js ≡ j
          → (c : Option Commitment) (h : Option (List (List ℕ))) (over : Bool)
          → proof_at own s.copies refs q nonce kind judged (session_by own.rules q j c over)
          (pinned_by own.rules js q j c h over) (cast_by own.rules js q j c h (served_blocks q js) over)
          ≡ cond (is_some j && not over) (proved_by own js q nonce kind judged j c h) no_effect
      by_phase None ej c h over = refl
      by_phase (Some j) ej None h true = refl
      by_phase (Some j) ej None h false =
          ap (λ k. commits own refs q k nonce kind judged) (version_is j.au ((is.voter.at q).proper.held j ej))
      by_phase (Some j) ej (Some c) None true = refl
      by_phase (Some j) ej (Some c) None false = refl
      by_phase (Some j) ej (Some c) (Some h) true = refl
      by_phase (Some j) ej (Some c) (Some h) false = refl

  -- The vote.

  work_is : (q : PollName) → work_in own s.voter q ≡ on_work own js q
  unfolding work_in on_work is_session hashes_for
  work_is q =
      ap (work_at own q) (pinned_is q)
      ∙ by_phase (join_of q js) (commitment_of q js) (hashes_of_vote q js) (is_ended q js)
    where
      by_phase : (j : Option Join) (c : Option Commitment) (h : Option (List (List ℕ))) (over : Bool)
          → work_at own q (pinned_by own.rules js q j c h over)
          ≡ cond (is_some j && not over) (casts_vote own js q j c h) no_effect
      by_phase None c h over = refl
      by_phase (Some j) None h true = refl
      by_phase (Some j) None h false = refl
      by_phase (Some j) (Some c) None true = refl
      by_phase (Some j) (Some c) None false = refl
      by_phase (Some j) (Some c) (Some h) true = refl
      by_phase (Some j) (Some c) (Some h) false = refl

  -- A request for a repair.

  request_is : (q : PollName) (b : ℕ) → request_in s.voter q b ≡ on_request own js q b
  unfolding request_in on_request is_session
  request_is q b =
      ap (request_at q b) (cast_is q)
      ∙ by_phase (join_of q js) (commitment_of q js) (hashes_of_vote q js) (is_ended q js)
    where
      by_phase : (j : Option Join) (c : Option Commitment) (h : Option (List (List ℕ))) (over : Bool)
          → request_at q b (cast_by own.rules js q j c h (served_blocks q js) over)
          ≡ cond (is_some j && not over) (answers_request own js q b j c h) no_effect
      by_phase None c h over = refl
      by_phase (Some j) None h true = refl
      by_phase (Some j) None h false = refl
      by_phase (Some j) (Some c) None true = refl
      by_phase (Some j) (Some c) None false = refl
      by_phase (Some j) (Some c) (Some h) true = refl
      by_phase (Some j) (Some c) (Some h) false = refl

  end_is : (q : PollName) → end_in s.voter q ≡ on_end js q
  unfolding end_in on_end
  end_is q = ap (λ b. cond b (adds_only (records.Ended q)) no_effect) (open_is q)

  -- All rows.

  message_is : (tick from : ℕ) (m : Message) (judged : Judged)
      → receive_in own s tick from m judged ≡ on_message own js tick from m judged
  message_is tick from (message.Poll n au) judged = invitation_is tick _ au
  message_is tick from (message.PollChallenge n agrees) judged = challenge_is own js s is from n agrees
  message_is tick from (message.PollProof n nonce kind proof) judged = proof_is _ nonce kind judged
  message_is tick from (message.Nominate n nominees) judged = nominate_is own js s is from n nominees
  message_is tick from (message.Vote n hashes proof) judged = vote_row own js s is from n hashes judged
  message_is tick from (message.RepairRequest n b) judged = request_is _ b
  message_is tick from (message.Repair n b bytes) judged = repair_is own js s is from n b bytes
  message_is tick from (message.Receipt n) judged = end_is _

  reacts : (tick : ℕ) (i : Input) → react_on own s tick i ≡ reaction own js tick i
  unfolding react_on reaction
  reacts tick (input.OpenPoll au) = opening_is own js s is tick au
  reacts tick (input.Widen n) = widen_is own js s is n
  reacts tick (input.Shut n) = shut_is own js s is tick n
  reacts tick (input.Tally n) = tally_is own js s is tick n
  reacts tick (input.Nudge n) = nudge_is own js s is n
  reacts tick (input.GiveUp n) = give_up_is own js s is n
  reacts tick (input.Work q) = work_is q
  reacts tick (input.Expire q) = end_is q
  reacts tick input.Check = check_is own js s is tick
  reacts tick (input.Tune quorum minority repairs) = refl
  reacts tick (input.Got from m judged) = message_is tick from m judged

pub law : (own : Station) (journal : List Record) → AreWritten [] journal → (tick : ℕ) (i : Input)
    → react_on own (state_of own journal) tick i ≡ reaction own journal tick i
law own journal written tick i = reacts own journal _ (state_stands own journal written) tick i
