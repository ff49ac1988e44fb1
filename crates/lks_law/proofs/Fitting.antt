-- What the rules add fits the state, and its requests stay within their AUs.
use Rattle.std.proofs.Common.{◌≡◌, ◌+◌, ◌<◌, ◌≤◌, ◌∙◌, ap, sym, subst, ℕ, Bool, true, false, cond, eqb, ltb, leb, not}
use Rattle.std.proofs.Common.{List, [], ◌∷◌, ◌++◌, length, refl, arith}
use Rattle.std.specs.Prelude.{Option, Some, None, is_some, ◌&&◌, All, map, slice_get}
use Rattle.std.specs.List.{list_all, filter_map, cons_option}
use Rattle.std.proofs.lemmas.Bool.{and_parts, eqb-true, ltb-true, leb-true, not-true}
use Rattle.std.proofs.lemmas.List.{append-nil, length-set}
use Rattle.std.proofs.lemmas.List.Elements.{All-cons, All-head, All-tail, All-push, All-set, All-weaker}
use Rattle.lks_base.specs.Checking.{has_member}
use Rattle.lks_base.specs.declared.limits.TheConstants.{MOST_BLOCKS, MOST_BLOCK_BYTES, MOST_CIRCLE, MOST_REPAIRS}
use Rattle.lks_base.specs.declared.messages.Message.{Message}
use Rattle.lks_base.specs.declared.messages.Message.TheVariants as message
use Rattle.lks_base.specs.Quorums.{obeys_quorum_rule}
use Rattle.lks_base.specs.declared.names.Judged.{Judged}
use Rattle.lks_base.specs.declared.names.Judged.TheVariants.{NotAsked, Accepted, Refused}
use Rattle.lks_base.specs.declared.names.Outcome.{Outcome}
use Rattle.lks_base.specs.declared.names.Outcome.TheVariants as outcome
use Rattle.lks_base.specs.declared.names.Outcome.TheVariants.{Agreed}
use Rattle.lks_base.specs.declared.plans.AuPlan.{AuPlan}
use Rattle.lks_base.specs.declared.reactions.Input.{Input}
use Rattle.lks_base.specs.declared.reactions.Input.TheVariants as input
use Rattle.lks_base.specs.declared.reactions.Reaction.{Reaction}
use Rattle.lks_base.specs.declared.records.Record.{Record}
use Rattle.lks_base.specs.declared.records.Record.TheVariants.{Deposit, PollOpened, Nominated, OuterOpened, VoteIn}
use Rattle.lks_base.specs.declared.records.Record.TheVariants.{Shut, Asked, RepairBad, Replaced, Closed, Overdue}
use Rattle.lks_base.specs.declared.records.Record.TheVariants as records
use Rattle.lks_draw.proofs.Picking.{pick_law}
use Rattle.lks_draw.proofs.Places.{word_fits}
use Rattle.lks_draw.specs.Words.{drawn_from}
use Rattle.lks_law.specs.Fitting.{Where, FitsOutcome, Fits, MayHave, AreFitting, AsksWithin, IsCounted, AreSmall}
use Rattle.lks_law.specs.Fitting.{AreWell, AreLegal, IsOnHeld, IsPinnedWell, IsCastWell, marks_left, IsSound}
use Rattle.lks_law.specs.Fitting.{most_numbered, has_room}
use Rattle.lks_law.proofs.Lists.{without_any, changed_any, any_where}
use Rattle.lks_law.specs.Answering.{is_open, may_join_in}
use Rattle.lks_law.specs.Answering.{invitation_in, proof_at, proof_in, version_at, hashes_for, work_at, work_in}
use Rattle.lks_law.specs.Answering.{request_at, request_in, end_in}
use Rattle.lks_law.specs.Facts.{IsHeard}
use Rattle.lks_law.specs.Journal.{Request, numbers_after}
use Rattle.lks_law.specs.Polls.{Station, limits_of}
use Rattle.lks_law.specs.Reacting.{for_poll, if_may, may_open_copy, may_open_in, inner_of, opened_as, open_in}
use Rattle.lks_law.specs.Reacting.{widen_in, silent_in, nudge_in, give_up_in, receipts_of, shut_in}
use Rattle.lks_law.specs.Reacting.{closed_as, asked_for, verdict_of, supplier, tallied_as, tally_in, must_note_copy}
use Rattle.lks_law.specs.Reacting.{overdue_of, check_in, is_invited_to, challenge_in, nominate_in, vote_in_poll}
use Rattle.lks_law.specs.Reacting.{said_of, repair_in}
use Rattle.lks_law.specs.Reaction.{no_effect, letter, asked_again, given_up, is_accepted, is_request}
use Rattle.lks_law.specs.State.{Poll, Copy, State, poll_at, copy_at, blocks_in, blocks_at}
use Rattle.lks_law.specs.State.{shut_now, request_sent, request_answered, changed_poll, without_poll}
use Rattle.lks_law.specs.State.{deposited_copy, opened_at, replaced_in, agreed_at, noted_overdue, copy_changed}
use Rattle.lks_law.specs.State.{agreed_on, copies_after, polls_after, after}
use Rattle.lks_law.specs.Sessions.{Commitment}
use Rattle.lks_law.specs.Table.{receive_in, react_on}
use Rattle.lks_law.specs.Taking.{Session, Pinned, Cast, session_at}
use Rattle.lks_law.specs.Taking.{pinned_at, cast_at, pins_of, casts_of, voter_after}
use Rattle.lks_law.specs.Voting.{repeats, commits, vote_hashes, gives, serves}
use Rattle.lks_law.specs.Voting.{may_tune, on_tune}
use Rattle.lks_hash.proofs.RunningLaws.{hashes_length}
use Rattle.lks_base.specs.declared.names.HashKind.{HashKind}
use Rattle.lks_base.specs.declared.names.PollName.{PollName}
use Rattle.lks_message.specs.Spelling.{IsWithin}
use Rattle.lks_tally.proofs.Deciding.{loss_first}
use Rattle.lks_tally.specs.Running.{may_prove}
use Rattle.lks_tally.specs.declared.ballots.Verdict.{Verdict}
use Rattle.lks_tally.specs.declared.ballots.Verdict.TheVariants as verdict
use Rattle.lks_voter.specs.Voting.{answer_of}
use Rattle.lks_voter.specs.declared.commitments.Serve.{Serve}
use Rattle.lks_voter.specs.declared.commitments.Serve.TheVariants.{First, Again, Spent}

-- what is true of each poll is true of the one that is found
pub poll_where : (P : Poll → Type 0) (n : ℕ) (ps : List Poll) → All P ps → Where (poll_at n ps) P
poll_where P n [] all = tt
poll_where P n (p ∷ ps) all = here (eqb p.number n) (poll_where P n ps (All-tail P p ps all))
  where
    here : (b : Bool) → Where (poll_at n ps) P → Where (cond b (Some p) (poll_at n ps)) P
    here true rest = All-head P p ps all
    here false rest = rest

-- where poll n changes, what is true of each stays so, if it does for that one
changed_each : (P : Poll → Type 0) (n : ℕ) (f : Poll → Poll) (ps : List Poll)
    → Where (poll_at n ps) (λ p. P p → P (f p)) → All P ps → All P (changed_poll n f ps)
changed_each P n f [] keeps all = all
changed_each P n f (p ∷ ps) keeps all =
    here (eqb p.number n) keeps (λ keeps. changed_each P n f ps keeps (All-tail P p ps all))
  where
    here : (b : Bool) → Where (cond b (Some p) (poll_at n ps)) (λ p. P p → P (f p))
        → (Where (poll_at n ps) (λ p. P p → P (f p)) → All P (changed_poll n f ps))
        → All P (cond b (f p ∷ ps) (p ∷ changed_poll n f ps))
    here true keeps rest = All-cons P (f p) ps (keeps (All-head P p ps all)) (All-tail P p ps all)
    here false keeps rest = All-cons P p _ (All-head P p ps all) (rest keeps)

without_each : (P : Poll → Type 0) (n : ℕ) (ps : List Poll) → All P ps → All P (without_poll n ps)
without_each P n [] all = all
without_each P n (p ∷ ps) all = here (eqb p.number n) (without_each P n ps (All-tail P p ps all))
  where
    here : (b : Bool) → All P (without_poll n ps) → All P (cond b ps (p ∷ without_poll n ps))
    here true rest = All-tail P p ps all
    here false rest = All-cons P p _ (All-head P p ps all) rest

abbrev HasSmall : Copy → Type 0
HasSmall c = AreSmall c.blocks

abbrev HasBlocks : Copy → Type 0
HasBlocks c = IsCounted c.blocks

copy_each : (P : Copy → Type 0) (au : ℕ) (f : Copy → Copy) (cs : List Copy) → ((c : Copy) → P c → P (f c))
    → All P cs → All P (copy_changed au f cs)
copy_each P au f [] keeps all = all
copy_each P au f (c ∷ cs) keeps all = here (eqb c.au au) (copy_each P au f cs keeps (All-tail P c cs all))
  where
    here : (b : Bool) → All P (copy_changed au f cs) → All P (cond b (f c ∷ cs) (c ∷ copy_changed au f cs))
    here true rest = All-cons P (f c) cs (keeps c (All-head P c cs all)) (All-tail P c cs all)
    here false rest = All-cons P c _ (All-head P c cs all) rest

-- where a poll is found, whatever it is, this follows
whatever : (P : Poll → Type 0) → ((p : Poll) → P p) → (o : Option Poll) → Where o P
whatever P is None = tt
whatever P is (Some p) = is p

-- An AU loses no blocks.

grows : (au a : ℕ) (f : Copy → Copy) (cs : List Copy) → ((c : Copy) → (f c).au ≡ c.au)
    → ((c : Copy) → length (f c).blocks ≡ length c.blocks)
    → length (blocks_at au (copy_changed a f cs)) ≡ length (blocks_at au cs)
grows au a f [] same long = refl
grows au a f (c ∷ cs) same long = here (eqb c.au a) (eqb c.au au) refl (grows au a f cs same long)
  where
    here : (b d : Bool) → eqb c.au au ≡ d → length (blocks_at au (copy_changed a f cs)) ≡ length (blocks_at au cs)
        → length (blocks_at au (cond b (f c ∷ cs) (c ∷ copy_changed a f cs)))
        ≡ length (blocks_in (cond d (Some c) (copy_at au cs)))
    here true true e rest =
        ap (λ k. length (blocks_in (cond (eqb k au) (Some (f c)) (copy_at au cs)))) (same c)
        ∙ ap (λ t. length (blocks_in (cond t (Some (f c)) (copy_at au cs)))) e ∙ long c
    here true false e rest =
        ap (λ k. length (blocks_in (cond (eqb k au) (Some (f c)) (copy_at au cs)))) (same c)
        ∙ ap (λ t. length (blocks_in (cond t (Some (f c)) (copy_at au cs)))) e
    here false true e rest = ap (λ t. length (blocks_in (cond t (Some c) (copy_at au (copy_changed a f cs))))) e
    here false false e rest = ap (λ t. length (blocks_in (cond t (Some c) (copy_at au (copy_changed a f cs))))) e ∙ rest

joined : (au : ℕ) (c : Copy) (cs : List Copy) → length (blocks_at au cs) ≤ length (blocks_at au (cs ++ c ∷ []))
joined au c [] = omega arith
joined au c (x ∷ cs) = here (eqb x.au au) (joined au c cs)
  where
    here : (b : Bool) → length (blocks_at au cs) ≤ length (blocks_at au (cs ++ c ∷ []))
        → length (blocks_in (cond b (Some x) (copy_at au cs)))
        ≤ length (blocks_in (cond b (Some x) (copy_at au (cs ++ c ∷ []))))
    here true rest = omega arith
    here false rest = rest

no_fewer : (ps : List Poll) (r : Record) (cs : List Copy) (au : ℕ)
    → length (blocks_at au cs) ≤ length (blocks_at au (copies_after ps r cs))
no_fewer ps r cs au = by_record r
  where
    as_many : (xs ys : List (List ℕ)) → length ys ≡ length xs → length xs ≤ length ys
    as_many xs ys e = omega (arith, e)

    by_record : (r : Record) → length (blocks_at au cs) ≤ length (blocks_at au (copies_after ps r cs))
    by_record (Deposit a blocks) = here (is_some _)
      where
        here : (b : Bool)
            → length (blocks_at au cs) ≤ length (blocks_at au (cond b cs (cs ++ deposited_copy a blocks ∷ [])))
        here true = omega arith
        here false = joined au _ cs
    by_record (PollOpened number a nonce inner tick limits kind) =
        as_many _ _ (grows au a _ cs (λ c. refl) (λ c. refl))
    by_record (Replaced number a block bytes) =
        as_many _ _ (grows au a _ cs (λ c. refl) (λ c. length-set c.blocks block bytes))
    by_record (Overdue a tick) = as_many _ _ (grows au a noted_overdue cs (λ c. refl) (λ c. refl))
    by_record (Closed number Agreed tick) = here (poll_at number ps)
      where
        here : (o : Option Poll) → length (blocks_at au cs) ≤ length (blocks_at au (agreed_on o tick cs))
        here None = omega arith
        here (Some p) = as_many _ _ (grows au p.opening.au _ cs (λ c. refl) (λ c. refl))
    by_record r = omega arith

-- Requests stay within their AUs.

module _ (own : Station) (s : State) where
  asks_on : (r : Record) (p : Poll) → AsksWithin s.copies p → AsksWithin (copies_after s.polls r s.copies) p
  asks_on r p within = here p.request within
    where
      longer : length (blocks_at p.opening.au s.copies)
          ≤ length (blocks_at p.opening.au (copies_after s.polls r s.copies))
      longer = no_fewer s.polls r s.copies p.opening.au

      here : (o : Option Request) → Where o (λ q. q.block < length (blocks_at p.opening.au s.copies))
          → Where o (λ q. q.block < length (blocks_at p.opening.au (copies_after s.polls r s.copies)))
      here None within = tt
      here (Some q) within = omega (arith, within, longer)

  -- whatever changes in poll n, it asks within its AU
  still : (n : ℕ) (f : Poll → Poll) → ((p : Poll) → AsksWithin s.copies p → AsksWithin s.copies (f p)) → IsSound s
      → All (AsksWithin s.copies) (changed_poll n f s.polls)
  still n f keep is = changed_each _ n f s.polls (whatever _ keep _) is.asks

  either : (P : Poll → Type 0) (b : Bool) (x y : Poll) → P x → P y → P (cond b x y)
  either P true x y px py = px
  either P false x y px py = py

  asked_within : (n b v : ℕ) (o : Option Poll)
      → Where o (λ p. (p.shut ≡ true) × (p.request ≡ None) × (b < length (blocks_at p.opening.au s.copies)))
      → Where o (λ p. AsksWithin s.copies p → AsksWithin s.copies (request_sent (record { block = b; voter = v }) p))
  asked_within n b v None fits = tt
  asked_within n b v (Some p) fits = λ before. fits.2

  polls_asking : (r : Record) → Fits own s r → IsSound s → All (AsksWithin s.copies) (polls_after own.rules r s.polls)
  polls_asking (PollOpened number au nonce inner tick limits kind) fits is =
      All-push (AsksWithin s.copies) s.polls _ is.asks tt
  polls_asking (Nominated number voter nominees) fits is = still number _ (λ p within. within) is
  polls_asking (OuterOpened number outer) fits is = still number _ (λ p within. within) is
  polls_asking (VoteIn number voter hashes) fits is =
      still number _ (λ p within. either (AsksWithin s.copies) _ _ _ within within) is
  polls_asking (Shut number) fits is = still number shut_now (λ p within. within) is
  polls_asking (Asked number block voter) fits is =
      changed_each _ number _ s.polls (asked_within number block voter _ fits) is.asks
  polls_asking (RepairBad number block voter) fits is = still number request_answered _ is
  polls_asking (Replaced number au block bytes) fits is = still number request_answered _ is
  polls_asking (Closed number outcome tick) fits is = without_each (AsksWithin s.copies) number s.polls is.asks
  polls_asking r fits is = is.asks

  copies_counted : (r : Record) → Fits own s r → IsSound s → All HasBlocks (copies_after s.polls r s.copies)
  copies_counted (Deposit au blocks) fits is = here (is_some _)
    where
      here : (b : Bool) → All HasBlocks (cond b s.copies (s.copies ++ deposited_copy au blocks ∷ []))
      here true = is.counted
      here false = All-push HasBlocks s.copies _ is.counted fits.0
  copies_counted (PollOpened number au nonce inner tick limits kind) fits is =
      copy_each HasBlocks au _ s.copies (λ c has. has) is.counted
  copies_counted (Replaced number au block bytes) fits is =
      copy_each HasBlocks au _ s.copies
      (λ c has. subst (λ n. (1 ≤ n) × (n ≤ MOST_BLOCKS)) (sym (length-set c.blocks block bytes)) has) is.counted
  copies_counted (Overdue au tick) fits is = copy_each HasBlocks au noted_overdue s.copies (λ c has. has) is.counted
  copies_counted (Closed number Agreed tick) fits is = here (poll_at number s.polls)
    where
      here : (o : Option Poll) → All HasBlocks (agreed_on o tick s.copies)
      here None = is.counted
      here (Some p) = copy_each HasBlocks p.opening.au _ s.copies (λ c has. has) is.counted
  copies_counted r fits is = is.counted

  copies_small : (r : Record) → Fits own s r → IsSound s → All HasSmall (copies_after s.polls r s.copies)
  copies_small (Deposit au blocks) fits is = here (is_some _)
    where
      here : (b : Bool) → All HasSmall (cond b s.copies (s.copies ++ deposited_copy au blocks ∷ []))
      here true = is.small
      here false = All-push HasSmall s.copies _ is.small fits.2
  copies_small (PollOpened number au nonce inner tick limits kind) fits is =
      copy_each HasSmall au _ s.copies (λ c has. has) is.small
  copies_small (Replaced number au block bytes) fits is =
      copy_each HasSmall au _ s.copies
      (λ c has. All-set (λ (b : List ℕ). length b ≤ MOST_BLOCK_BYTES) c.blocks block bytes fits.1 has) is.small
  copies_small (Overdue au tick) fits is = copy_each HasSmall au noted_overdue s.copies (λ c has. has) is.small
  copies_small (Closed number Agreed tick) fits is = here (poll_at number s.polls)
    where
      here : (o : Option Poll) → All HasSmall (agreed_on o tick s.copies)
      here None = is.small
      here (Some p) = copy_each HasSmall p.opening.au _ s.copies (λ c has. has) is.small
  copies_small r fits is = is.small

  -- Sessions.

  copy_well : (cs : List Copy) → All HasBlocks cs → All HasSmall cs → (au : ℕ) → is_some (copy_at au cs) ≡ true
      → AreWell (blocks_at au cs)
  copy_well [] counted small au e = absurd cc
  copy_well (c ∷ cs) counted small au e =
      here (eqb c.au au) e (λ e. copy_well cs (All-tail HasBlocks c cs counted) (All-tail HasSmall c cs small) au e)
    where
      here : (b : Bool) → is_some (cond b (Some c) (copy_at au cs)) ≡ true
          → (is_some (copy_at au cs) ≡ true → AreWell (blocks_at au cs))
          → AreWell (blocks_in (cond b (Some c) (copy_at au cs)))
      here true e rest = (All-head HasBlocks c cs counted, All-head HasSmall c cs small)
      here false e rest = rest e

  -- an AU that is held stays held
  held_still : (r : Record) (au : ℕ) → is_some (copy_at au s.copies) ≡ true
      → is_some (copy_at au (copies_after s.polls r s.copies)) ≡ true
  held_still r au held = by_record r
    where
      changed_held : (a : ℕ) (f : Copy → Copy) (cs : List Copy) → ((c : Copy) → (f c).au ≡ c.au)
          → is_some (copy_at au cs) ≡ true → is_some (copy_at au (copy_changed a f cs)) ≡ true
      changed_held a f [] same e = e
      changed_held a f (c ∷ cs) same e = here (eqb c.au a) (eqb c.au au) refl e (λ e. changed_held a f cs same e)
        where
          here : (b d : Bool) → eqb c.au au ≡ d → is_some (cond d (Some c) (copy_at au cs)) ≡ true
              → (is_some (copy_at au cs) ≡ true → is_some (copy_at au (copy_changed a f cs)) ≡ true)
              → is_some (copy_at au (cond b (f c ∷ cs) (c ∷ copy_changed a f cs))) ≡ true
          here true true at e rest =
              ap (λ t. is_some (cond t (Some (f c)) (copy_at au cs))) (ap (λ k. eqb k au) (same c) ∙ at)
          here true false at e rest =
              ap (λ t. is_some (cond t (Some (f c)) (copy_at au cs))) (ap (λ k. eqb k au) (same c) ∙ at) ∙ e
          here false true at e rest = ap (λ t. is_some (cond t (Some c) (copy_at au (copy_changed a f cs)))) at
          here false false at e rest =
              ap (λ t. is_some (cond t (Some c) (copy_at au (copy_changed a f cs)))) at ∙ rest e

      pushed_held : (cs : List Copy) (c : Copy) → is_some (copy_at au cs) ≡ true
          → is_some (copy_at au (cs ++ c ∷ [])) ≡ true
      pushed_held [] c e = absurd cc
      pushed_held (x ∷ cs) c e = here (eqb x.au au) e (λ e. pushed_held cs c e)
        where
          here : (b : Bool) → is_some (cond b (Some x) (copy_at au cs)) ≡ true
              → (is_some (copy_at au cs) ≡ true → is_some (copy_at au (cs ++ c ∷ [])) ≡ true)
              → is_some (cond b (Some x) (copy_at au (cs ++ c ∷ []))) ≡ true
          here true e rest = refl
          here false e rest = rest e

      by_record : (r : Record) → is_some (copy_at au (copies_after s.polls r s.copies)) ≡ true
      by_record (Deposit a blocks) = here (is_some _)
        where
          here : (b : Bool) → is_some (copy_at au (cond b s.copies (s.copies ++ deposited_copy a blocks ∷ []))) ≡ true
          here true = held
          here false = pushed_held s.copies (deposited_copy a blocks) held
      by_record (PollOpened number a nonce inner tick limits kind) =
          changed_held a (opened_at tick) s.copies (λ c. refl) held
      by_record (Replaced number a block bytes) = changed_held a (replaced_in block bytes) s.copies (λ c. refl) held
      by_record (Overdue a tick) = changed_held a noted_overdue s.copies (λ c. refl) held
      by_record (Closed number Agreed tick) = here (poll_at number s.polls)
        where
          here : (o : Option Poll) → is_some (copy_at au (agreed_on o tick s.copies)) ≡ true
          here None = held
          here (Some p) = changed_held p.opening.au (agreed_at tick) s.copies (λ c. refl) held
      by_record r = held

  held_on : (r : Record) (x : Session) → IsOnHeld s.copies x → IsOnHeld (copies_after s.polls r s.copies) x
  held_on r x on = held_still r x.joined.au on

  sessions_held : (r : Record) → Fits own s r → IsSound s
      → All (IsOnHeld s.copies) (voter_after own.rules (λ au. blocks_at au s.copies) r s.voter).sessions
  sessions_held (records.Joined q au tick low repairs) fits is =
      All-push (IsOnHeld s.copies) s.voter.sessions _ is.held fits
  sessions_held (records.Committed q nonce version kind) fits is =
      without_any (IsOnHeld s.copies) _ s.voter.sessions is.held
  sessions_held (records.Ended q) fits is = without_any (IsOnHeld s.copies) _ s.voter.sessions is.held
  sessions_held r fits is = is.held

  pinning_well : (c : Commitment) (o : Option Session) → Where o (IsOnHeld s.copies) → IsSound s
      → All IsPinnedWell (s.voter.pinned ++ pins_of (λ au. blocks_at au s.copies) c o)
  pinning_well c None on is = subst (All IsPinnedWell) (sym (append-nil s.voter.pinned)) is.pinned
  pinning_well c (Some x) on is =
      All-push IsPinnedWell s.voter.pinned _ is.pinned (copy_well s.copies is.counted is.small x.joined.au on)

  pinned_well : (r : Record) → Fits own s r → IsSound s
      → All IsPinnedWell (voter_after own.rules (λ au. blocks_at au s.copies) r s.voter).pinned
  pinned_well (records.Committed q nonce version kind) fits is =
      pinning_well _ _ (any_where _ _ s.voter.sessions is.held) is
  pinned_well (records.Voted q hashes) fits is = without_any IsPinnedWell _ s.voter.pinned is.pinned
  pinned_well (records.Ended q) fits is = without_any IsPinnedWell _ s.voter.pinned is.pinned
  pinned_well r fits is = is.pinned

  casting_well : (hashes : List (List ℕ)) (o : Option Pinned) → length hashes ≤ MOST_BLOCKS → Where o IsPinnedWell
      → IsSound s → All IsCastWell (s.voter.cast ++ casts_of hashes o)
  casting_well hashes None few on is = subst (All IsCastWell) (sym (append-nil s.voter.cast)) is.cast
  casting_well hashes (Some p) few on is = All-push IsCastWell s.voter.cast _ is.cast (on, few)

  cast_well : (r : Record) → Fits own s r → IsSound s
      → All IsCastWell (voter_after own.rules (λ au. blocks_at au s.copies) r s.voter).cast
  cast_well (records.Voted q hashes) fits is =
      casting_well hashes _ fits.0 (any_where IsPinnedWell _ s.voter.pinned is.pinned) is
  cast_well (records.Served q block) fits is = changed_any IsCastWell _ _ s.voter.cast (λ c well. well) is.cast
  cast_well (records.Ended q) fits is = without_any IsCastWell _ s.voter.cast is.cast
  cast_well r fits is = is.cast

  numbers_legal : (r : Record) → Fits own s r → IsSound s
      → AreLegal (numbers_after s.numbers r).quorum (numbers_after s.numbers r).minority
  numbers_legal (records.Tuned quorum minority repairs) fits is = fits.0
  numbers_legal r fits is = is.legal

  repairs_few : (r : Record) → Fits own s r → IsSound s → (numbers_after s.numbers r).repairs ≤ MOST_REPAIRS
  repairs_few (records.Tuned quorum minority repairs) fits is = fits.1
  repairs_few r fits is = is.repairs

  pub sound_after : (r : Record) → Fits own s r → IsSound s → IsSound (after own s r)
  unfolding after
  sound_after r fits is = record {
    counted = copies_counted r fits is;
    asks =
        All-weaker _ _ (asks_on r) _ (polls_asking r fits is);
    small = copies_small r fits is;
    held =
        All-weaker _ _ (held_on r) (voter_after own.rules _ r s.voter).sessions (sessions_held r fits is);
    pinned = pinned_well r fits is;
    cast = cast_well r fits is;
    legal = numbers_legal r fits is;
    repairs = repairs_few r fits is;
  }

-- What the rules add.

module _ (own : Station) (s : State) (few : own.rules.inner ≤ MOST_CIRCLE) (room : has_room s ≡ true)
    (sound : IsSound s) where
  room_parts : (ltb s.openings most_numbered ≡ true)
      × (list_all (λ (c : Copy). ltb c.version most_numbered) s.copies ≡ true) × (marks_left s.voter ≡ true)
  room_parts =
      let all = and_parts
      (ltb s.openings most_numbered && list_all (λ (c : Copy). ltb c.version most_numbered) s.copies)
      (marks_left s.voter) room in
      let first = and_parts (ltb s.openings most_numbered)
      (list_all (λ (c : Copy). ltb c.version most_numbered) s.copies) all.0 in
      (first.0, first.1, all.1)

  -- a poll that runs, as it is found
  for_found : (n : ℕ) (row : Poll → Reaction)
      → ((p : Poll) → poll_at n s.polls ≡ Some p → AreFitting own s (row p).records)
      → AreFitting own s (for_poll (poll_at n s.polls) row).records
  for_found n row fits = here (poll_at n s.polls) refl
    where
      here : (o : Option Poll) → poll_at n s.polls ≡ o → AreFitting own s (for_poll o row).records
      here None is = tt
      here (Some p) is = fits p is

  -- what is done where it may be
  where_may : (b : Bool) (does : Reaction) → (b ≡ true → AreFitting own s does.records)
      → AreFitting own s (if_may b does).records
  where_may true does fits = fits refl
  where_may false does fits = tt

  -- the poll that was found is the one of its number
  found_again : (n : ℕ) (p : Poll) → poll_at n s.polls ≡ Some p → poll_at p.number s.polls ≡ Some p
  found_again n p is = ap (λ m. poll_at m s.polls) (poll_named n s.polls is) ∙ is
    where
      poll_named : (n : ℕ) (ps : List Poll) → poll_at n ps ≡ Some p → p.number ≡ n
      poll_named n [] e = absurd cc
      poll_named n (x ∷ ps) e = here (eqb x.number n) refl e (poll_named n ps)
        where
          here : (b : Bool) → eqb x.number n ≡ b → cond b (Some x) (poll_at n ps) ≡ Some p
              → (poll_at n ps ≡ Some p → p.number ≡ n) → p.number ≡ n
          here true is e rest = let same : x ≡ p = cc in subst (λ y. y.number ≡ n) same (eqb-true x.number n is)
          here false is e rest = rest e

  at_found : (P : Poll → Type 0) (n : ℕ) (p : Poll) → poll_at n s.polls ≡ Some p → P p
      → Where (poll_at p.number s.polls) P
  at_found P n p is fits = subst (λ o. Where o P) (sym (found_again n p is)) fits

  -- A block of the AU, which may be replaced.

  versions_left : (cs : List Copy) → list_all (λ (c : Copy). ltb c.version most_numbered) cs ≡ true → (au : ℕ)
      → Where (copy_at au cs) (λ c. c.version < most_numbered)
  versions_left [] all au = tt
  versions_left (c ∷ cs) all au =
      let parts = and_parts _ _
      all in
      here (eqb c.au au) (ltb-true c.version most_numbered parts.0) (versions_left cs parts.1 au)
    where
      here : (b : Bool) → c.version < most_numbered → Where (copy_at au cs) (λ c. c.version < most_numbered)
          → Where (cond b (Some c) (copy_at au cs)) (λ c. c.version < most_numbered)
      here true less rest = less
      here false less rest = rest

  replaces : (au b : ℕ) → b < length (blocks_at au s.copies)
      → Where (copy_at au s.copies) (λ c. (b < length c.blocks) × (c.version < most_numbered))
  replaces au b within = here (copy_at au s.copies) within (versions_left s.copies room_parts.1 au)
    where
      here : (o : Option Copy) → b < length (blocks_in o) → Where o (λ c. c.version < most_numbered)
          → Where o (λ c. (b < length c.blocks) × (c.version < most_numbered))
      here None within less = tt
      here (Some c) within less = (within, less)

  -- The rows.

  open_fits : (tick au : ℕ) → AreFitting own s (open_in own s tick au).records
  unfolding open_in may_open_in inner_of
  open_fits tick au =
      where_may _ (opened_as own s tick au (s.openings + 1))
      (λ may. ((held (copy_at au s.copies) may, few_picked, ltb-true s.openings most_numbered room_parts.0), tt))
    where
      held : (o : Option Copy) → may_open_copy tick own.rules.pace au s.polls o ≡ true → is_some o ≡ true
      held None e = absurd cc
      held (Some c) e = refl

      few_picked : length (inner_of own (s.openings + 1) s.refs) ≤ MOST_CIRCLE
      few_picked =
          let d = drawn_from own.seed 1 (s.openings + 1) in
          let pick = pick_law _ (word_fits d.key) d.place s.refs own.rules.inner in
          omega (arith, pick.count, few)

  widen_fits : (n : ℕ) (p : Poll) → poll_at n s.polls ≡ Some p → AreFitting own s (widen_in own p).records
  unfolding widen_in
  widen_fits n p is = where_may (not p.shut && not (is_some p.outer)) _ _

  shut_fits : (tick n : ℕ) (p : Poll) → poll_at n s.polls ≡ Some p → AreFitting own s (shut_in own tick p).records
  unfolding shut_in
  shut_fits tick n p is = where_may (not p.shut) _ (λ may. by_quorum (ltb _ (limits_of own.rules p.opening).quorum))
    where
      by_quorum : (b : Bool) → AreFitting own s (cond {A = Reaction} b
          (record {
            records = records.Shut p.number ∷ records.Closed p.number outcome.Inquorate tick ∷ [];
            sends = receipts_of p;
          })
          (record { records = records.Shut p.number ∷ []; sends = [] })).records
      by_quorum true =
          let later = after own s _ in
          (tt, (whatever (λ q. FitsOutcome own later q outcome.Inquorate) _ (poll_at p.number later.polls), tt))
      by_quorum false = (tt, tt)

  closed_fits : (tick : ℕ) (p : Poll) (how : Outcome) → ((q : Poll) → FitsOutcome own s q how)
      → AreFitting own s (closed_as p tick how).records
  unfolding closed_as
  closed_fits tick p how fits = (whatever _ fits _, tt)

  tally_fits : (tick n : ℕ) (p : Poll) → poll_at n s.polls ≡ Some p
      → AreFitting own s (tally_in own tick s.copies p).records
  unfolding tally_in verdict_of closed_as
  tally_fits tick n p is = where_may _ _ (λ may. by_verdict (verdict_of own p blocks) refl (and_parts p.shut _ may))
    where
      blocks : List (List ℕ)
      blocks = blocks_at p.opening.au s.copies

      idle : (o : Option Request) → not (is_some o) ≡ true → o ≡ None
      idle None e = refl
      idle (Some r) e = absurd cc

      lost : (b : ℕ) → verdict_of own p blocks ≡ verdict.Loss b → b < length blocks
      lost b is =
          let limits = limits_of own.rules p.opening in
          (loss_first limits.minority _ p.inner_votes blocks
          limits.quorum b is).1.within

      by_voter : (b : ℕ) (v : Option ℕ) → b < length blocks → (p.shut ≡ true) × (not (is_some p.request) ≡ true)
          → AreFitting own s (asked_for p tick b v).records
      by_voter b None within may = closed_fits tick p (outcome.NoSupplier b) _
      by_voter b (Some v) within may = (
        at_found _ n p is (may.0, idle p.request may.1, within),
        tt,
      )

      by_verdict : (v : Verdict) → verdict_of own p blocks ≡ v → (p.shut ≡ true) × (not (is_some p.request) ≡ true)
          → AreFitting own s (tallied_as own p tick blocks v).records
      by_verdict verdict.Inquorate said may = tt
      by_verdict verdict.Agreed said may = (at_found _ n p is said, tt)
      by_verdict (verdict.Split b) said may = closed_fits tick p (outcome.Split b) _
      by_verdict (verdict.Loss b) said may = by_voter b (supplier own p b blocks) (lost b said) may

  nudge_fits : (n : ℕ) (p : Poll) → poll_at n s.polls ≡ Some p → AreFitting own s (nudge_in p).records
  unfolding nudge_in
  nudge_fits n p is = by_shut (not p.shut) p.request
    where
      by_shut : (b : Bool) (o : Option Request)
          → AreFitting own s
          (cond {A = Reaction} b
          (record { records = []; sends = map (letter (message.Poll p.number p.opening.au)) (silent_in p) })
          (asked_again p.number o)).records
      by_shut true o = tt
      by_shut false None = tt
      by_shut false (Some r) = tt

  give_up_fits : (n : ℕ) (p : Poll) → poll_at n s.polls ≡ Some p → AreFitting own s (give_up_in p).records
  unfolding give_up_in
  give_up_fits n p is = by_request p.request
    where
      by_request : (o : Option Request) → AreFitting own s (given_up p.number o).records
      by_request None = tt
      by_request (Some r) = (tt, tt)

  overdue_fit : (t : State) (tick : ℕ) (aus : List AuPlan)
      → AreFitting own t (filter_map (overdue_of own s.copies tick) aus)
  overdue_fit t tick [] = tt
  overdue_fit t tick (au ∷ aus) = here (must_note_copy own tick _) (λ t. overdue_fit t tick aus)
    where
      here : (b : Bool) → ((t : State) → AreFitting own t (filter_map (overdue_of own s.copies tick) aus))
          → AreFitting own t
          (cons_option (cond b (Some (records.Overdue au.id tick)) None)
          (filter_map (overdue_of own s.copies tick) aus))
      here true rest = (tt, rest _)
      here false rest = rest t

  vote_fits : (from : ℕ) (hashes : List (List ℕ)) (judged : Judged) (n : ℕ) (p : Poll) → poll_at n s.polls ≡ Some p
      → AreFitting own s (vote_in_poll from hashes judged s.copies p).records
  unfolding vote_in_poll is_invited_to
  vote_fits from hashes judged n p is =
      where_may _ _
      (λ may.
      let taken = and_parts (is_accepted judged)
      _ may in
      let parts = and_parts (not p.shut)
      _ taken.1 in
      let rule = and_parts (is_invited_to p from && not (has_member p.voters from))
      (eqb (length hashes) (length (blocks_at p.opening.au s.copies))) parts.1 in
      let new = (and_parts _ (not (has_member p.voters from)) rule.0).1 in (
        (
          ap is_some (found_again n p is),
          at_found
              (λ q. (has_member q.voters from ≡ false) × (length hashes ≡ length (blocks_at q.opening.au s.copies)))
              n p is (
                not-true _ new,
                eqb-true (length hashes) (length (blocks_at p.opening.au s.copies)) rule.1,
              ),
          room_parts.2,
        ),
        tt,
      ))

  repair_fits : (from b : ℕ) (bytes : List ℕ) → length bytes ≤ MOST_BLOCK_BYTES → (n : ℕ) (p : Poll)
      → poll_at n s.polls ≡ Some p → AreFitting own s (repair_in own from b bytes s.copies p).records
  unfolding repair_in
  repair_fits from b bytes small n p is =
      where_may _ _
      (λ may. by_votes (said_of own p b bytes _) (within p.request may asked))
    where
      asked : Where p.request (λ r. r.block < length (blocks_at p.opening.au s.copies))
      asked = subst (λ o. Where o (AsksWithin s.copies)) is (poll_where _ n s.polls sound.asks)

      within : (o : Option Request) → is_request b from o ≡ true
          → Where o (λ r. r.block < length (blocks_at p.opening.au s.copies))
          → b < length (blocks_at p.opening.au s.copies)
      within None e less = absurd cc
      within (Some r) e less =
          subst (λ k. k < length (blocks_at p.opening.au s.copies)) (eqb-true r.block b (and_parts _ _ e).0) less

      by_votes : (won : Bool) → b < length (blocks_at p.opening.au s.copies) → AreFitting own s (cond {A = Reaction} won
          (record { records = records.Replaced p.number p.opening.au b bytes ∷ []; sends = [] })
          (record { records = records.RepairBad p.number b from ∷ []; sends = [] })).records
      by_votes true less = ((replaces p.opening.au b less, small), tt)
      by_votes false less = (tt, tt)

  challenge_fits : (from : ℕ) (agrees : Bool) (n : ℕ) (p : Poll) → poll_at n s.polls ≡ Some p
      → AreFitting own s (challenge_in own from agrees p).records
  unfolding challenge_in
  challenge_fits from agrees n p is = by_rule (agrees && may_prove p from)
    where
      by_rule : (b : Bool)
          → AreFitting own s
          (if_may b
          (record {
            records = [];
            sends = letter (message.PollProof p.number p.opening.nonce p.opening.kind own.proof) from
                ∷ [];
          })).records
      by_rule true = tt
      by_rule false = tt

  nominate_fits : (from : ℕ) (nominees : List ℕ) (n : ℕ) (p : Poll) → poll_at n s.polls ≡ Some p
      → AreFitting own s (nominate_in from nominees p).records
  unfolding nominate_in
  nominate_fits from nominees n p is =
      where_may _
      (record { records = records.Nominated p.number from nominees ∷ []; sends = [] }) _

  -- The rows of a voter.

  either_fits : (b : Bool) (x y : Reaction) → (b ≡ true → AreFitting own s x.records)
      → (b ≡ false → AreFitting own s y.records) → AreFitting own s (cond b x y).records
  either_fits true x y one other = one refl
  either_fits false x y one other = other refl

  nothing_fits : (b : Bool) (x : Reaction) → (b ≡ true → AreFitting own s x.records)
      → AreFitting own s (cond b x no_effect).records
  nothing_fits true x one = one refl
  nothing_fits false x one = tt

  invitation_fits : (tick : ℕ) (q : PollName) (au : ℕ)
      → AreFitting own s (invitation_in own s.voter s.copies s.numbers.repairs tick q au).records
  unfolding invitation_in may_join_in
  invitation_fits tick q au =
      either_fits (is_open q s.voter) _ _ _ (λ closed. either_fits (may_join_in own s.voter s.copies tick q au)
      _ _ (λ may.
      let all = and_parts _ _ may in
      let first = and_parts _ _ all.0 in
      ((and_parts _ _ first.0).1, tt)) (λ may_not. tt))

  proof_fits : (q : PollName) (nonce : List ℕ) (kind : HashKind) (judged : Judged)
      → AreFitting own s (proof_in own s.voter s.copies s.refs q nonce kind judged).records
  unfolding proof_in
  proof_fits q nonce kind judged =
      by_state (session_at q s.voter.sessions) (pinned_at q s.voter.pinned) (cast_at q s.voter.cast)
    where
      by_judged : (x : Session) (judged : Judged)
          → AreFitting own s (commits own s.refs q (version_at x.joined.au s.copies) nonce kind judged).records
      by_judged x Accepted = (tt, tt)
      by_judged x Refused = (tt, tt)
      by_judged x NotAsked = tt

      by_state : (x : Option Session) (p : Option Pinned) (c : Option Cast)
          → AreFitting own s (proof_at own s.copies s.refs q nonce kind judged x p c).records
      by_state (Some x) p c = by_judged x judged
      by_state None (Some p) c = nothing_fits (repeats p.committed.commitment nonce kind) _ _
      by_state None None (Some c) = nothing_fits (repeats c.voted.committed.commitment nonce kind) _ _
      by_state None None None = tt

  work_fits : (q : PollName) → AreFitting own s (work_in own s.voter q).records
  unfolding work_in hashes_for vote_hashes
  work_fits q = by_state (pinned_at q s.voter.pinned) (any_where IsPinnedWell _ s.voter.pinned sound.pinned)
    where
      by_state : (p : Option Pinned) → Where p IsPinnedWell → AreFitting own s (work_at own q p).records
      by_state None well = tt
      by_state (Some p) well =
          ((subst (λ n. n ≤ MOST_BLOCKS) (sym (hashes_length _ _ p.blocks)) well.0.1, room_parts.2), tt)

  request_fits : (q : PollName) (b : ℕ) → AreFitting own s (request_in s.voter q b).records
  unfolding request_in
  request_fits q b = by_state (cast_at q s.voter.cast) refl
    where
      by_answer : (c : Cast) → cast_at q s.voter.cast ≡ Some c → (bytes : List ℕ) (a : Serve)
          → answer_of c.voted.served b c.repairs ≡ a → AreFitting own s (gives q b bytes a).records
      by_answer c found bytes First new = (subst (λ o. Where o (MayHave b)) (sym found) new, tt)
      by_answer c found bytes Again old = tt
      by_answer c found bytes Spent late = tt

      by_block : (c : Cast) → cast_at q s.voter.cast ≡ Some c → (o : Option (List ℕ))
          → AreFitting own s (serves q b c.repairs c.voted.served o).records
      by_block c found None = tt
      by_block c found (Some bytes) = by_answer c found bytes (answer_of c.voted.served b c.repairs) refl

      by_state : (o : Option Cast) → cast_at q s.voter.cast ≡ o → AreFitting own s (request_at q b o).records
      by_state None found = tt
      by_state (Some c) found = by_block c found (slice_get c.blocks b)

  end_fits : (q : PollName) → AreFitting own s (end_in s.voter q).records
  unfolding end_in
  end_fits q = nothing_fits (is_open q s.voter) _ _

  tune_fits : (quorum minority repairs : ℕ) → AreFitting own s (on_tune own quorum minority repairs).records
  unfolding on_tune may_tune
  tune_fits quorum minority repairs = nothing_fits _ _ (λ may.
      let all = and_parts _
      (leb repairs MOST_REPAIRS) may in
      let three = and_parts _ (obeys_quorum_rule quorum minority) all.0 in
      let two = and_parts (leb 1 quorum) _ three.0 in
      let low = leb-true quorum own.rules.inner two.1 in
      (((leb-true 1 quorum two.0, omega (arith, low, few), three.1), leb-true repairs MOST_REPAIRS all.1), tt))

  -- All rows.

  receive_fits : (tick from : ℕ) (m : Message) (judged : Judged) → IsWithin m
      → AreFitting own s (receive_in own s tick from m judged).records
  receive_fits tick from (message.Poll n au) judged within = invitation_fits tick _ au
  receive_fits tick from (message.PollChallenge n agrees) judged within = for_found n _ (challenge_fits from agrees n)
  receive_fits tick from (message.PollProof n nonce kind proof) judged within = proof_fits _ nonce kind judged
  receive_fits tick from (message.Nominate n nominees) judged within = for_found n _ (nominate_fits from nominees n)
  receive_fits tick from (message.Vote n hashes proof) judged within = for_found n _ (vote_fits from hashes judged n)
  receive_fits tick from (message.RepairRequest n b) judged within = request_fits _ b
  receive_fits tick from (message.Repair n b bytes) judged within =
      for_found n _ (repair_fits from b bytes within.1 n)
  receive_fits tick from (message.Receipt n) judged within = end_fits _

  pub reaction_fits : (tick : ℕ) (i : Input) → IsHeard i → AreFitting own s (react_on own s tick i).records
  unfolding react_on check_in
  reaction_fits tick (input.OpenPoll au) heard = open_fits tick au
  reaction_fits tick (input.Widen n) heard = for_found n _ (widen_fits n)
  reaction_fits tick (input.Shut n) heard = for_found n _ (shut_fits tick n)
  reaction_fits tick (input.Tally n) heard = for_found n _ (tally_fits tick n)
  reaction_fits tick (input.Nudge n) heard = for_found n nudge_in (nudge_fits n)
  reaction_fits tick (input.GiveUp n) heard = for_found n give_up_in (give_up_fits n)
  reaction_fits tick (input.Work q) heard = work_fits q
  reaction_fits tick (input.Expire q) heard = end_fits q
  reaction_fits tick input.Check heard = overdue_fit s tick own.aus
  reaction_fits tick (input.Tune quorum minority repairs) heard = tune_fits quorum minority repairs
  reaction_fits tick (input.Got from m judged) heard = receive_fits tick from m judged heard
