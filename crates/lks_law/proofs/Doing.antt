-- What each row adds and sends.
use Rattle.std.proofs.Common.{◌≡◌, ◌≤◌, ◌<◌, ◌^◌, ◌+◌, ◌∙◌, ◌⊎◌, inl, inr, ap, sym, subst, ℕ, Bool, true, false, cond}
use Rattle.std.proofs.Common.{eqb, List, [], ◌∷◌, ◌++◌, length, refl, arith}
use Rattle.std.specs.Prelude.{Option, Some, None, is_some, not, map, ◌&&◌, slice_get}
use Rattle.std.specs.List.{filter_map, cons_option, list_any}
use Rattle.std.proofs.lemmas.Bool.{eqb-true, eq-eqb, and_parts, cond_both}
use Rattle.lks_base.specs.declared.limits.TheConstants.{MOST_BLOCK_BYTES}
use Rattle.lks_base.specs.declared.messages.Message.{Message}
use Rattle.lks_base.specs.declared.messages.Message.TheVariants as message
use Rattle.lks_base.specs.declared.names.HashKind.{HashKind}
use Rattle.lks_base.specs.declared.names.Judged.{Judged}
use Rattle.lks_base.specs.declared.names.Judged.TheVariants.{NotAsked, Accepted, Refused}
use Rattle.lks_base.specs.declared.names.Outcome.{Outcome}
use Rattle.lks_base.specs.declared.names.Outcome.TheVariants as outcome
use Rattle.lks_base.specs.declared.names.PollName.{PollName}
use Rattle.lks_base.specs.declared.plans.AuPlan.{AuPlan}
use Rattle.lks_base.specs.declared.reactions.Input.{Input}
use Rattle.lks_base.specs.declared.reactions.Input.TheVariants as input
use Rattle.lks_base.specs.declared.reactions.Outgoing.{Outgoing}
use Rattle.lks_base.specs.declared.reactions.Reaction.{Reaction}
use Rattle.lks_base.specs.declared.records.Record.{Record}
use Rattle.lks_base.specs.declared.records.Record.TheVariants as records
use Rattle.lks_hash.specs.Hashes.{nonce_from}
use Rattle.lks_law.specs.Journal.{Opening, Request, deposit_of, contents_of, contents_at, opening_in, opening_of}
use Rattle.lks_law.specs.Journal.{openings, is_opening, opens_running}
use Rattle.lks_law.specs.Journal.{unanswered_request}
use Rattle.lks_law.specs.Polls.{Station, limits_of, limits_in_force, verdict_in}
use Rattle.lks_law.specs.Polls.{candidate}
use Rattle.lks_law.specs.References.{inner_circle, outer_circle, reference_list}
use Rattle.lks_law.specs.Reaction.{no_effect, letter, for_opening, may_open, opens_poll, on_open}
use Rattle.lks_law.specs.Reaction.{on_widen, silent_voters, asked_again, on_nudge, given_up}
use Rattle.lks_law.specs.Reaction.{on_give_up, receipts, shut_inquorate, ends_voting, on_shut}
use Rattle.lks_law.specs.Reaction.{closes_poll, asks_supplier, follows_verdict, on_tally, must_note}
use Rattle.lks_law.specs.Reaction.{overdue_in, on_check, may_prove, sends_proof, on_challenge}
use Rattle.lks_law.specs.Reaction.{notes_nominees, on_nominate, may_vote, counts_vote, on_vote}
use Rattle.lks_law.specs.Reaction.{is_request, may_repair, takes_repair, on_repair}
use Rattle.lks_law.specs.Sessions.{Join, Commitment, first_in, hashes_in, join_of, commitment_of, hashes_of_vote}
use Rattle.lks_law.specs.Sessions.{served_blocks, is_session, version_now}
use Rattle.lks_law.specs.Voting.{poll_named, may_join, joins_poll, on_invitation, nominates, repeats}
use Rattle.lks_law.specs.Voting.{vote_again, commits, proved_to, on_proof, vote_hashes, casts_vote, on_work}
use Rattle.lks_law.specs.Voting.{most_served, repair, gives, serves, answers_request, on_request, on_end}
use Rattle.lks_law.specs.Voting.{on_tune}
use Rattle.lks_law.specs.Table.{on_message, reaction}
use Rattle.lks_law.specs.World.{Standing, peer_at}
use Rattle.lks_law.specs.Linked.{Has}
use Rattle.lks_law.proofs.Linked.{Each, Any, Heard, Fact}
use Rattle.lks_law.proofs.Growing.{opening_first, openings_grow}
use Rattle.lks_law.proofs.Grown.{openings_more}
use Rattle.lks_law.proofs.Knowing.{has_is, is_had, nonce_length, opening_fact, opened_low, deposit_fact, join_fact}
use Rattle.lks_law.proofs.Knowing.{committed_fact, IsWithin, request_fact, request_limits, repair_limits, vote_limits}
use Rattle.lks_law.proofs.Knowing.{voted_limits}
use Rattle.lks_law.proofs.Samples.{few_nominees}
use Rattle.lks_law.proofs.Letters.{Sends, sends_so, nominates_so}
use Rattle.lks_law.proofs.Linking.{says_grows}
use Rattle.lks_tally.specs.declared.ballots.Verdict.{Verdict}
use Rattle.lks_tally.specs.declared.ballots.Verdict.TheVariants as verdict
use Rattle.lks_tally.proofs.Deciding.{loss_first}
use Rattle.lks_voter.specs.Voting.{answer_of}
use Rattle.lks_voter.specs.declared.commitments.Serve.{Serve}
use Rattle.lks_voter.specs.declared.commitments.Serve.TheVariants.{First, Again, Spent}

-- what may be added, where the journal is so afterwards
abbrev pub MayAdd : List Standing → Station → List Record → List Record → Record → Type 0
MayAdd peers own js after (records.Deposit au blocks) = ⊥
MayAdd peers own js after (records.PollOpened n au nonce inner tick limits kind) =
    (opening_of n js ≡ None) × ((n ≤ openings after) × (length nonce ≡ 32) × (au < 2 ^ 16))
MayAdd peers own js after (records.Joined q au tick low repairs) =
    (join_of q js ≡ None) × Fact peers own js (records.Joined q au tick low repairs)
MayAdd peers own js after (records.Committed q nonce version kind) =
    (commitment_of q js ≡ None) × Fact peers own js (records.Committed q nonce version kind)
MayAdd peers own js after (records.Voted q hashes) =
    (hashes_of_vote q js ≡ None) × Fact peers own js (records.Voted q hashes)
MayAdd peers own js after r = Fact peers own js r

-- a record that stands as often as it may
abbrev pub IsCommon : Record → Type 0
IsCommon (records.PollOpened n au nonce inner tick limits kind) = ⊥
IsCommon (records.Joined q au tick low repairs) = ⊥
IsCommon (records.Committed q nonce version kind) = ⊥
IsCommon (records.Voted q hashes) = ⊥
IsCommon r = Unit {0}

pub record Does (peers : List Standing) (own : Station) (js : List Record) (r : Reaction) : Type 0 where
  pub adds_all : Each (MayAdd peers own js (js ++ r.records)) r.records
  pub one : openings r.records ≤ 1
  pub few : (length r.records ≤ 1) ⊎ Each IsCommon r.records
  pub sends_all : Each (Sends (js ++ r.records)) r.sends

pub none_open : openings [] ≡ 0
unfolding openings
none_open = refl

one_open : (r : Record) → openings (r ∷ []) ≤ 1
one_open r = by_test (is_opening r) (openings_more [] r)
  where
    by_test : (b : Bool) → openings (r ∷ []) ≡ openings [] + cond b 1 0 → openings (r ∷ []) ≤ 1
    by_test true e = let none = none_open in omega (arith, e, none)
    by_test false e = let none = none_open in omega (arith, e, none)

pub not_open : (r : Record) (rs : List Record) → is_opening r ≡ false → openings rs ≡ 0 → openings (r ∷ rs) ≡ 0
not_open r rs is rest =
    let one = openings_more [] r in
    let all = openings_grow (r ∷ []) rs in
    let first : openings _ ≡ openings [] + 0 = one ∙ ap (λ b. openings [] + cond b 1 0) is in
    let none = none_open in
    omega (arith, all, first, none, rest)

send_all : {X : Type 0} (js : List Record) (f : X → Outgoing) (xs : List X) → ((x : X) → Sends js (f x))
    → Each (Sends js) (map f xs)
send_all js f [] q = tt
send_all js f (x ∷ xs) q = (q x, send_all js f xs q)

first_new : {X : Type 0} (has : Record → Option X) (js added : List Record) → first_in has js ≡ None
    → first_in has (js ++ added) ≡ first_in has added
first_new has [] added e = refl
first_new {X = X} has (j ∷ js) added e = here (has j) e (first_new has js added)
  where
    here : (o : Option X) → cond (is_some o) o (first_in has js) ≡ None
        → (first_in has js ≡ None → first_in has (js ++ added) ≡ first_in has added)
        → cond (is_some o) o (first_in has (js ++ added)) ≡ first_in has added
    here None e rest = rest e
    here (Some y) e rest = absurd cc

module _ (peers : List Standing) (own : Station) (js : List Record) (all : Each (Fact peers own js) js)
    (room : openings js + 1 < 2 ^ 32) (proof : length own.proof ≤ 64) where
  does_nothing : Does peers own js no_effect
  does_nothing =
      record { adds_all = tt; one = (let none = none_open in omega (arith, none)); few = inr tt; sends_all = tt }

  does_if : (b : Bool) (r : Reaction) → (b ≡ true → Does peers own js r) → Does peers own js (cond b r no_effect)
  does_if b r does = cond_both b r no_effect (Does peers own js) does (λ e. does_nothing)

  does_opening : (o : Option Opening) (f : Opening → Reaction)
      → ((x : Opening) → o ≡ Some x → Does peers own js (f x)) → Does peers own js (for_opening o f)
  does_opening None f does = does_nothing
  does_opening (Some o) f does = does o refl

  -- one record, and messages
  does_one : (r : Record) (sends : List Outgoing) → MayAdd peers own js (js ++ r ∷ []) r
      → Each (Sends (js ++ r ∷ [])) sends → Does peers own js (record { records = r ∷ []; sends = sends })
  does_one r sends may sent =
      record { adds_all = (may, tt); one = one_open r; few = inl (omega arith); sends_all = sent }

  does_send : (sends : List Outgoing) → Each (Sends (js ++ [])) sends
      → Does peers own js (record { records = []; sends = sends })
  does_send sends sent =
      record { adds_all = tt; one = (let none = none_open in omega (arith, none)); few = inr tt; sends_all = sent }

  poll_letter : (added : List Record) (n : ℕ) (o : Opening) (v : ℕ) → opening_of n js ≡ Some o
      → Sends (js ++ added) (letter (message.Poll n o.au) v)
  poll_letter added n o v opened =
      let fact = opening_fact peers own js all n o opened in
      sends_so _ _ v (tt, (opened_low peers own js all n o room opened, fact.au))
      (says_grows js added v (message.Poll n o.au)
      (has_is _ _ o opened refl))

  -- Poller.

  new_number : (o : Option Opening) → opening_of (openings js + 1) js ≡ o → o ≡ None
  new_number None e = refl
  new_number (Some o) e = let low = (opening_fact peers own js all _ o e).low in absurd (omega (arith, low))

  does_open : (tick au : ℕ) → Does peers own js (on_open own js tick au)
  unfolding on_open may_open
  does_open tick au = does_if _ (opens_poll own js tick au (openings js + 1)) (λ may.
      let n = openings js + 1 in
      let nonce = nonce_from own.seed n in
      let inner = inner_circle own n js in
      let r = records.PollOpened n au nonce inner tick _ own.hash in
      let here : Opening = record {
        au = au;
        nonce = nonce;
        inner = inner;
        limits = Some (limits_in_force own.rules js);
        kind = own.hash;
      } in
      let grown = openings_more js r in
      let held = (and_parts (is_some (deposit_of au js)) _
      (and_parts (is_some (deposit_of au js) && not (list_any (opens_running au js) js)) _
      (and_parts
      _ _ may).0).0).0 in
      let small = is_held (deposit_of au js) refl held in
      let found : opening_of n _
      ≡ Some here = opening_first n (js ++ r ∷ [])
      ∙ first_new (opening_in n) js _ (sym (opening_first n js) ∙ new_number (opening_of n js) refl)
      ∙ first_is here in
      does_one r _
      (new_number _ refl, (omega (arith, grown), nonce_length own.seed n, small))
      (send_all _ (letter (message.Poll n au)) inner (λ v.
      sends_so _ _ v (tt, (room, small))
      (has_is (λ (x : Opening). x.au ≡ au) _ here found refl))))
    where
      is_held : (o : Option (List (List ℕ))) → deposit_of au js ≡ o → is_some o ≡ true → au < 2 ^ 16
      is_held None e held = absurd cc
      is_held (Some blocks) e held = (deposit_fact peers own js all au blocks e).0

      first_is : (x : Opening)
          → first_in (opening_in (openings js + 1))
          (records.PollOpened (openings js + 1) x.au x.nonce x.inner tick x.limits x.kind ∷ [])
          ≡ Some x
      first_is x =
          ap (λ b. cond (is_some (cond b (Some x) None)) (cond b (Some x) None) None)
          (eq-eqb _ (openings js + 1) refl)

  does_widen : (n : ℕ) → Does peers own js (on_widen own js n)
  unfolding on_widen
  does_widen n =
      does_if _ _ (λ may. does_opening (opening_of n js) _ (λ o opened.
      let r = records.OuterOpened n (outer_circle own n o js) in
      does_one r _ tt
      (send_all (js ++ r ∷ []) (letter (message.Poll n o.au)) (outer_circle own n o js)
      (λ v. poll_letter _ n o v opened))))

  request_letter : (after : List Record) (n b v : ℕ) (o : Opening) → opening_of n js ≡ Some o
      → b < length (contents_of o.au js) → Sends after (letter (message.RepairRequest n b) v)
  request_letter after n b v o opened within =
      sends_so after _ v (request_limits peers own js all n b o room opened within) tt

  does_nudge : (n : ℕ) → Does peers own js (on_nudge js n)
  unfolding on_nudge
  does_nudge n =
      cond_both _ _ _ (Does peers own js) (λ voting. does_opening _ _ (λ o opened. does_send _
      (send_all _ _ (silent_voters n o js) (λ v. poll_letter [] n o v opened))))
      (λ over. by_request (unanswered_request n js) (request_fact peers own js all n))
    where
      by_opening : (r : Request) (o : Option Opening) → opening_of n js ≡ o
          → Has (λ (x : Opening). r.block < length (contents_of x.au js)) o
          → Does peers own js (asked_again n (Some r))
      by_opening r None opened within = absurd within
      by_opening r (Some o) opened within =
          does_send _ (request_letter (js ++ []) n r.block r.voter o opened within, tt)

      by_request : (r : Option Request) → Any (IsWithin peers own js all n) r → Does peers own js (asked_again n r)
      by_request None within = does_nothing
      by_request (Some r) within = by_opening r (opening_of n js) refl within

  does_give_up : (n : ℕ) → Does peers own js (on_give_up js n)
  unfolding on_give_up
  does_give_up n = by_request (unanswered_request n js)
    where
      by_request : (r : Option Request) → Does peers own js (given_up n r)
      by_request None = does_nothing
      by_request (Some r) = does_one _ [] tt tt

  sent_receipts : (after : List Record) (n : ℕ) → n < 2 ^ 32 → Each (Sends after) (receipts n js)
  unfolding receipts
  sent_receipts after n low = send_all after _ _ (λ v. sends_so after _ v.voter (tt, low) tt)

  does_shut : (tick n : ℕ) → Does peers own js (on_shut own js tick n)
  unfolding on_shut
  does_shut tick n =
      does_if _ _ (λ voting. does_opening (opening_of n js) (ends_voting own js tick n) (λ o opened.
      cond_both _ (shut_inquorate js tick n) _ (Does peers own js) (λ few. record {
        adds_all = (tt, (tt, tt));
        one =
            (let none = not_open (records.Shut n) (records.Closed n outcome.Inquorate tick ∷ []) refl
            (not_open (records.Closed n outcome.Inquorate tick) [] refl none_open) in omega (arith, none));
        few = inr (tt, (tt, tt));
        sends_all = sent_receipts _ n (opened_low peers own js all n o room opened);
      })
      (λ enough. does_one (records.Shut n) [] tt tt)))

  does_closed : (tick n : ℕ) (how : Outcome) (o : Opening) → opening_of n js ≡ Some o
      → Does peers own js (closes_poll js tick n how)
  unfolding closes_poll
  does_closed tick n how o opened = does_one _ _ tt (sent_receipts _ n (opened_low peers own js all n o room opened))

  does_tally : (tick n : ℕ) → Does peers own js (on_tally own js tick n)
  unfolding on_tally verdict_in
  does_tally tick n =
      does_if _ _ (λ may. does_opening _ _ (λ o opened. by_verdict o opened (verdict_in own n o js) refl))
    where
      by_candidate : (b : ℕ) (o : Opening) → opening_of n js ≡ Some o → b < length (contents_of o.au js)
          → (v : Option ℕ) → Does peers own js (asks_supplier js tick n b v)
      by_candidate b o opened within None = does_closed tick n _ o opened
      by_candidate b o opened within (Some v) =
          does_one _ _ (has_is _ _ o opened within) (request_letter _ n b v o opened within, tt)

      by_verdict : (o : Opening) → opening_of n js ≡ Some o → (v : Verdict) → verdict_in own n o js ≡ v
          → Does peers own js (follows_verdict own js tick n o v)
      by_verdict o opened verdict.Inquorate is = does_nothing
      by_verdict o opened verdict.Agreed is = does_closed tick n outcome.Agreed o opened
      by_verdict o opened (verdict.Split b) is = does_closed tick n _ o opened
      by_verdict o opened (verdict.Loss b) is =
          let limits = limits_of own.rules o in
          let copy = contents_of o.au js in
          by_candidate b o opened
          (loss_first limits.minority _ _ copy
          limits.quorum b is).1.within (candidate own n o b js)

  does_check : (tick : ℕ) → Does peers own js (on_check own js tick)
  unfolding on_check
  does_check tick =
      record {
        adds_all = adds_noted _ own.aus;
        one = (let none = none_noted own.aus in omega (arith, none));
        few = inr (common_noted own.aus);
        sends_all = tt;
      }
    where
      adds_noted : (after : List Record) (aus : List AuPlan)
          → Each (MayAdd peers own js after) (filter_map (overdue_in own js tick) aus)
      adds_noted after [] = tt
      adds_noted after (au ∷ aus) = by_test (must_note own js tick au.id) (adds_noted after aus)
        where
          by_test : (b : Bool) → Each (MayAdd peers own js after) (filter_map (overdue_in own js tick) aus)
              → Each (MayAdd peers own js after)
              (cons_option (cond b (Some (records.Overdue au.id tick)) None)
              (filter_map (overdue_in own js tick) aus))
          by_test true rest = (tt, rest)
          by_test false rest = rest

      common_noted : (aus : List AuPlan) → Each IsCommon (filter_map (overdue_in own js tick) aus)
      common_noted [] = tt
      common_noted (au ∷ aus) = by_test (must_note own js tick au.id) (common_noted aus)
        where
          by_test : (b : Bool) → Each IsCommon (filter_map (overdue_in own js tick) aus)
              → Each IsCommon
              (cons_option (cond b (Some (records.Overdue au.id tick)) None)
              (filter_map (overdue_in own js tick) aus))
          by_test true rest = (tt, rest)
          by_test false rest = rest

      none_noted : (aus : List AuPlan) → openings (filter_map (overdue_in own js tick) aus) ≡ 0
      none_noted [] = none_open
      none_noted (au ∷ aus) = by_test (must_note own js tick au.id) (none_noted aus)
        where
          by_test : (b : Bool) → openings (filter_map (overdue_in own js tick) aus) ≡ 0
              → openings
              (cons_option (cond b (Some (records.Overdue au.id tick)) None)
              (filter_map (overdue_in own js tick) aus))
              ≡ 0
          by_test true rest = not_open _ _ refl rest
          by_test false rest = rest

  does_challenge : (from n : ℕ) (agrees : Bool) → Does peers own js (on_challenge own js from n agrees)
  unfolding on_challenge
  does_challenge from n agrees =
      does_if _ _ (λ may. does_opening _ (sends_proof own js from n) (λ o opened.
      does_if (may_prove js from n o) _ (λ proves.
      let fact = opening_fact peers own js all n o opened in
      let m = message.PollProof n o.nonce o.kind own.proof in
      does_send _ (
        sends_so _ m from (proof, (opened_low peers own js all n o room opened, fact.nonce))
            (says_grows js [] from m
            (has_is _ _ o opened
            (refl, refl))),
        tt,
      ))))

  does_nominate : (from n : ℕ) (nominees : List ℕ) → Does peers own js (on_nominate js from n nominees)
  unfolding on_nominate
  does_nominate from n nominees =
      does_if _ _ (λ may. does_opening (opening_of n js) (notes_nominees js from n nominees) (λ o opened.
      does_if _ _ (λ first. does_one (records.Nominated n from nominees) [] tt tt)))

  does_vote : (from n : ℕ) (hashes : List (List ℕ)) (sent : List ℕ) (judged : Judged)
      → Heard (peer_at from peers) own.id (message.Vote n hashes sent)
      → Does peers own js (on_vote js from n hashes judged)
  unfolding on_vote may_vote
  does_vote from n hashes sent judged heard =
      does_if _ _ (λ may. does_opening _ (counts_vote js from n hashes) (λ o opened. does_if _ _ (λ counts.
      does_one (records.VoteIn n from hashes) [] (
        heard.1,
        has_is _ (opening_of n js) o opened
            (eqb-true _ _ (and_parts _ (eqb (length hashes) (length (contents_of o.au js))) counts).1),
      ) tt)))

  does_repair : (from n b : ℕ) (bytes : List ℕ) → length bytes ≤ MOST_BLOCK_BYTES
      → Does peers own js (on_repair own js from n b bytes)
  unfolding on_repair may_repair
  does_repair from n b bytes small =
      does_if _ _ (λ may. does_opening (opening_of n js) (takes_repair own js from n b bytes) (λ o opened. cond_both _
      (record { records = records.Replaced n o.au b bytes ∷ []; sends = [] }) _ (Does peers own js)
      (λ good. does_one _ []
      (by_request (unanswered_request n js) o opened may (request_fact peers own js all n), small) tt)
      (λ bad. does_one (records.RepairBad n b from) [] tt tt)))
    where
      by_request : (q : Option Request) (o : Opening) → opening_of n js ≡ Some o → is_request b from q ≡ true
          → Any (IsWithin peers own js all n) q → b < length (contents_of o.au js)
      by_request None o opened is within = absurd cc
      by_request (Some r) o opened is within =
          subst (λ k. k < length (contents_of o.au js))
          (eqb-true r.block b (and_parts (eqb r.block b) (eqb r.voter from) is).0)
          (is_had (λ (x : Opening). r.block < length (contents_of x.au js)) (opening_of n js) o opened within)

  -- Voter.

  challenge_letter : (after : List Record) (n : ℕ) (agrees : Bool) (to : ℕ) → n < 2 ^ 32
      → Sends after (letter (message.PollChallenge n agrees) to)
  challenge_letter after n agrees to low = sends_so after _ to (tt, low) tt

  does_invitation : (tick from n au : ℕ) → Heard (peer_at from peers) own.id (message.Poll n au)
      → Does peers own js (on_invitation own js tick (poll_named from n) au)
  unfolding on_invitation may_join
  does_invitation tick from n au heard =
      cond_both (is_session _ js) _ _ (Does peers own js)
      (λ runs. does_send _ (challenge_letter _ n true from heard.0.1.0, tt)) (λ new.
      cond_both _ (joins_poll own js tick (poll_named from n) au) _ (Does peers own js)
      (λ may. does_one _ _ (none_is (join_of _ js) (joins_new may), (heard.0.1.0, heard.1))
      (challenge_letter _ n true from heard.0.1.0, tt))
      (λ not. does_send _ (challenge_letter _ n false from heard.0.1.0, tt)))
    where
      none_is : (o : Option Join) → not (is_some o) ≡ true → o ≡ None
      none_is None e = refl
      none_is (Some j) e = absurd cc

      joins_new : may_join own js tick (poll_named from n) au ≡ true
          → not (is_some (join_of (poll_named from n) js)) ≡ true
      joins_new may = (and_parts _ _ (and_parts _ _ (and_parts _ _ may).0).0).0

  nominates_letter : (after : List Record) (q : PollName) → q.number < 2 ^ 32
      → Sends after (nominates own (reference_list own js) q)
  nominates_letter after q low = nominates_so after q.number _ q.poller low (few_nominees own _ q)

  does_proof : (from n : ℕ) (nonce : List ℕ) (kind : HashKind) (sent : List ℕ) (judged : Judged)
      → Heard (peer_at from peers) own.id (message.PollProof n nonce kind sent)
      → Does peers own js (on_proof own js (poll_named from n) nonce kind judged)
  unfolding on_proof
  does_proof from n nonce kind sent judged heard =
      does_if _ _ (λ runs. by_session (join_of q js) (commitment_of q js) refl refl)
    where
      q : PollName
      q = poll_named from n

      by_judged : (j : Join) (judged : Judged) → commitment_of q js ≡ None → join_of q js ≡ Some j
          → Does peers own js (commits own (reference_list own js) q (version_now j.au js) nonce kind judged)
      by_judged j Accepted new joined =
          does_one _ _ (
            new,
            (
              has_is _ _ j joined
                  (omega arith),
              heard.1,
            ),
          ) (nominates_letter _ q (join_fact peers own js all q j joined), tt)
      by_judged j Refused new joined = does_one _ [] tt tt
      by_judged j NotAsked new joined = does_nothing

      by_vote : (o : Option (List (List ℕ))) → hashes_of_vote q js ≡ o → Each (Sends (js ++ [])) (vote_again own q o)
      by_vote None voted = tt
      by_vote (Some hashes) voted = (
        sends_so _ _ from
            (voted_limits peers own js all q hashes proof voted)
            (says_grows js [] from (message.Vote n hashes own.proof) voted),
        tt,
      )

      by_session : (j : Option Join) (c : Option Commitment) → join_of q js ≡ j → commitment_of q js ≡ c
          → Does peers own js (proved_to own js q nonce kind judged j c)
      by_session None c joined committed = does_nothing
      by_session (Some j) None joined committed = by_judged j judged committed joined
      by_session (Some j) (Some c) joined committed =
          does_if (repeats c nonce kind) _ (λ same. does_send _ (
            nominates_letter _ q (join_fact peers own js all q j joined),
            by_vote (hashes_of_vote q js) refl,
          ))

  does_work : (q : PollName) → Does peers own js (on_work own js q)
  unfolding on_work hashes_of_vote
  does_work q =
      does_if _ _ (λ runs. by_session (join_of q js) (commitment_of q js) (hashes_of_vote q js) refl refl refl)
    where
      first_is : (hashes : List (List ℕ)) → first_in (hashes_in q) (records.Voted q hashes ∷ []) ≡ Some hashes
      first_is hashes =
          ap (λ b. cond (is_some (cond b (Some hashes) None)) (cond b (Some hashes) None) None)
          (λ i. eq-eqb q.poller q.poller refl i && eq-eqb q.number q.number refl i)

      found : (hashes : List (List ℕ)) → hashes_of_vote q js ≡ None
          → hashes_of_vote q (js ++ records.Voted q hashes ∷ []) ≡ Some hashes
      found hashes new = first_new (hashes_in q) js _ new ∙ first_is hashes

      by_session : (j : Option Join) (c : Option Commitment) (h : Option (List (List ℕ))) → join_of q js ≡ j
          → commitment_of q js ≡ c → hashes_of_vote q js ≡ h → Does peers own js (casts_vote own js q j c h)
      by_session (Some j) (Some c) None joined committed new =
          let hashes = vote_hashes own.id q j.au c _ in
          let low = is_had _ _ j joined
          (committed_fact peers own js all q c committed) in
          does_one _ _ (
            new,
            has_is _ _ j
                joined (has_is _ _ c committed (low, refl)),
          ) (
            sends_so _ _ q.poller
                (vote_limits peers own js all q j c hashes proof joined refl) (found hashes new),
            tt,
          )
      by_session j c h joined committed new = does_nothing

  does_request : (q : PollName) (b : ℕ) → Does peers own js (on_request own js q b)
  unfolding on_request
  does_request q b = does_if _ _ (λ runs. by_session (join_of q js) (commitment_of q js) (hashes_of_vote q js) refl)
    where
      by_block : (j : Join) (c : Commitment) (o : Option (List ℕ)) → join_of q js ≡ Some j
          → slice_get (contents_at j.au c.version js) b ≡ o
          → Does peers own js (serves q b (most_served own.rules j.repairs) (served_blocks q js) o)
      by_block j c None joined at = does_nothing
      by_block j c (Some bytes) joined at = by_answer (answer_of _ b _)
        where
          sends : (after : List Record) → Sends after (repair q b bytes)
          sends after =
              sends_so after _ q.poller (repair_limits peers own js all q.number j.au c.version b bytes
              (join_fact peers own js all q j joined) at) tt

          by_answer : (a : Serve) → Does peers own js (gives q b bytes a)
          by_answer First = does_one _ _ tt (sends _, tt)
          by_answer Again = does_send _ (sends _, tt)
          by_answer Spent = does_nothing

      by_session : (j : Option Join) (c : Option Commitment) (h : Option (List (List ℕ))) → join_of q js ≡ j
          → Does peers own js (answers_request own js q b j c h)
      by_session (Some j) (Some c) (Some hashes) joined = by_block j c (slice_get _ b) joined refl
      by_session j c h joined = does_nothing

  does_end : (q : PollName) → Does peers own js (on_end js q)
  unfolding on_end
  does_end q = does_if _ _ (λ runs. does_one (records.Ended q) [] tt tt)

  does_tune : (quorum minority repairs : ℕ) → Does peers own js (on_tune own quorum minority repairs)
  unfolding on_tune
  does_tune quorum minority repairs = does_if _ _ (λ may. does_one (records.Tuned quorum minority repairs) [] tt tt)

  -- what is known of an input
  abbrev pub Known : Input → Type 0
  Known (input.Got from m judged) = Heard (peer_at from peers) own.id m
  Known i = Unit {0}

  does_message : (tick from : ℕ) (m : Message) (judged : Judged) → Heard (peer_at from peers) own.id m
      → Does peers own js (on_message own js tick from m judged)
  does_message tick from (message.Poll n au) judged heard = does_invitation tick from n au heard
  does_message tick from (message.PollChallenge n agrees) judged heard = does_challenge from n agrees
  does_message tick from (message.PollProof n nonce kind sent) judged heard =
      does_proof from n nonce kind sent judged heard
  does_message tick from (message.Nominate n nominees) judged heard = does_nominate from n nominees
  does_message tick from (message.Vote n hashes sent) judged heard = does_vote from n hashes sent judged heard
  does_message tick from (message.RepairRequest n b) judged heard = does_request _ b
  does_message tick from (message.Repair n b bytes) judged heard = does_repair from n b bytes heard.0.0.1
  does_message tick from (message.Receipt n) judged heard = does_end _

  pub does_all : (tick : ℕ) (i : Input) → Known i → Does peers own js (reaction own js tick i)
  unfolding reaction
  does_all tick (input.OpenPoll au) known = does_open tick au
  does_all tick (input.Widen n) known = does_widen n
  does_all tick (input.Shut n) known = does_shut tick n
  does_all tick (input.Tally n) known = does_tally tick n
  does_all tick (input.Nudge n) known = does_nudge n
  does_all tick (input.GiveUp n) known = does_give_up n
  does_all tick (input.Work q) known = does_work q
  does_all tick (input.Expire q) known = does_end q
  does_all tick input.Check known = does_check tick
  does_all tick (input.Tune quorum minority repairs) known = does_tune quorum minority repairs
  does_all tick (input.Got from m judged) known = does_message tick from m judged known
