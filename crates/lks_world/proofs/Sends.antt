-- What an event makes a peer add and send at most, and so what a history leaves in a journal and in the bag.
use Rattle.std.proofs.Common.{◌≡◌, ◌≤◌, ◌<◌, ◌+◌, ◌*◌, ◌==◌, ap, subst, ℕ, zero, suc, Bool, true, false, cond, eqb}
use Rattle.std.proofs.Common.{not, List, [], ◌∷◌, ◌++◌, length, filter, refl, arith}
use Rattle.std.specs.Prelude.{Option, Some, None, is_some, unwrap_or, map, slice_get, ◌&&◌, nat_le}
use Rattle.std.specs.List.{filter_map, cons_option}
use Rattle.std.proofs.lemmas.Bool.{leb-true}
use Rattle.std.proofs.lemmas.List.{length-append, length-map}
use Rattle.std.proofs.lemmas.List.Sums.{length-filter, count_by-le-length}
use Rattle.lks_base.proofs.PlanBounds.{few_aus, good_rules, one_copy}
use Rattle.lks_base.proofs.PlanLaws.{no_first, stands}
use Rattle.lks_base.specs.Checking.{plan_fault, is_within, are_bounded}
use Rattle.lks_base.specs.declared.events.Event.{Event}
use Rattle.lks_base.specs.declared.events.Event.TheVariants.{Step, Cut, Tick, Lose, Forge, Crash}
use Rattle.lks_base.specs.declared.limits.TheConstants.{MOST_CIRCLE, MOST_EVENTS, MOST_REPAIRS, MOST_TICKS}
use Rattle.lks_base.specs.declared.messages.Message.{Message}
use Rattle.lks_base.specs.declared.messages.Message.TheVariants as message
use Rattle.lks_base.specs.declared.names.HashKind.{HashKind}
use Rattle.lks_base.specs.declared.names.Judged.{Judged}
use Rattle.lks_base.specs.declared.names.Judged.TheVariants.{NotAsked, Accepted, Refused}
use Rattle.lks_base.specs.declared.names.PollName.{PollName}
use Rattle.lks_base.specs.declared.plans.AuPlan.{AuPlan}
use Rattle.lks_base.specs.declared.plans.Holding.{Holding}
use Rattle.lks_base.specs.declared.plans.PeerPlan.{PeerPlan}
use Rattle.lks_base.specs.declared.plans.Plan.{Plan}
use Rattle.lks_base.specs.declared.reactions.Input.{Input}
use Rattle.lks_base.specs.declared.reactions.Input.TheVariants as input
use Rattle.lks_base.specs.declared.reactions.Outgoing.{Outgoing}
use Rattle.lks_base.specs.declared.reactions.Reaction.{Reaction}
use Rattle.lks_base.specs.declared.records.Record.{Record}
use Rattle.lks_base.specs.declared.records.Record.TheVariants as records
use Rattle.lks_law.specs.Fitting.{has_room, most_numbered}
use Rattle.lks_law.specs.Histories.{IsHistory}
use Rattle.lks_law.specs.Journal.{Opening, Request, contents_at, is_voting, is_widened, opening_in, opening_of}
use Rattle.lks_law.specs.Journal.{openings, outer_in, outer_of, has_voted, unanswered_request, vote_in}
use Rattle.lks_law.specs.Polls.{Station, restores, verdict_in, votes}
use Rattle.lks_law.specs.Reaction.{no_effect, letter, for_opening, may_open, opens_poll, on_open, invites_outer}
use Rattle.lks_law.specs.Reaction.{on_widen, silent_voters, reminds_silent, asked_again, on_nudge, given_up}
use Rattle.lks_law.specs.Reaction.{on_give_up, receipts, is_inquorate, shut_inquorate, ends_voting, on_shut}
use Rattle.lks_law.specs.Reaction.{may_tally, closes_poll, follows_verdict, on_tally, must_note, overdue_in, on_check}
use Rattle.lks_law.specs.Reaction.{may_prove, sends_proof, on_challenge, may_nominate, notes_nominees, on_nominate}
use Rattle.lks_law.specs.Reaction.{is_accepted, may_vote, counts_vote, on_vote, may_repair, takes_repair, on_repair}
use Rattle.lks_law.specs.References.{inner_circle, outer_circle, reference_list}
use Rattle.lks_law.specs.Sessions.{Join, Commitment, join_of, commitment_of, hashes_of_vote, is_session}
use Rattle.lks_law.specs.Sessions.{served_blocks, version_now}
use Rattle.lks_law.specs.State.{state_of}
use Rattle.lks_law.specs.Table.{reaction, on_message}
use Rattle.lks_law.specs.Voting.{poll_named, answers, challenge, may_join, joins_poll, on_invitation, nominates}
use Rattle.lks_law.specs.Voting.{repeats, vote_again, commits, proved_to, on_proof, casts_vote, on_work, most_served}
use Rattle.lks_law.specs.Voting.{gives, serves, answers_request, on_request, on_end, may_tune, on_tune}
use Rattle.lks_law.specs.World.{Standing, World, Deed, is_honest, standing_of, deposit_for, deposits, start, deed_of}
use Rattle.lks_law.specs.World.{peer_at, reaction_at, effect_of, with_records, sent_by, actor_of, letters_sent}
use Rattle.lks_law.specs.World.{peers_after, after_step, happens, happen_all, world}
use Rattle.lks_law.proofs.Growing.{each_append, each_map as each_weaker}
use Rattle.lks_law.proofs.Linked.{Each}
use Rattle.lks_law.proofs.Lists.{each_at, each_filter}
use Rattle.lks_law.proofs.Room.{room_left}
use Rattle.lks_law.proofs.Samples.{few_inner, outer_sample}
use Rattle.lks_voter.specs.Voting.{answer_of}
use Rattle.lks_voter.specs.declared.commitments.Serve.{Serve}
use Rattle.lks_voter.specs.declared.commitments.Serve.TheVariants.{First, Again, Spent}

-- Lists.

few_mapped : {X Y : Type 0} (f : X → Option Y) (xs : List X) → length (filter_map f xs) ≤ length xs
few_mapped f [] = omega arith
few_mapped {Y = Y} f (x ∷ xs) = here (f x) (few_mapped f xs)
  where
    here : (o : Option Y) → length (filter_map f xs) ≤ length xs
        → length (cons_option o (filter_map f xs)) ≤ suc (length xs)
    here None low = omega (arith, low)
    here (Some y) low = omega (arith, low)

few_filtered : {X : Type 0} (test : X → Bool) (xs : List X) → length (filter test xs) ≤ length xs
few_filtered test xs = omega (arith, length-filter test xs, count_by-le-length test xs)

each_get : {X : Type 0} (P : X → Type 0) (xs : List X) → Each P xs → (i : ℕ) (x : X) → slice_get xs i ≡ Some x → P x
each_get P [] all i x at = absurd cc
each_get P (y ∷ ys) all zero x at = let same : y ≡ x = cc in subst P same all.0
each_get P (y ∷ ys) all (suc i) x at = each_get P ys all.1 i x at

each_map : {X Y : Type 0} (P : X → Type 0) (Q : Y → Type 0) (f : X → Y) → ((x : X) → P x → Q (f x)) → (xs : List X)
    → Each P xs → Each Q (map f xs)
each_map P Q f leads [] all = tt
each_map P Q f leads (x ∷ xs) all = (leads x all.0, each_map P Q f leads xs all.1)

-- What a peer is at most, and what it adds and sends at most.

-- the circle that a record has is small
abbrev HasFew : Record → Type 0
HasFew (records.PollOpened number au nonce inner tick limits kind) = length inner ≤ 16
HasFew (records.OuterOpened number outer) = length outer ≤ 16
HasFew r = Unit {0}

-- a peer with few AUs, small circles and a journal of at most n records
record IsFew (n : ℕ) (s : Standing) : Type 0 where
  inner : s.own.rules.inner ≤ 16
  outer : s.own.rules.outer ≤ 16
  aus : length s.own.aus ≤ 4
  short : length s.journal ≤ n
  circles : Each HasFew s.journal

-- what adds few records, and sends at most n messages
record IsSmall (n : ℕ) (r : Reaction) : Type 0 where
  records : length r.records ≤ 4
  sends : length r.sends ≤ n
  circles : Each HasFew r.records

opening_few : (n : ℕ) (js : List Record) → Each HasFew js → (o : Opening)
    → opening_of n js ≡ Some o → length o.inner ≤ 16
unfolding opening_of
opening_few n [] all o e = absurd cc
opening_few n (r ∷ js) all o e = by_record r all.0 e (opening_few n js all.1 o)
  where
    by_record : (r : Record) → HasFew r → cond (is_some (opening_in n r)) (opening_in n r) (opening_of n js) ≡ Some o
        → (opening_of n js ≡ Some o → length o.inner ≤ 16) → length o.inner ≤ 16
    by_record (records.PollOpened number au nonce inner tick limits kind) few e rest = by_number (eqb number n) _ few e
      where
        by_number : (b : Bool) (this : Opening) → length this.inner ≤ 16
            → cond (is_some (cond b (Some this) None)) (cond b (Some this) None) (opening_of n js) ≡ Some o
            → length o.inner ≤ 16
        by_number true this few e = let same : this ≡ o = cc in subst (λ (x : Opening). length x.inner ≤ 16) same few
        by_number false this few e = rest e
    by_record r few e rest = rest e

outer_few : (n : ℕ) (js : List Record) → Each HasFew js → length (outer_of n js) ≤ 16
unfolding outer_of
outer_few n [] all = omega arith
outer_few n (r ∷ js) all = by_record r all.0 (outer_few n js all.1)
  where
    by_record : (r : Record) → HasFew r → length (outer_of n js) ≤ 16
        → length (cond (is_some (outer_in n r)) (unwrap_or (outer_in n r) []) (outer_of n js)) ≤ 16
    by_record (records.OuterOpened number outer) few rest = by_number (eqb number n)
      where
        by_number : (b : Bool)
            → length
            (cond (is_some (cond b (Some outer) None)) (unwrap_or (cond b (Some outer) None) [])
            (outer_of n js))
            ≤ 16
        by_number true = few
        by_number false = rest
    by_record r few rest = rest

module _ (n : ℕ) (most : 32 ≤ n) where
  none_small : IsSmall n no_effect
  none_small = record { records = omega arith; sends = omega arith; circles = tt }

  either_small : (b : Bool) (r s : Reaction) → IsSmall n r → IsSmall n s → IsSmall n (cond b r s)
  either_small true r s one other = one
  either_small false r s one other = other

  if_small : (b : Bool) (r : Reaction) → IsSmall n r → IsSmall n (cond b r no_effect)
  if_small b r one = either_small b r no_effect one none_small

  at_opening : (o : Option Opening) (f : Opening → Reaction)
      → ((x : Opening) → o ≡ Some x → IsSmall n (f x)) → IsSmall n (for_opening o f)
  at_opening None f small = none_small
  at_opening (Some x) f small = small x refl

  sends_small : (os : List Outgoing) → length os ≤ 32 → IsSmall n (record { records = []; sends = os })
  sends_small os few = record { records = omega arith; sends = omega (arith, few, most); circles = tt }

  answers_small : (o : Outgoing) → IsSmall n (answers o)
  answers_small o = sends_small (o ∷ []) (omega arith)

  adds_small : (r : Record) (os : List Outgoing) → HasFew r → length os ≤ n
      → IsSmall n (record { records = r ∷ []; sends = os })
  adds_small r os few low = record { records = omega arith; sends = low; circles = (few, tt) }

  -- As a poller.

  module _ (s : Standing) (is : IsFew n s) where
    abbrev own : Station
    own = s.own

    abbrev js : List Record
    js = s.journal

    open_small : (tick au : ℕ) → IsSmall n (on_open own js tick au)
    unfolding on_open
    open_small tick au =
        let k = openings js + 1 in
        let count = length-map (inner_circle own k js) (letter (message.Poll k au)) in
        let low = few_inner own k js in
        if_small (may_open own js tick au) (opens_poll own js tick au k)
        (adds_small _ _ (omega (arith, low, is.inner)) (omega (arith, count, low, is.inner, most)))

    widen_small : (k : ℕ) → IsSmall n (on_widen own js k)
    unfolding on_widen
    widen_small k =
        if_small (is_voting k js && not (is_widened k js)) (for_opening (opening_of k js) (invites_outer own js k))
        (at_opening (opening_of k js) (invites_outer own js k) (λ o at.
        let count = length-map (outer_circle own k o js) (letter (message.Poll k o.au)) in
        let low = (outer_sample own k o js).0.few in
        adds_small _ _ (omega (arith, low, is.outer)) (omega (arith, count, low, is.outer, most))))

    silent_few : (k : ℕ) (o : Opening) → opening_of k js ≡ Some o → length (silent_voters k o js) ≤ 32
    unfolding silent_voters
    silent_few k o at =
        let low = few_filtered (λ v. not (has_voted k v js)) (o.inner ++ outer_of k js) in
        let inner = opening_few k js is.circles o at in
        let outer = outer_few k js is.circles in
        omega (arith, low, length-append o.inner (outer_of k js), inner, outer)

    nudge_small : (k : ℕ) → IsSmall n (on_nudge js k)
    unfolding on_nudge
    nudge_small k =
        either_small (is_voting k js) (for_opening (opening_of k js) (reminds_silent js k))
        (asked_again k (unanswered_request k js))
        (at_opening (opening_of k js) (reminds_silent js k) (λ o at.
        let count = length-map (silent_voters k o js) (letter (message.Poll k o.au)) in
        sends_small _ (omega (arith, count, silent_few k o at)))) (by_request (unanswered_request k js))
      where
        by_request : (r : Option Request) → IsSmall n (asked_again k r)
        by_request None = none_small
        by_request (Some r) = answers_small (letter (message.RepairRequest k r.block) r.voter)

    give_up_small : (k : ℕ) → IsSmall n (on_give_up js k)
    unfolding on_give_up
    give_up_small k = by_request (unanswered_request k js)
      where
        by_request : (r : Option Request) → IsSmall n (given_up k r)
        by_request None = none_small
        by_request (Some r) = adds_small (records.RepairBad k r.block r.voter) [] tt (omega arith)

    receipts_few : (k : ℕ) → length (receipts k js) ≤ n
    unfolding receipts votes
    receipts_few k =
        let count = length-map (votes k js) (λ v. letter (message.Receipt k) v.voter) in
        omega (arith, count, few_mapped (vote_in k) js, is.short)

    shut_small : (tick k : ℕ) → IsSmall n (on_shut own js tick k)
    unfolding on_shut
    shut_small tick k =
        if_small (is_voting k js) (for_opening (opening_of k js) (ends_voting own js tick k))
        (at_opening (opening_of k js) (ends_voting own js tick k) (λ o at.
        either_small (is_inquorate own k o js) (shut_inquorate js tick k) _
        (record { records = omega arith; sends = receipts_few k; circles = (tt, (tt, tt)) })
        (adds_small (records.Shut k) [] tt (omega arith))))

    tallied_small : (tick k : ℕ) (o : Opening) → IsSmall n (follows_verdict own js tick k o (verdict_in own k o js))
    unfolding closes_poll
    tallied_small tick k o = record {
      records = grind arith;
      sends = grind (arith, receipts_few k, most);
      circles = grind arith;
    }

    tally_small : (tick k : ℕ) → IsSmall n (on_tally own js tick k)
    unfolding on_tally
    tally_small tick k =
        if_small (may_tally k js)
        (for_opening (opening_of k js) (λ o. follows_verdict own js tick k o (verdict_in own k o js)))
        (at_opening (opening_of k js) (λ o. follows_verdict own js tick k o (verdict_in own k o js))
        (λ o at. tallied_small tick k o))

    noted_few : (tick : ℕ) (aus : List AuPlan) → Each HasFew (filter_map (overdue_in own js tick) aus)
    noted_few tick [] = tt
    noted_few tick (au ∷ aus) = by_test (must_note own js tick au.id) (noted_few tick aus)
      where
        by_test : (b : Bool) → Each HasFew (filter_map (overdue_in own js tick) aus)
            → Each HasFew
            (cons_option (cond b (Some (records.Overdue au.id tick)) None) (filter_map (overdue_in own js tick) aus))
        by_test true rest = (tt, rest)
        by_test false rest = rest

    check_small : (tick : ℕ) → IsSmall n (on_check own js tick)
    unfolding on_check
    check_small tick = record {
      records = omega (arith, few_mapped (overdue_in own js tick) own.aus, is.aus);
      sends = omega arith;
      circles = noted_few tick own.aus;
    }

    challenge_small : (from k : ℕ) (agrees : Bool) → IsSmall n (on_challenge own js from k agrees)
    unfolding on_challenge
    challenge_small from k agrees =
        if_small (agrees && is_voting k js) (for_opening (opening_of k js) (sends_proof own js from k))
        (at_opening (opening_of k js) (sends_proof own js from k) (λ o at.
        if_small (may_prove js from k o) _ (sends_small _ (omega arith))))

    nominate_small : (from k : ℕ) (nominees : List ℕ) → IsSmall n (on_nominate js from k nominees)
    unfolding on_nominate
    nominate_small from k nominees =
        if_small (is_voting k js && not (is_widened k js))
        (for_opening (opening_of k js) (notes_nominees js from k nominees))
        (at_opening (opening_of k js) (notes_nominees js from k nominees) (λ o at.
        if_small (may_nominate js from k o) _ (adds_small (records.Nominated k from nominees) [] tt (omega arith))))

    vote_small : (from k : ℕ) (hashes : List (List ℕ)) (judged : Judged) → IsSmall n (on_vote js from k hashes judged)
    unfolding on_vote
    vote_small from k hashes judged =
        if_small (is_accepted judged && is_voting k js) (for_opening (opening_of k js) (counts_vote js from k hashes))
        (at_opening (opening_of k js) (counts_vote js from k hashes) (λ o at.
        if_small (may_vote js from k (length hashes) o) _
        (adds_small (records.VoteIn k from hashes) [] tt (omega arith))))

    repair_small : (from k b : ℕ) (bytes : List ℕ) → IsSmall n (on_repair own js from k b bytes)
    unfolding on_repair
    repair_small from k b bytes =
        if_small (may_repair js from k b) (for_opening (opening_of k js) (takes_repair own js from k b bytes))
        (at_opening (opening_of k js) (takes_repair own js from k b bytes) (λ o at.
        either_small (restores own k o b bytes js) _ _
        (adds_small (records.Replaced k o.au b bytes) [] tt (omega arith))
        (adds_small (records.RepairBad k b from) [] tt (omega arith))))

    -- As a voter.

    invitation_small : (tick : ℕ) (q : PollName) (au : ℕ) → IsSmall n (on_invitation own js tick q au)
    unfolding on_invitation
    invitation_small tick q au =
        either_small (is_session q js) (answers (challenge q true)) _ (answers_small _)
        (either_small (may_join own js tick q au) (joins_poll own js tick q au) _
        (adds_small _ _ tt (omega (arith, most)))
        (answers_small (challenge q false)))

    again_small : (q : PollName) (hashes : Option (List (List ℕ))) → length (vote_again own q hashes) ≤ 1
    again_small q None = omega arith
    again_small q (Some hashes) = omega arith

    proof_small : (q : PollName) (nonce : List ℕ) (kind : HashKind) (judged : Judged)
        → IsSmall n (on_proof own js q nonce kind judged)
    unfolding on_proof
    proof_small q nonce kind judged = if_small (is_session q js) _ (by_session (join_of q js) (commitment_of q js))
      where
        by_judged : (j : Join) (judged : Judged)
            → IsSmall n (commits own (reference_list own js) q (version_now j.au js) nonce kind judged)
        by_judged j Accepted =
            adds_small (records.Committed q nonce (version_now j.au js) kind) _ tt (omega (arith, most))
        by_judged j Refused = adds_small (records.Ended q) [] tt (omega arith)
        by_judged j NotAsked = none_small

        by_session : (j : Option Join) (c : Option Commitment) → IsSmall n (proved_to own js q nonce kind judged j c)
        by_session None c = none_small
        by_session (Some j) None = by_judged j judged
        by_session (Some j) (Some c) =
            if_small (repeats c nonce kind) _
            (sends_small (nominates own (reference_list own js) q ∷ vote_again own q (hashes_of_vote q js))
            (omega (arith, again_small q (hashes_of_vote q js))))

    work_small : (q : PollName) → IsSmall n (on_work own js q)
    unfolding on_work
    work_small q =
        if_small (is_session q js) _ (by_session (join_of q js) (commitment_of q js) (hashes_of_vote q js))
      where
        by_session : (j : Option Join) (c : Option Commitment) (h : Option (List (List ℕ)))
            → IsSmall n (casts_vote own js q j c h)
        by_session None c h = none_small
        by_session (Some j) None h = none_small
        by_session (Some j) (Some c) None = adds_small _ _ tt (omega (arith, most))
        by_session (Some j) (Some c) (Some h) = none_small

    serves_small : (q : PollName) (b may : ℕ) (before : List ℕ) (o : Option (List ℕ))
        → IsSmall n (serves q b may before o)
    serves_small q b may before None = none_small
    serves_small q b may before (Some bytes) = by_answer (answer_of before b may)
      where
        by_answer : (a : Serve) → IsSmall n (gives q b bytes a)
        by_answer First = adds_small (records.Served q b) _ tt (omega (arith, most))
        by_answer Again = answers_small _
        by_answer Spent = none_small

    request_small : (q : PollName) (b : ℕ) → IsSmall n (on_request own js q b)
    unfolding on_request
    request_small q b =
        if_small (is_session q js) _ (by_session (join_of q js) (commitment_of q js) (hashes_of_vote q js))
      where
        by_session : (j : Option Join) (c : Option Commitment) (h : Option (List (List ℕ)))
            → IsSmall n (answers_request own js q b j c h)
        by_session None c h = none_small
        by_session (Some j) None h = none_small
        by_session (Some j) (Some c) None = none_small
        by_session (Some j) (Some c) (Some h) =
            serves_small q b (most_served own.rules j.repairs) (served_blocks q js)
            (slice_get (contents_at j.au c.version js) b)

    end_small : (q : PollName) → IsSmall n (on_end js q)
    unfolding on_end
    end_small q = if_small (is_session q js) _ (adds_small (records.Ended q) [] tt (omega arith))

    tune_small : (quorum minority repairs : ℕ) → IsSmall n (on_tune own quorum minority repairs)
    unfolding on_tune
    tune_small quorum minority repairs =
        if_small (may_tune own.rules quorum minority repairs) _
        (adds_small (records.Tuned quorum minority repairs) [] tt (omega arith))

    message_small : (tick from : ℕ) (m : Message) (judged : Judged) → IsSmall n (on_message own js tick from m judged)
    message_small tick from (message.Poll k au) judged = invitation_small tick (poll_named from k) au
    message_small tick from (message.PollChallenge k agrees) judged = challenge_small from k agrees
    message_small tick from (message.PollProof k nonce kind proof) judged =
        proof_small (poll_named from k) nonce kind judged
    message_small tick from (message.Nominate k nominees) judged = nominate_small from k nominees
    message_small tick from (message.Vote k hashes proof) judged = vote_small from k hashes judged
    message_small tick from (message.RepairRequest k b) judged = request_small (poll_named from k) b
    message_small tick from (message.Repair k b bytes) judged = repair_small from k b bytes
    message_small tick from (message.Receipt k) judged = end_small (poll_named from k)

    reaction_small : (tick : ℕ) (i : Input) → IsSmall n (reaction own js tick i)
    unfolding reaction
    reaction_small tick (input.OpenPoll au) = open_small tick au
    reaction_small tick (input.Widen k) = widen_small k
    reaction_small tick (input.Shut k) = shut_small tick k
    reaction_small tick (input.Tally k) = tally_small tick k
    reaction_small tick (input.Nudge k) = nudge_small k
    reaction_small tick (input.GiveUp k) = give_up_small k
    reaction_small tick (input.Work q) = work_small q
    reaction_small tick (input.Expire q) = end_small q
    reaction_small tick input.Check = check_small tick
    reaction_small tick (input.Tune quorum minority repairs) = tune_small quorum minority repairs
    reaction_small tick (input.Got from m judged) = message_small tick from m judged

  -- In a world.

  at_peer : (tick id : ℕ) (i : Input) (ss : List Standing)
      → Each (IsFew n) ss → IsSmall n (reaction_at tick (peer_at id ss) i)
  unfolding peer_at
  at_peer tick id i [] all = none_small
  at_peer tick id i (s ∷ ss) all = by_id (eqb s.own.id id) (at_peer tick id i ss all.1)
    where
      by_id : (b : Bool) → IsSmall n (reaction_at tick (peer_at id ss) i)
          → IsSmall n (reaction_at tick (cond b (Some s) (peer_at id ss)) i)
      by_id true rest = reaction_small s all.0 tick i
      by_id false rest = rest

  effect_small : (tick : ℕ) (ss : List Standing) (d : Option Deed) → Each (IsFew n) ss → IsSmall n (effect_of tick ss d)
  effect_small tick ss None all = none_small
  effect_small tick ss (Some d) all = at_peer tick d.peer d.input ss all

  later_few : (s : Standing) → IsFew n s → IsFew (n + 4) s
  later_few s is = record {
    inner = is.inner;
    outer = is.outer;
    aus = is.aus;
    short = omega (arith, is.short);
    circles = is.circles;
  }

  all_later : (ss : List Standing) → Each (IsFew n) ss → Each (IsFew (n + 4)) ss
  all_later ss all = each_weaker (IsFew n) (IsFew (n + 4)) ss later_few all

  records_few : (id : ℕ) (added : List Record) (ss : List Standing) → length added ≤ 4 → Each HasFew added
      → Each (IsFew n) ss → Each (IsFew (n + 4)) (with_records id added ss)
  records_few id added [] low few all = tt
  records_few id added (s ∷ ss) low few all = by_id (eqb s.own.id id) (records_few id added ss low few all.1)
    where
      by_id : (b : Bool) → Each (IsFew (n + 4)) (with_records id added ss)
          → Each (IsFew (n + 4))
          (cond b (record { own = s.own; journal = s.journal ++ added } ∷ ss) (s ∷ with_records id added ss))
      by_id true rest = (
        record {
          inner = all.0.inner;
          outer = all.0.outer;
          aus = all.0.aus;
          short = omega (arith, length-append s.journal added, all.0.short, low);
          circles = each_append HasFew s.journal added all.0.circles few;
        },
        all_later ss all.1,
      )
      by_id false rest = (later_few s all.0, rest)

  peers_few : (tick : ℕ) (ss : List Standing) (d : Option Deed) → Each (IsFew n) ss
      → Each (IsFew (n + 4)) (peers_after tick ss d)
  peers_few tick ss None all = all_later ss all
  peers_few tick ss (Some d) all =
      let small = effect_small tick ss (Some d) all in
      records_few d.peer (effect_of tick ss (Some d)).records ss small.records small.circles all

  happens_few : (w : World) (e : Event) → Each (IsFew n) w.peers → Each (IsFew (n + 4)) (happens w e).peers
  unfolding happens after_step
  happens_few w (Step s) all = peers_few w.tick w.peers (deed_of w.bag s) all
  happens_few w (Cut s true) all = peers_few w.tick w.peers (deed_of w.bag s) all
  happens_few w (Cut s false) all = all_later w.peers all
  happens_few w (Tick by) all = all_later w.peers all
  happens_few w (Lose envelope) all = all_later w.peers all
  happens_few w (Forge from to bytes) all = all_later w.peers all
  happens_few w (Crash peer) all = all_later w.peers all

  sent_few : (w : World) (e : Event) → Each (IsFew n) w.peers → length (happens w e).bag ≤ length w.bag + n
  unfolding happens after_step
  sent_few w (Step s) all =
      let d = deed_of w.bag s in
      let small = effect_small w.tick w.peers d all in
      let count = length-map (effect_of w.tick w.peers d).sends (sent_by (actor_of d)) in
      omega (arith, length-append w.bag (letters_sent w.tick w.peers d), count, small.sends)
  sent_few w (Cut s true) all = omega arith
  sent_few w (Cut s false) all = omega arith
  sent_few w (Tick by) all = omega arith
  sent_few w (Lose envelope) all = omega arith
  sent_few w (Forge from to bytes) all =
      let one = length-append w.bag (record { from = from; to = to; bytes = bytes } ∷ []) in
      omega (arith, one, most)
  sent_few w (Crash peer) all = omega arith

-- Over a history.

all_few : (n : ℕ) → 32 ≤ n → (w : World) (es : List Event) → Each (IsFew n) w.peers
    → Each (IsFew (n + 4 * length es)) (happen_all w es).peers
all_few n most w [] all = subst (λ (k : ℕ). Each (IsFew k) w.peers) (omega arith) all
all_few n most w (e ∷ es) all =
    subst (λ (k : ℕ). Each (IsFew k) (happen_all (happens w e) es).peers) (omega arith)
    (all_few (n + 4) (omega (arith, most)) (happens w e) es (happens_few n most w e all))

all_sent : (n : ℕ) → 32 ≤ n → (w : World) (es : List Event) → n + 4 * length es ≤ 16416 → Each (IsFew n) w.peers
    → length (happen_all w es).bag ≤ length w.bag + 16416 * length es
all_sent n most w [] low all = omega arith
all_sent n most w (e ∷ es) low all =
    let first = sent_few n most w e all in
    let later = happens_few n most w e all in
    let rest = all_sent (n + 4) (omega (arith, most)) (happens w e) es (omega (arith, low)) later in
    omega (arith, first, rest, low)

-- In the beginning.

-- what stands under this number
abbrev held : ℕ → List Holding → List Holding
held au copies = filter (λ c. c.au == au) copies

held_few : (au : AuPlan) (copies : List Holding)
    → length (filter_map (deposit_for au) copies) ≡ length (held au.id copies)
held_few au [] = refl
held_few au (c ∷ cs) = by_test (eqb c.au au.id) (held_few au cs)
  where
    by_test : (b : Bool) → length (filter_map (deposit_for au) cs) ≡ length (held au.id cs)
        → length (cons_option (cond b (Some (records.Deposit au.id c.blocks)) None) (filter_map (deposit_for au) cs))
        ≡ length (cond b (c ∷ held au.id cs) (held au.id cs))
    by_test true same = ap suc same
    by_test false same = same

deposits_few : (aus : List AuPlan) (copies : List Holding) → ((au : ℕ) → length (held au copies) ≤ 1)
    → length (deposits aus copies) ≤ length aus
unfolding deposits
deposits_few [] copies once = omega arith
deposits_few (au ∷ aus) copies once =
    let here = filter_map (deposit_for au) copies in
    let rest = deposits_few aus copies once in
    omega (arith, length-append here (deposits aus copies), held_few au copies, once au.id, rest)

no_circles : (aus : List AuPlan) (copies : List Holding) → Each HasFew (deposits aus copies)
unfolding deposits
no_circles [] copies = tt
no_circles (au ∷ aus) copies =
    each_append HasFew (filter_map (deposit_for au) copies) (deposits aus copies) (each_held copies)
    (no_circles aus copies)
  where
    each_held : (copies : List Holding) → Each HasFew (filter_map (deposit_for au) copies)
    each_held [] = tt
    each_held (c ∷ cs) = by_test (eqb c.au au.id) (each_held cs)
      where
        by_test : (b : Bool) → Each HasFew (filter_map (deposit_for au) cs)
            → Each HasFew
            (cons_option (cond b (Some (records.Deposit au.id c.blocks)) None) (filter_map (deposit_for au) cs))
        by_test true rest = (tt, rest)
        by_test false rest = rest

third : (a b c d e f g h i j : Bool) → (a && b && c && d && e && f && g && h && i && j) ≡ true → c ≡ true
third true true true d e f g h i j all = refl
third true true false d e f g h i j all = all
third true false c d e f g h i j all = absurd cc
third false b c d e f g h i j all = absurd cc

small_outer : (plan : Plan) → plan_fault plan ≡ None → plan.rules.outer ≤ 16
unfolding plan_fault are_bounded
small_outer plan good =
    let r = plan.rules in
    leb-true r.outer MOST_CIRCLE
    (third (is_within 1 MOST_CIRCLE r.inner) (nat_le 1 r.quorum) (nat_le r.outer MOST_CIRCLE)
    (nat_le r.repairs MOST_REPAIRS)
    (nat_le r.pace MOST_TICKS) (nat_le r.refractory MOST_TICKS) (nat_le r.overdue MOST_TICKS)
    (nat_le r.unknown_pct 100) (nat_le r.debt_pct 100) (nat_le r.churn MOST_CIRCLE)
    (stands _ _ (no_first _ _ good)))

abbrev BeginsFew : Plan → PeerPlan → Type 0
BeginsFew plan p = IsFew 32 (standing_of plan p)

start_few : (plan : Plan) → plan_fault plan ≡ None → Each (IsFew 32) (start plan).peers
unfolding start
start_few plan good =
    each_map (BeginsFew plan) (IsFew 32) (standing_of plan) (λ p few. few) (filter is_honest plan.peers)
    (each_filter (BeginsFew plan) is_honest plan.peers (each_at (BeginsFew plan) plan.peers (λ i p at. record {
      inner = (good_rules plan good).0;
      outer = small_outer plan good;
      aus = few_aus plan good;
      short = omega (arith, deposits_few plan.aus p.copies (one_copy plan good i p at), few_aus plan good);
      circles = no_circles plan.aus p.copies;
    })))

world_few : (plan : Plan) (history : List Event) → plan_fault plan ≡ None
    → Each (IsFew (32 + 4 * length history)) (world plan history).peers
unfolding world
world_few plan history good = all_few 32 (omega arith) (start plan) history (start_few plan good)

-- In a history a journal is short enough that each thing in it can be numbered, and leaves room for more.

pub few_records : (plan : Plan) (history : List Event) → plan_fault plan ≡ None → IsHistory plan history
    → (i : ℕ) (s : Standing) → slice_get (world plan history).peers i ≡ Some s → length s.journal < most_numbered
few_records plan history good is i s at =
    let all = world_few plan history good in
    let few = each_get (IsFew (32 + 4 * length history)) (world plan history).peers all i s at in
    omega (arith, few.short, is.few)

pub always_room : (plan : Plan) (history : List Event) → plan_fault plan ≡ None → IsHistory plan history
    → (i : ℕ) (s : Standing) → slice_get (world plan history).peers i ≡ Some s
    → has_room (state_of s.own s.journal) ≡ true
always_room plan history good is i s at = room_left s.own s.journal (few_records plan history good is i s at)

-- The most messages that an event makes a peer send: to both circles, or a receipt for each record of its journal.
abbrev pub most_sent : ℕ
most_sent = 16416

pub few_sent : (plan : Plan) (history : List Event) → plan_fault plan ≡ None → IsHistory plan history
    → (d : Option Deed) → length (effect_of (world plan history).tick (world plan history).peers d).sends ≤ most_sent
few_sent plan history good is d =
    let w = world plan history in
    let small = effect_small (32 + 4 * length history) (omega arith) w.tick w.peers d (world_few plan history good) in
    omega (arith, small.sends, is.few)

none_sent : (plan : Plan) → length (start plan).bag ≡ 0
unfolding start
none_sent plan = refl

pub few_envelopes : (plan : Plan) (history : List Event) → plan_fault plan ≡ None → IsHistory plan history
    → length (world plan history).bag ≤ most_sent * length history
unfolding world
few_envelopes plan history good is =
    let all = all_sent 32 (omega arith) (start plan) history (omega (arith, is.few)) (start_few plan good) in
    omega (arith, all, none_sent plan)

pub in_all : (plan : Plan) (history : List Event) → plan_fault plan ≡ None → IsHistory plan history
    → length (world plan history).bag ≤ most_sent * MOST_EVENTS
in_all plan history good is = omega (arith, few_envelopes plan history good is, is.few)
