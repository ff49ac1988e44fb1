-- Whatever the rules add stands behind the journal: the input that it names adds the same at the tick that it names.
use Rattle.std.proofs.Common.{◌≡◌, ◌≢◌, ◌≤◌, ◌∙◌, ◌⊎◌, inl, inr, ap, sym, subst, ℕ, Bool, true, false}
use Rattle.std.proofs.Common.{cond, eqb, List, [], ◌∷◌, refl, arith}
use Rattle.std.specs.Prelude.{Option, Some, None, is_some, option_map, unwrap_or, not, map, ◌&&◌, ◌||◌, slice_get}
use Rattle.std.specs.List.{filter_map, cons_option, list_any}
use Rattle.std.proofs.lemmas.Bool.{and_parts, eqb-true}
use Rattle.lks_base.specs.declared.messages.Message.TheVariants as message
use Rattle.lks_base.specs.declared.names.HashKind.{HashKind}
use Rattle.lks_base.specs.declared.names.HashKind.TheVariants.{Sha256, Sha512_256}
use Rattle.lks_base.specs.declared.names.Judged.{Judged}
use Rattle.lks_base.specs.declared.names.Judged.TheVariants.{NotAsked, Accepted, Refused}
use Rattle.lks_base.specs.declared.names.Limits.{Limits}
use Rattle.lks_base.specs.declared.names.Numbers.{Numbers}
use Rattle.lks_base.specs.declared.names.PollName.{PollName}
use Rattle.lks_base.specs.declared.plans.AuPlan.{AuPlan}
use Rattle.lks_base.specs.declared.reactions.Input.{Input}
use Rattle.lks_base.specs.declared.reactions.Input.TheVariants as input
use Rattle.lks_base.specs.declared.reactions.Reaction.{Reaction}
use Rattle.lks_base.specs.declared.records.Record.{Record}
use Rattle.lks_base.specs.declared.records.Record.TheVariants as records
use Rattle.lks_law.specs.Behind.{tick_in, latest_tick, tick_or, asked_from, last_asked, input_named, AddsNamed}
use Rattle.lks_law.specs.Behind.{StandsBehind}
use Rattle.lks_law.specs.Facts.{AddsFor, unnumbered}
use Rattle.lks_law.specs.Journal.{Opening, Request, Told, said_by, is_tuning, numbers_from, opening_of}
use Rattle.lks_law.specs.Journal.{is_voting, is_widened, unanswered_with, unanswered_without}
use Rattle.lks_law.specs.Journal.{unanswered_from, unanswered_request, was_tuned}
use Rattle.lks_law.specs.Polls.{Station, numbers_in_force, limits_in_force, verdict_in, candidate, restores}
use Rattle.lks_law.specs.Reaction.{no_effect, for_opening, may_open, on_open, on_widen}
use Rattle.lks_law.specs.Reaction.{is_inquorate, shut_inquorate, ends_voting, on_shut, may_tally, closes_poll}
use Rattle.lks_law.specs.Reaction.{asks_supplier, follows_verdict, on_tally, must_note, overdue_in, on_check}
use Rattle.lks_law.specs.Reaction.{reminds_silent, asked_again, on_nudge, given_up, on_give_up, may_prove}
use Rattle.lks_law.specs.Reaction.{sends_proof, on_challenge, may_nominate, on_nominate, may_vote}
use Rattle.lks_law.specs.Reaction.{on_vote, is_request, may_repair, takes_repair, on_repair}
use Rattle.lks_law.specs.Sessions.{Join, Commitment, join_of, commitment_of, hashes_of_vote, served_blocks, is_session}
use Rattle.lks_law.specs.State.{State, after, after_all}
use Rattle.lks_law.specs.Table.{reaction}
use Rattle.lks_law.specs.Voting.{poll_named, answers, adds, adds_only, challenge, may_join, on_invitation}
use Rattle.lks_law.specs.Voting.{repeats, proved_to, on_proof, casts_vote, on_work, most_served, gives, serves}
use Rattle.lks_law.specs.Voting.{answers_request, on_request, on_end, may_tune, on_tune}
use Rattle.lks_tally.specs.declared.ballots.Verdict.{Verdict}
use Rattle.lks_tally.specs.declared.ballots.Verdict.TheVariants as verdict
use Rattle.lks_voter.specs.Voting.{answer_of}
use Rattle.lks_voter.specs.declared.commitments.Serve.{Serve}
use Rattle.lks_voter.specs.declared.commitments.Serve.TheVariants.{First, Again, Spent}

-- The last request of a poll, where one is unanswered, is that one.

asked_is : (n : ℕ) (before asked : Option Request) (js : List Record) (r : Request)
    → ((x : Request) → before ≡ Some x → asked ≡ Some x)
    → unanswered_from n before js ≡ Some r → asked_from n asked js ≡ Some r
asked_is n before asked [] r same e = same r e
asked_is n before asked (j ∷ js) r same e =
    asked_is n (unanswered_with n _ (said_by j).asked) _ js r (λ x. by_request x (said_by j).asked) e
  where
    answered : (x : Request) (a : Option ℕ) → unanswered_without n before a ≡ Some x → asked ≡ Some x
    answered x None e = same x e
    answered x (Some number) e = by_test (eqb number n) e
      where
        by_test : (b : Bool) → cond b None before ≡ Some x → asked ≡ Some x
        by_test true e = absurd cc
        by_test false e = same x e

    by_request : (x : Request) (k : Option (Told Request))
        → unanswered_with n (unanswered_without n before (said_by j).answered) k ≡ Some x
        → unanswered_with n asked k ≡ Some x
    by_request x None e = answered x (said_by j).answered e
    by_request x (Some told) e = by_test (eqb told.number n) e
      where
        by_test : (b : Bool) → cond b (Some told.fact) (unanswered_without n before (said_by j).answered) ≡ Some x
            → cond b (Some told.fact) asked ≡ Some x
        by_test true e = e
        by_test false e = answered x (said_by j).answered e

last_is : (n : ℕ) (js : List Record) (r : Request) → unanswered_request n js ≡ Some r → last_asked n js ≡ Some r
unfolding unanswered_request last_asked
last_is n js r e = asked_is n None None js r (λ x e. absurd cc) e

-- these records have no other tick
abbrev pub AreAt : ℕ → List Record → Type 0
AreAt tick [] = Unit {0}
AreAt tick (r ∷ rs) = (unwrap_or (tick_in r) tick ≡ tick) × AreAt tick rs

-- an opening and a session have the numbers that are in force
abbrev pub HasNumbers : Station → List Record → Record → Type 0
HasNumbers own js (records.PollOpened number au nonce inner tick limits kind) =
    limits ≡ Some (limits_in_force own.rules js)
HasNumbers own js (records.Joined poll au tick low repairs) = repairs ≡ Some (numbers_in_force own.rules js).repairs
HasNumbers own js r = Unit {0}

abbrev pub HaveNumbers : Station → List Record → List Record → Type 0
HaveNumbers own js [] = Unit {0}
HaveNumbers own js (r ∷ rs) = HasNumbers own js r × HaveNumbers own js rs

-- What the first of these records names adds them, at the tick that they name, which is this one or the greatest so
-- far.
record Named (own : Station) (js : List Record) (tick : ℕ) (r : Record) (rs : List Record) : Type 0 where
  input : Input
  is : input_named js r ≡ Some input
  adds : (reaction own js (tick_or (latest_tick js) (r ∷ rs)) input).records ≡ r ∷ rs
  at : (tick_or (latest_tick js) (r ∷ rs) ≡ tick) ⊎ (tick_or (latest_tick js) (r ∷ rs) ≡ latest_tick js)
  ticks : AreAt tick (r ∷ rs)
  numbers : HaveNumbers own js (r ∷ rs)

module _ (own : Station) (js : List Record) where
  abbrev AreNamed : ℕ → List Record → Type 0
  AreNamed tick [] = Unit {0}
  AreNamed tick (r ∷ rs) = Named own js tick r rs

  -- the first of these records names the input; they name this tick, and have no other than the first
  abbrev Points : ℕ → ℕ → Input → List Record → Type 0
  Points tick at i [] = Unit {0}
  Points tick at i (r ∷ rs) =
      (input_named js r ≡ Some i) × (tick_or (latest_tick js) (r ∷ rs) ≡ at) × AreAt tick (r ∷ rs)
      × HaveNumbers own js (r ∷ rs)

  named_now : (tick : ℕ) (i : Input) (rs : List Record) → (reaction own js tick i).records ≡ rs
      → Points tick tick i rs → AreNamed tick rs
  named_now tick i [] adds points = tt
  named_now tick i (r ∷ rs) adds points =
      record {
        input = i;
        is = points.0;
        adds = ap (λ k. (reaction own js k i).records) points.1 ∙ adds;
        at = inl points.1;
        ticks = points.2;
        numbers = points.3;
      }

  named_still : (tick : ℕ) (i : Input) (rs : List Record) → (reaction own js (latest_tick js) i).records ≡ rs
      → Points tick (latest_tick js) i rs → AreNamed tick rs
  named_still tick i [] adds points = tt
  named_still tick i (r ∷ rs) adds points =
      record {
        input = i;
        is = points.0;
        adds = ap (λ k. (reaction own js k i).records) points.1 ∙ adds;
        at = inr points.1;
        ticks = points.2;
        numbers = points.3;
      }

  points_if : (tick at : ℕ) (i : Input) (b : Bool) (r s : Reaction) → Points tick at i r.records
      → Points tick at i s.records → Points tick at i (cond b r s).records
  points_if tick at i true r s one other = one
  points_if tick at i false r s one other = other

  points_at : (tick at : ℕ) (i : Input) (o : Option Opening) (f : Opening → Reaction)
      → ((x : Opening) → Points tick at i (f x).records) → Points tick at i (for_opening o f).records
  points_at tick at i None f all = tt
  points_at tick at i (Some x) f all = all x

  named_if : (tick : ℕ) (b : Bool) (r : Reaction) → (b ≡ true → AreNamed tick r.records)
      → AreNamed tick (cond b r no_effect).records
  named_if tick true r may = may refl
  named_if tick false r may = tt

  named_at : (tick : ℕ) (o : Option Opening) (f : Opening → Reaction)
      → ((x : Opening) → o ≡ Some x → AreNamed tick (f x).records) → AreNamed tick (for_opening o f).records
  named_at tick None f may = tt
  named_at tick (Some x) f may = may x refl

  -- A poller's own doing.

  open_named : (tick au : ℕ) → AreNamed tick (reaction own js tick (input.OpenPoll au)).records
  unfolding reaction on_open
  open_named tick au =
      named_now tick (input.OpenPoll au) _ refl (points_if tick tick _ (may_open own js tick au)
      _ no_effect (refl, refl, (refl, tt), (refl, tt)) tt)

  widen_named : (tick n : ℕ) → AreNamed tick (reaction own js tick (input.Widen n)).records
  unfolding reaction on_widen
  widen_named tick n =
      named_still tick (input.Widen n) _ refl (points_if tick _ _ _ _ no_effect
      (points_at tick _ _ (opening_of n js) _ (λ o. (refl, refl, (refl, tt), (tt, tt)))) tt)

  shut_named : (tick n : ℕ) → AreNamed tick (reaction own js tick (input.Shut n)).records
  unfolding reaction on_shut
  shut_named tick n =
      named_if tick _ _ (λ voting. named_at tick _ _
      (λ o opened. by_quorum voting o opened (is_inquorate own n o js) refl))
    where
      at_tick : (t : ℕ) → is_voting n js ≡ true → (o : Opening) → opening_of n js ≡ Some o → (b : Bool)
          → is_inquorate own n o js ≡ b
          → (cond (is_voting n js) (for_opening (opening_of n js) (ends_voting own js t n)) no_effect).records
          ≡ (cond {A = Reaction} b (shut_inquorate js t n)
          (record { records = records.Shut n ∷ []; sends = [] })).records
      at_tick t voting o opened b e =
          ap (λ v. (cond v (for_opening (opening_of n js) (ends_voting own js t n)) no_effect).records) voting
          ∙ ap (λ x. (for_opening x (ends_voting own js t n)).records) opened
          ∙ ap (λ v.
          (cond {A = Reaction} v (shut_inquorate js t n)
          (record { records = records.Shut n ∷ []; sends = [] })).records) e

      by_quorum : is_voting n js ≡ true → (o : Opening) → opening_of n js ≡ Some o → (b : Bool)
          → is_inquorate own n o js ≡ b
          → AreNamed tick
          (cond {A = Reaction} b (shut_inquorate js tick n)
          (record { records = records.Shut n ∷ []; sends = [] })).records
      by_quorum voting o opened true e =
          named_now tick _ (shut_inquorate js tick n).records (at_tick tick voting o opened true e)
          (refl, refl, (refl, (refl, tt)), (tt, (tt, tt)))
      by_quorum voting o opened false e =
          named_still tick (input.Shut n) _
          (at_tick (latest_tick js) voting o opened false e) (refl, refl, (refl, tt), (tt, tt))

  tally_named : (tick n : ℕ) → AreNamed tick (reaction own js tick (input.Tally n)).records
  unfolding reaction on_tally closes_poll
  tally_named tick n =
      named_if tick _ _ (λ may. named_at tick _ _ (λ o opened. by_verdict may o opened (verdict_in own n o js) refl))
    where
      at_tick : (t : ℕ) → may_tally n js ≡ true → (o : Opening) → opening_of n js ≡ Some o → (v : Verdict)
          → verdict_in own n o js ≡ v
          → (cond (may_tally n js)
          (for_opening (opening_of n js) (λ o. follows_verdict own js t n o (verdict_in own n o js)))
          no_effect).records
          ≡ (follows_verdict own js t n o v).records
      at_tick t may o opened v e =
          ap (λ b. (cond b (for_opening (opening_of n js) (λ o. follows_verdict own js t n o (verdict_in own n o js)))
          no_effect).records) may
          ∙ ap (λ x. (for_opening x (λ o. follows_verdict own js t n o (verdict_in own n o js))).records) opened
          ∙ ap (λ v. (follows_verdict own js t n o v).records) e

      by_candidate : may_tally n js ≡ true → (o : Opening) → opening_of n js ≡ Some o → (b : ℕ)
          → verdict_in own n o js ≡ verdict.Loss b
          → (v : Option ℕ) → candidate own n o b js ≡ v → AreNamed tick (asks_supplier js tick n b v).records
      by_candidate may o opened b e None none =
          named_now tick _ (asks_supplier js tick n b None).records (at_tick tick may o opened (verdict.Loss b) e
          ∙ ap (λ v. (asks_supplier js tick n b v).records) none) (refl, refl, (refl, tt), (tt, tt))
      by_candidate may o opened b e (Some v) some =
          named_still tick (input.Tally n) _ (at_tick (latest_tick js) may o opened (verdict.Loss b) e
          ∙ ap (λ v. (asks_supplier js (latest_tick js) n b v).records) some) (refl, refl, (refl, tt), (tt, tt))

      by_verdict : may_tally n js ≡ true → (o : Opening) → opening_of n js ≡ Some o → (v : Verdict)
          → verdict_in own n o js ≡ v → AreNamed tick (follows_verdict own js tick n o v).records
      by_verdict may o opened verdict.Inquorate e = tt
      by_verdict may o opened verdict.Agreed e =
          named_now tick _ _ (at_tick tick may o opened verdict.Agreed e) (refl, refl, (refl, tt), (tt, tt))
      by_verdict may o opened (verdict.Split b) e =
          named_now tick _ _ (at_tick tick may o opened (verdict.Split b) e) (refl, refl, (refl, tt), (tt, tt))
      by_verdict may o opened (verdict.Loss b) e = by_candidate may o opened b e (candidate own n o b js) refl

  nudge_named : (tick n : ℕ) → AreNamed tick (reaction own js tick (input.Nudge n)).records
  unfolding reaction on_nudge
  nudge_named tick n = either (is_voting n js)
    where
      by_request : (r : Option Request) → AreNamed tick (asked_again n r).records
      by_request None = tt
      by_request (Some r) = tt

      either : (b : Bool)
          → AreNamed tick
          (cond b (for_opening (opening_of n js) (reminds_silent js n))
          (asked_again n (unanswered_request n js))).records
      either true = named_at tick _ (reminds_silent js n) _
      either false = by_request (unanswered_request n js)

  give_up_named : (tick n : ℕ) → AreNamed tick (reaction own js tick (input.GiveUp n)).records
  unfolding reaction on_give_up
  give_up_named tick n = named_still tick (input.GiveUp n) _ refl (by_request (unanswered_request n js))
    where
      by_request : (r : Option Request) → Points tick (latest_tick js) (input.GiveUp n) (given_up n r).records
      by_request None = tt
      by_request (Some r) = (refl, refl, (refl, tt), (tt, tt))

  abbrev AreNoted : ℕ → List Record → Type 0
  AreNoted tick rs = Points tick tick input.Check rs × AreAt tick rs × HaveNumbers own js rs

  check_named : (tick : ℕ) → AreNamed tick (reaction own js tick input.Check).records
  unfolding reaction on_check
  check_named tick = named_now tick input.Check _ refl (by_aus own.aus).0
    where
      by_aus : (aus : List AuPlan) → AreNoted tick (filter_map (overdue_in own js tick) aus)
      by_aus [] = (tt, tt, tt)
      by_aus (au ∷ aus) = first (must_note own js tick au.id) (by_aus aus)
        where
          first : (b : Bool) → AreNoted tick (filter_map (overdue_in own js tick) aus)
              → AreNoted tick
              (cons_option (cond b (Some (records.Overdue au.id tick)) None)
              (filter_map (overdue_in own js tick) aus))
          first true rest = ((refl, refl, (refl, rest.1), (tt, rest.2)), (refl, rest.1), (tt, rest.2))
          first false rest = rest

  tune_named : (tick quorum minority repairs : ℕ)
      → AreNamed tick (reaction own js tick (input.Tune quorum minority repairs)).records
  unfolding reaction on_tune
  tune_named tick quorum minority repairs =
      named_still tick (input.Tune quorum minority repairs) _ refl (points_if tick _ _
      (may_tune own.rules quorum minority repairs) _ no_effect (refl, refl, (refl, tt), (tt, tt)) tt)

  -- What a poller is told.

  nominate_named : (tick from n : ℕ) (nominees : List ℕ) (judged : Judged)
      → AreNamed tick (reaction own js tick (input.Got from (message.Nominate n nominees) judged)).records
  unfolding reaction on_nominate
  nominate_named tick from n nominees judged =
      named_still tick told _ refl (points_if tick _ told (is_voting n js && not (is_widened n js)) _ no_effect
      (points_at tick _ told _ _ (λ o.
      points_if tick _ told (may_nominate js from n o) _ no_effect (refl, refl, (refl, tt), (tt, tt)) tt)) tt)
    where
      told : Input
      told = input.Got from (message.Nominate n nominees) NotAsked

  vote_named : (tick from n : ℕ) (hashes : List (List ℕ)) (proof : List ℕ) (judged : Judged)
      → AreNamed tick (reaction own js tick (input.Got from (message.Vote n hashes proof) judged)).records
  unfolding reaction on_vote
  vote_named tick from n hashes proof Refused = tt
  vote_named tick from n hashes proof NotAsked = tt
  vote_named tick from n hashes proof Accepted =
      named_still tick told _ refl (points_if tick _ told (is_voting n js) _ no_effect
      (points_at tick _ told _ _ (λ o. points_if tick _ told (may_vote js from n _ o) _ no_effect
      (refl, refl, (refl, tt), (tt, tt)) tt)) tt)
    where
      told : Input
      told = input.Got from (message.Vote n hashes []) Accepted

  challenge_named : (tick from n : ℕ) (agrees : Bool) (judged : Judged)
      → AreNamed tick (reaction own js tick (input.Got from (message.PollChallenge n agrees) judged)).records
  unfolding reaction on_challenge
  challenge_named tick from n agrees judged =
      named_if tick _ (for_opening (opening_of n js) (sends_proof own js from n)) (λ may.
      named_at tick (opening_of n js) _ (λ o opened. named_if tick (may_prove js from n o) _ _))

  repair_named : (tick from n b : ℕ) (bytes : List ℕ) (judged : Judged)
      → AreNamed tick (reaction own js tick (input.Got from (message.Repair n b bytes) judged)).records
  unfolding reaction on_repair may_repair on_give_up
  repair_named tick from n b bytes judged = by_request (unanswered_request n js) refl
    where
      told : Input
      told = input.Got from (message.Repair n b bytes) NotAsked

      by_parts : (r : Request) → unanswered_request n js ≡ Some r
          → is_request b from (unanswered_request n js) ≡ true → (r.block ≡ b) × (r.voter ≡ from)
          → AreNamed tick (for_opening (opening_of n js) (takes_repair own js from n b bytes)).records
      by_parts r waits may is = named_at tick _ _ (λ o opened. either o opened (restores own n o b bytes js) refl)
        where
          same : unanswered_request n js ≡ Some (record { block = b; voter = from })
          same = waits ∙ (λ i. Some (record { block = is.0 i; voter = is.1 i }))

          either : (o : Opening) → opening_of n js ≡ Some o → (t : Bool) → restores own n o b bytes js ≡ t
              → AreNamed tick
              (cond {A = Reaction} t (record { records = records.Replaced n o.au b bytes ∷ []; sends = [] })
              (record { records = records.RepairBad n b from ∷ []; sends = [] })).records
          either o opened true e = named_still tick told _
              (ap (λ t.
              (cond t (for_opening (opening_of n js) (takes_repair own js from n b bytes)) no_effect).records) may
              ∙ ap (λ x. (for_opening x (takes_repair own js from n b bytes)).records) opened
              ∙ ap (λ t.
              (cond {A = Reaction} t (record { records = records.Replaced n o.au b bytes ∷ []; sends = [] })
              (record { records = records.RepairBad n b from ∷ []; sends = [] })).records) e) (
                ap (option_map _)
                    (last_is n js _ same),
                refl,
                (refl, tt),
                (tt, tt),
              )
          either o opened false e =
              named_still tick (input.GiveUp n) _
              (ap (λ r. (given_up n r).records) same) (refl, refl, (refl, tt), (tt, tt))

      by_request : (r : Option Request) → unanswered_request n js ≡ r
          → AreNamed tick
          (cond (is_request b from r) (for_opening (opening_of n js) (takes_repair own js from n b bytes))
          no_effect).records
      by_request None waits = tt
      by_request (Some r) waits = named_if tick _ _ (λ e.
          let parts = and_parts _ _ e in
          by_parts r waits (ap (is_request b from) waits ∙ e)
          (eqb-true r.block b parts.0, eqb-true r.voter from parts.1))

  -- A voter.

  invitation_named : (tick from n au : ℕ) (judged : Judged)
      → AreNamed tick (reaction own js tick (input.Got from (message.Poll n au) judged)).records
  unfolding reaction on_invitation
  invitation_named tick from n au judged =
      named_now tick told _ refl (points_if tick tick told _ (answers (challenge (poll_named from n) true)) _ tt
      (points_if tick tick told (may_join own js tick _ au) _ _ (refl, refl, (refl, tt), (refl, tt)) tt))
    where
      told : Input
      told = input.Got from (message.Poll n au) NotAsked

  end_named : (tick : ℕ) (q : PollName) → AreNamed tick (on_end js q).records
  unfolding reaction on_end
  end_named tick q =
      named_still tick (input.Expire q) _ refl (points_if tick _ _ _ (adds_only (records.Ended q)) no_effect
      (refl, refl, (refl, tt), (tt, tt)) tt)

  proof_named : (tick from n : ℕ) (nonce : List ℕ) (kind : HashKind) (proof : List ℕ) (judged : Judged)
      → AreNamed tick (reaction own js tick (input.Got from (message.PollProof n nonce kind proof) judged)).records
  unfolding reaction on_proof on_end
  proof_named tick from n nonce kind proof Accepted =
      named_still tick told _ refl (points_if tick _ told (is_session (poll_named from n) js) _ no_effect
      (by_session (join_of _ js) (commitment_of _ js)) tt)
    where
      told : Input
      told = input.Got from (message.PollProof n nonce kind []) Accepted

      by_session : (j : Option Join) (c : Option Commitment)
          → Points tick (latest_tick js) told (proved_to own js (poll_named from n) nonce kind Accepted j c).records
      by_session None c = tt
      by_session (Some j) None = (refl, refl, (refl, tt), (tt, tt))
      by_session (Some j) (Some c) = points_if tick _ told (repeats c nonce kind) _ no_effect tt tt
  proof_named tick from n nonce kind proof Refused =
      named_if tick _ _ (λ runs. by_session runs (join_of _ js) (commitment_of (poll_named from n) js))
    where
      by_session : is_session (poll_named from n) js ≡ true → (j : Option Join) (c : Option Commitment)
          → AreNamed tick (proved_to own js (poll_named from n) nonce kind Refused j c).records
      by_session runs None c = tt
      by_session runs (Some j) None =
          named_still tick (input.Expire _) _
          (ap (λ b. (cond b (adds_only (records.Ended (poll_named from n))) no_effect).records) runs)
          (refl, refl, (refl, tt), (tt, tt))
      by_session runs (Some j) (Some c) = named_if tick (repeats c nonce kind) _ (λ e. tt)
  proof_named tick from n nonce kind proof NotAsked =
      named_if tick (is_session (poll_named from n) js) _
      (λ runs. by_session (join_of (poll_named from n) js) (commitment_of _ js))
    where
      by_session : (j : Option Join) (c : Option Commitment)
          → AreNamed tick (proved_to own js (poll_named from n) nonce kind NotAsked j c).records
      by_session None c = tt
      by_session (Some j) None = tt
      by_session (Some j) (Some c) = named_if tick (repeats c nonce kind) _ _

  work_named : (tick : ℕ) (q : PollName) → AreNamed tick (reaction own js tick (input.Work q)).records
  unfolding reaction on_work
  work_named tick q =
      named_still tick (input.Work q) _ refl (points_if tick _ _ _ _ no_effect
      (by_session (join_of q js) (commitment_of q js) (hashes_of_vote q js)) tt)
    where
      by_session : (j : Option Join) (c : Option Commitment) (h : Option (List (List ℕ)))
          → Points tick (latest_tick js) (input.Work q) (casts_vote own js q j c h).records
      by_session None c h = tt
      by_session (Some j) None h = tt
      by_session (Some j) (Some c) None = (refl, refl, (refl, tt), (tt, tt))
      by_session (Some j) (Some c) (Some h) = tt

  request_named : (tick from n b : ℕ) (judged : Judged)
      → AreNamed tick (reaction own js tick (input.Got from (message.RepairRequest n b) judged)).records
  unfolding reaction on_request
  request_named tick from n b judged =
      named_still tick told _ refl (points_if tick _ told _ _ no_effect
      (by_session (join_of _ js) (commitment_of _ js) (hashes_of_vote _ js)) tt)
    where
      told : Input
      told = input.Got from (message.RepairRequest n b) NotAsked

      by_answer : (bytes : List ℕ) (a : Serve)
          → Points tick (latest_tick js) told (gives (poll_named from n) b bytes a).records
      by_answer bytes First = (refl, refl, (refl, tt), (tt, tt))
      by_answer bytes Again = tt
      by_answer bytes Spent = tt

      by_block : (j : Join) (o : Option (List ℕ))
          → Points tick (latest_tick js) told
          (serves (poll_named from n) b (most_served own.rules j.repairs) (served_blocks (poll_named from n) js)
          o).records
      by_block j None = tt
      by_block j (Some bytes) = by_answer bytes (answer_of _ b _)

      by_session : (j : Option Join) (c : Option Commitment) (h : Option (List (List ℕ)))
          → Points tick (latest_tick js) told (answers_request own js (poll_named from n) b j c h).records
      by_session None c h = tt
      by_session (Some j) None h = tt
      by_session (Some j) (Some c) None = tt
      by_session (Some j) (Some c) (Some h) = by_block j (slice_get _ b)

  -- All rows.

  reaction_named : (tick : ℕ) (i : Input) → AreNamed tick (reaction own js tick i).records
  unfolding reaction
  reaction_named tick (input.OpenPoll au) = open_named tick au
  reaction_named tick (input.Widen n) = widen_named tick n
  reaction_named tick (input.Shut n) = shut_named tick n
  reaction_named tick (input.Tally n) = tally_named tick n
  reaction_named tick (input.Nudge n) = nudge_named tick n
  reaction_named tick (input.GiveUp n) = give_up_named tick n
  reaction_named tick (input.Work q) = work_named tick q
  reaction_named tick (input.Expire q) = end_named tick q
  reaction_named tick input.Check = check_named tick
  reaction_named tick (input.Tune quorum minority repairs) = tune_named tick quorum minority repairs
  reaction_named tick (input.Got from (message.Poll n au) judged) = invitation_named tick from n au judged
  reaction_named tick (input.Got from (message.PollChallenge n agrees) judged) =
      challenge_named tick from n agrees judged
  reaction_named tick (input.Got from (message.PollProof n nonce kind proof) judged) =
      proof_named tick from n nonce kind proof judged
  reaction_named tick (input.Got from (message.Nominate n nominees) judged) = nominate_named tick from n nominees judged
  reaction_named tick (input.Got from (message.Vote n hashes proof) judged) = vote_named tick from n hashes proof judged
  reaction_named tick (input.Got from (message.RepairRequest n b) judged) = request_named tick from n b judged
  reaction_named tick (input.Got from (message.Repair n b bytes) judged) = repair_named tick from n b bytes judged
  reaction_named tick (input.Got from (message.Receipt n) judged) = end_named tick _

  -- Records without their numbers name the same.

  same_named : (r : Record) → (input_named js (unnumbered r) ≡ input_named js r) × (tick_in (unnumbered r) ≡ tick_in r)
  same_named (records.Deposit au blocks) = (refl, refl)
  same_named (records.PollOpened number au nonce inner tick limits kind) = (refl, refl)
  same_named (records.Nominated number voter nominees) = (refl, refl)
  same_named (records.OuterOpened number outer) = (refl, refl)
  same_named (records.VoteIn number voter hashes) = (refl, refl)
  same_named (records.Shut number) = (refl, refl)
  same_named (records.Asked number block voter) = (refl, refl)
  same_named (records.RepairBad number block voter) = (refl, refl)
  same_named (records.Replaced number au block bytes) = (refl, refl)
  same_named (records.Closed number outcome tick) = (refl, refl)
  same_named (records.Overdue au tick) = (refl, refl)
  same_named (records.Joined poll au tick low repairs) = (refl, refl)
  same_named (records.Committed poll nonce version kind) = (refl, refl)
  same_named (records.Voted poll hashes) = (refl, refl)
  same_named (records.Served poll block) = (refl, refl)
  same_named (records.Ended poll) = (refl, refl)
  same_named (records.Tuned quorum minority repairs) = (refl, refl)

  ticks_named : (tick : ℕ) (rs : List Record) → tick_or tick (map unnumbered rs) ≡ tick_or tick rs
  ticks_named tick [] = refl
  ticks_named tick (r ∷ rs) = λ i. unwrap_or ((same_named r).1 i) (ticks_named tick rs i)

  -- The law: what is added for any input, at a tick that isn't below those of the journal, stands behind it.

  at_least : (tick named : ℕ) → latest_tick js ≤ tick → (named ≡ tick) ⊎ (named ≡ latest_tick js)
      → latest_tick js ≤ named
  at_least tick named low (inl same) = omega (arith, same, low)
  at_least tick named low (inr same) = omega (arith, same)

  with_numbers : (tick : ℕ) (r : Record) (rs : List Record) → latest_tick js ≤ tick → Named own js tick r rs
      → StandsBehind own js (r ∷ rs)
  with_numbers tick r rs low n = (
    at_least tick _ low n.at,
    subst (AddsNamed own js _ _) (sym n.is) (inl (sym n.adds)),
  )

  without_numbers : (tick : ℕ) (r : Record) (rs : List Record) → was_tuned js ≡ false → latest_tick js ≤ tick
      → Named own js tick r rs → StandsBehind own js (unnumbered r ∷ map unnumbered rs)
  without_numbers tick r rs new low n =
      let at : tick_or _ (unnumbered r ∷ map unnumbered rs)
      ≡ tick_or _ (r ∷ rs) = ticks_named _ (r ∷ rs) in
      subst
      (λ k. (latest_tick js ≤ k)
      × AddsNamed own js k (unnumbered r ∷ map unnumbered rs) (input_named js (unnumbered r))) (sym at) (
        at_least tick _ low n.at,
        subst (AddsNamed own js _ _)
            (sym ((same_named r).0 ∙ n.is)) (inr (new, ap (map unnumbered) (sym n.adds))),
      )

  pub added_stands : (tick : ℕ) (i : Input) (added : List Record) → latest_tick js ≤ tick
      → AddsFor own js (record { tick = tick; input = i }) added → added ≢ [] → StandsBehind own js added
  added_stands tick i added low (inl is) some =
      subst (StandsBehind own js) (sym is) (by_records _ (λ e. some (is ∙ e)) (reaction_named tick i))
    where
      by_records : (rs : List Record) → rs ≢ [] → AreNamed tick rs → StandsBehind own js rs
      by_records [] some n = some refl
      by_records (r ∷ rs) some n = with_numbers tick r rs low n
  added_stands tick i added low (inr lacks) some =
      subst (StandsBehind own js) (sym lacks.1)
      (by_records _ (λ e. some (lacks.1 ∙ ap (map unnumbered) e)) (reaction_named tick i))
    where
      by_records : (rs : List Record) → rs ≢ [] → AreNamed tick rs → StandsBehind own js (map unnumbered rs)
      by_records [] some n = some refl
      by_records (r ∷ rs) some n = without_numbers tick r rs lacks.0 low n

  -- and has no tick but this one
  pub added_at : (tick : ℕ) (i : Input) (added : List Record)
      → AddsFor own js (record { tick = tick; input = i }) added → AreAt tick added
  added_at tick i added (inl is) = subst (AreAt tick) (sym is) (by_records _ (reaction_named tick i))
    where
      by_records : (rs : List Record) → AreNamed tick rs → AreAt tick rs
      by_records [] n = tt
      by_records (r ∷ rs) n = n.ticks
  added_at tick i added (inr lacks) = subst (AreAt tick) (sym lacks.1) (by_records _ (reaction_named tick i))
    where
      lack : (rs : List Record) → AreAt tick rs → AreAt tick (map unnumbered rs)
      lack [] all = tt
      lack (r ∷ rs) all = (ap (λ (t : Option ℕ). unwrap_or t tick) (same_named r).1 ∙ all.0, lack rs all.1)

      by_records : (rs : List Record) → AreNamed tick rs → AreAt tick (map unnumbered rs)
      by_records [] n = tt
      by_records (r ∷ rs) n = lack (r ∷ rs) n.ticks

  numbers_of : (tick : ℕ) (i : Input) → HaveNumbers own js (reaction own js tick i).records
  numbers_of tick i = by_records _ (reaction_named tick i)
    where
      by_records : (rs : List Record) → AreNamed tick rs → HaveNumbers own js rs
      by_records [] n = tt
      by_records (r ∷ rs) n = n.numbers

  -- Where nothing was tuned, a record without its numbers makes the same of a state.

  numbers_stay : (before : Numbers) (rs : List Record) → list_any is_tuning rs ≡ false → numbers_from before rs ≡ before
  numbers_stay before [] e = refl
  numbers_stay before (r ∷ rs) e = by_record (said_by r).tuned e (numbers_stay before rs)
    where
      by_record : (t : Option Numbers) → (is_some t || list_any is_tuning rs) ≡ false
          → (list_any is_tuning rs ≡ false → numbers_from before rs ≡ before)
          → numbers_from (unwrap_or t before) rs ≡ before
      by_record None e rest = rest e
      by_record (Some t) e rest = absurd cc

  rules_in_force : was_tuned js ≡ false
      → numbers_in_force own.rules js
      ≡ record { quorum = own.rules.quorum; minority = own.rules.minority; repairs = own.rules.repairs }
  unfolding was_tuned numbers_in_force
  rules_in_force new = numbers_stay _ js new

  abbrev some_limits : Numbers → Option Limits
  some_limits n = Some (record { quorum = n.quorum; minority = n.minority })

  after_lacking : (s : State) (r : Record) → was_tuned js ≡ false → HasNumbers own js r
      → after own s (unnumbered r) ≡ after own s r
  unfolding after
  after_lacking s (records.PollOpened number au nonce inner tick limits Sha256) new has =
      let full : limits ≡ Some (record { quorum = own.rules.quorum; minority = own.rules.minority }) =
      has ∙ ap some_limits (rules_in_force new) in
      ap (λ (l : Option Limits). after own s (records.PollOpened number au nonce inner tick l Sha256)) (sym full)
  after_lacking s (records.PollOpened number au nonce inner tick limits Sha512_256) new has = refl
  after_lacking s (records.Joined poll au tick low repairs) new has =
      let full : repairs ≡ Some own.rules.repairs = has ∙ ap (λ (n : Numbers). Some n.repairs) (rules_in_force new) in
      ap (λ (l : Option ℕ). after own s (records.Joined poll au tick low l)) (sym full)
  after_lacking s r new has = refl

  all_lacking : (s : State) (rs : List Record) → was_tuned js ≡ false → HaveNumbers own js rs
      → after_all own s (map unnumbered rs) ≡ after_all own s rs
  all_lacking s [] new has = refl
  all_lacking s (r ∷ rs) new has =
      ap (λ (t : State). after_all own t (map unnumbered rs)) (after_lacking s r new has.0)
      ∙ all_lacking (after own s r) rs new has.1

  -- so the state of a peer is the same with its numbers and without
  pub state_added : (s : State) (tick : ℕ) (i : Input) (added : List Record)
      → AddsFor own js (record { tick = tick; input = i }) added
      → after_all own s added ≡ after_all own s (reaction own js tick i).records
  state_added s tick i added (inl is) = ap (after_all own s) is
  state_added s tick i added (inr lacks) =
      ap (after_all own s) lacks.1 ∙ all_lacking s (reaction own js tick i).records lacks.0 (numbers_of tick i)
