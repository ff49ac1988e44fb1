-- What a peer adds to its journal is no deposit.
use Rattle.std.proofs.Common.{◌≡◌, ◌∙◌, inl, inr, ap, sym, subst, ℕ, Bool, true, false, cond, List, [], ◌∷◌, ◌++◌}
use Rattle.std.proofs.Common.{map, append_assoc}
use Rattle.std.specs.Prelude.{Option, Some, None, slice_get, length}
use Rattle.std.specs.List.{filter_map, cons_option}
use Rattle.std.proofs.lemmas.List.{append-nil}
use Rattle.lks_base.specs.declared.messages.Message.{Message}
use Rattle.lks_base.specs.declared.messages.Message.TheVariants as message
use Rattle.lks_base.specs.declared.names.HashKind.{HashKind}
use Rattle.lks_base.specs.declared.names.Judged.{Judged}
use Rattle.lks_base.specs.declared.names.Judged.TheVariants.{NotAsked, Accepted, Refused}
use Rattle.lks_base.specs.declared.names.PollName.{PollName}
use Rattle.lks_base.specs.declared.plans.AuPlan.{AuPlan}
use Rattle.lks_base.specs.declared.reactions.Input.{Input}
use Rattle.lks_base.specs.declared.reactions.Input.TheVariants as input
use Rattle.lks_base.specs.declared.reactions.Reaction.{Reaction}
use Rattle.lks_base.specs.declared.records.Record.{Record}
use Rattle.lks_base.specs.declared.records.Record.TheVariants.{Deposit, Overdue}
use Rattle.lks_law.specs.Facts.{Heard, unnumbered, GoesBy}
use Rattle.lks_law.specs.Journal.{Opening, Request, opening_of, contents_at, unanswered_request}
use Rattle.lks_law.proofs.Linked.{Each}
use Rattle.lks_law.specs.Polls.{Station, verdict_in, candidate, restores}
use Rattle.lks_law.specs.References.{reference_list}
use Rattle.lks_law.specs.Reaction.{no_effect, for_opening, may_open, on_open, on_widen, asked_again, on_nudge}
use Rattle.lks_law.specs.Reaction.{given_up, on_give_up, is_inquorate, on_shut, on_tally, asks_supplier}
use Rattle.lks_law.specs.Reaction.{follows_verdict, closes_poll, must_note, overdue_in, on_check, may_prove}
use Rattle.lks_law.specs.Reaction.{on_challenge, may_nominate, on_nominate, may_vote, on_vote, on_repair}
use Rattle.lks_law.specs.Sessions.{Join, Commitment, is_session, join_of, commitment_of, hashes_of_vote, version_now}
use Rattle.lks_law.specs.Sessions.{served_blocks}
use Rattle.lks_law.specs.Table.{on_message, reaction}
use Rattle.lks_law.specs.Voting.{poll_named, may_join, on_invitation, commits, repeats, proved_to, on_proof}
use Rattle.lks_law.specs.Voting.{casts_vote, on_work, most_served, gives, serves, answers_request, on_request, on_end}
use Rattle.lks_law.specs.Voting.{may_tune, on_tune}
use Rattle.lks_law.proofs.Growing.{IsLater, each_append}
use Rattle.lks_tally.specs.declared.ballots.Verdict.{Verdict}
use Rattle.lks_tally.specs.declared.ballots.Verdict.TheVariants as verdict
use Rattle.lks_voter.specs.Voting.{answer_of}
use Rattle.lks_voter.specs.declared.commitments.Serve.{Serve}
use Rattle.lks_voter.specs.declared.commitments.Serve.TheVariants.{First, Again, Spent}

abbrev IsAdded : Reaction → Type 0
IsAdded r = Each IsLater r.records

later_if : (b : Bool) (r s : Reaction) → IsAdded r → IsAdded s → IsAdded (cond b r s)
later_if true r s x y = x
later_if false r s x y = y

later_for : (o : Option Opening) (f : Opening → Reaction) → ((x : Opening) → IsAdded (f x)) → IsAdded (for_opening o f)
later_for None f h = tt
later_for (Some x) f h = h x

module _ (own : Station) (js : List Record) where
  later_open : (tick au : ℕ) → IsAdded (on_open own js tick au)
  unfolding on_open
  later_open tick au = later_if (may_open own js tick au) _ no_effect (tt, tt) tt

  later_widen : (n : ℕ) → IsAdded (on_widen own js n)
  unfolding on_widen
  later_widen n = later_if _ _ no_effect (later_for (opening_of n js) _ (λ o. (tt, tt))) tt

  later_nudge : (n : ℕ) → IsAdded (on_nudge js n)
  unfolding on_nudge
  later_nudge n =
      later_if _ _ (asked_again n (unanswered_request n js)) (later_for (opening_of n js) _ (λ o. tt))
      (again (unanswered_request n js))
    where
      again : (r : Option Request) → IsAdded (asked_again n r)
      again None = tt
      again (Some r) = tt

  later_give_up : (n : ℕ) → IsAdded (on_give_up js n)
  unfolding on_give_up
  later_give_up n = given (unanswered_request n js)
    where
      given : (r : Option Request) → IsAdded (given_up n r)
      given None = tt
      given (Some r) = (tt, tt)

  later_shut : (tick n : ℕ) → IsAdded (on_shut own js tick n)
  unfolding on_shut
  later_shut tick n =
      later_if _ _ no_effect
      (later_for (opening_of n js) _ (λ o. later_if (is_inquorate own n o js) _ _ (tt, (tt, tt)) (tt, tt))) tt

  later_tally : (tick n : ℕ) → IsAdded (on_tally own js tick n)
  unfolding on_tally closes_poll
  later_tally tick n =
      later_if _ _ no_effect (later_for (opening_of n js) _ (λ o. by_verdict o (verdict_in own n o js))) tt
    where
      by_voter : (b : ℕ) (v : Option ℕ) → IsAdded (asks_supplier js tick n b v)
      by_voter b None = (tt, tt)
      by_voter b (Some v) = (tt, tt)

      by_verdict : (o : Opening) (v : Verdict) → IsAdded (follows_verdict own js tick n o v)
      by_verdict o verdict.Inquorate = tt
      by_verdict o verdict.Agreed = (tt, tt)
      by_verdict o (verdict.Split b) = (tt, tt)
      by_verdict o (verdict.Loss b) = by_voter b (candidate own n o b js)

  later_check : (tick : ℕ) → IsAdded (on_check own js tick)
  unfolding on_check
  later_check tick = each own.aus
    where
      here : (au : AuPlan) (b : Bool) (rest : List Record) → Each IsLater rest
          → Each IsLater (cons_option (cond b (Some (Overdue au.id tick)) None) rest)
      here au true rest h = (tt, h)
      here au false rest h = h

      each : (aus : List AuPlan) → Each IsLater (filter_map (overdue_in own js tick) aus)
      each [] = tt
      each (au ∷ aus) = here au (must_note own js tick au.id) (filter_map (overdue_in own js tick) aus) (each aus)

  later_challenge : (from n : ℕ) (agrees : Bool) → IsAdded (on_challenge own js from n agrees)
  unfolding on_challenge
  later_challenge from n agrees =
      later_if _ _ no_effect
      (later_for (opening_of n js) _ (λ o. later_if (may_prove js from n o) _ no_effect tt tt)) tt

  later_nominate : (from n : ℕ) (nominees : List ℕ) → IsAdded (on_nominate js from n nominees)
  unfolding on_nominate
  later_nominate from n nominees =
      later_if _ _ no_effect
      (later_for (opening_of n js) _ (λ o. later_if (may_nominate js from n o) _ no_effect (tt, tt) tt)) tt

  later_vote : (from n : ℕ) (hashes : List (List ℕ)) (judged : Judged) → IsAdded (on_vote js from n hashes judged)
  unfolding on_vote
  later_vote from n hashes judged =
      later_if _ _ no_effect
      (later_for (opening_of n js) _
      (λ o. later_if (may_vote js from n (length hashes) o) _ no_effect (tt, tt) tt)) tt

  later_repair : (from n b : ℕ) (bytes : List ℕ) → IsAdded (on_repair own js from n b bytes)
  unfolding on_repair
  later_repair from n b bytes =
      later_if _ _ no_effect
      (later_for (opening_of n js) _ (λ o. later_if (restores own n o b bytes js) _ _ (tt, tt) (tt, tt))) tt

  later_invitation : (tick : ℕ) (q : PollName) (au : ℕ) → IsAdded (on_invitation own js tick q au)
  unfolding on_invitation
  later_invitation tick q au = later_if (is_session q js) _ _ tt (later_if (may_join own js tick q au) _ _ (tt, tt) tt)

  later_proof : (q : PollName) (nonce : List ℕ) (kind : HashKind) (judged : Judged)
      → IsAdded (on_proof own js q nonce kind judged)
  unfolding on_proof
  later_proof q nonce kind judged = later_if _ _ no_effect (by_session (join_of q js) (commitment_of q js)) tt
    where
      by_judge : (refs : List ℕ) (version : ℕ) (g : Judged) → IsAdded (commits own refs q version nonce kind g)
      by_judge refs version Accepted = (tt, tt)
      by_judge refs version Refused = (tt, tt)
      by_judge refs version NotAsked = tt

      by_session : (j : Option Join) (c : Option Commitment) → IsAdded (proved_to own js q nonce kind judged j c)
      by_session None c = tt
      by_session (Some j) None = by_judge (reference_list own js) (version_now j.au js) judged
      by_session (Some j) (Some c) = later_if (repeats c nonce kind) _ no_effect tt tt

  later_work : (q : PollName) → IsAdded (on_work own js q)
  unfolding on_work
  later_work q = later_if _ _ no_effect (by_session (join_of q js) (commitment_of q js) (hashes_of_vote q js)) tt
    where
      by_session : (j : Option Join) (c : Option Commitment) (h : Option (List (List ℕ)))
          → IsAdded (casts_vote own js q j c h)
      by_session None c h = tt
      by_session (Some j) None h = tt
      by_session (Some j) (Some c) None = (tt, tt)
      by_session (Some j) (Some c) (Some h) = tt

  later_request : (q : PollName) (b : ℕ) → IsAdded (on_request own js q b)
  unfolding on_request
  later_request q b = later_if _ _ no_effect (by_session (join_of q js) (commitment_of q js) (hashes_of_vote q js)) tt
    where
      by_block : (most : ℕ) (before : List ℕ) (o : Option (List ℕ)) → IsAdded (serves q b most before o)
      by_block most before None = tt
      by_block most before (Some bytes) = by_answer (answer_of before b most)
        where
          by_answer : (a : Serve) → IsAdded (gives q b bytes a)
          by_answer First = (tt, tt)
          by_answer Again = tt
          by_answer Spent = tt

      by_session : (j : Option Join) (c : Option Commitment) (h : Option (List (List ℕ)))
          → IsAdded (answers_request own js q b j c h)
      by_session None c h = tt
      by_session (Some j) None h = tt
      by_session (Some j) (Some c) None = tt
      by_session (Some j) (Some c) (Some h) =
          by_block (most_served own.rules j.repairs) (served_blocks q js)
          (slice_get (contents_at j.au c.version js) b)

  later_end : (q : PollName) → IsAdded (on_end js q)
  unfolding on_end
  later_end q = later_if (is_session q js) _ no_effect (tt, tt) tt

  later_tune : (quorum minority repairs : ℕ) → IsAdded (on_tune own quorum minority repairs)
  unfolding on_tune
  later_tune quorum minority repairs = later_if (may_tune own.rules quorum minority repairs) _ no_effect (tt, tt) tt

  later_message : (tick from : ℕ) (m : Message) (judged : Judged) → IsAdded (on_message own js tick from m judged)
  later_message tick from (message.Poll n au) judged = later_invitation tick (poll_named from n) au
  later_message tick from (message.PollChallenge n agrees) judged = later_challenge from n agrees
  later_message tick from (message.PollProof n nonce kind proof) judged =
      later_proof (poll_named from n) nonce kind judged
  later_message tick from (message.Nominate n nominees) judged = later_nominate from n nominees
  later_message tick from (message.Vote n hashes proof) judged = later_vote from n hashes judged
  later_message tick from (message.RepairRequest n b) judged = later_request (poll_named from n) b
  later_message tick from (message.Repair n b bytes) judged = later_repair from n b bytes
  later_message tick from (message.Receipt n) judged = later_end (poll_named from n)

  later_reaction : (tick : ℕ) (i : Input) → IsAdded (reaction own js tick i)
  unfolding reaction
  later_reaction tick (input.OpenPoll au) = later_open tick au
  later_reaction tick (input.Widen n) = later_widen n
  later_reaction tick (input.Shut n) = later_shut tick n
  later_reaction tick (input.Tally n) = later_tally tick n
  later_reaction tick (input.Nudge n) = later_nudge n
  later_reaction tick (input.GiveUp n) = later_give_up n
  later_reaction tick (input.Work q) = later_work q
  later_reaction tick (input.Expire q) = later_end q
  later_reaction tick input.Check = later_check tick
  later_reaction tick (input.Tune quorum minority repairs) = later_tune quorum minority repairs
  later_reaction tick (input.Got from m judged) = later_message tick from m judged

still_later : (rs : List Record) → Each IsLater rs → Each IsLater (map unnumbered rs)
still_later [] h = tt
still_later (r ∷ rs) h = (one r h.0, still_later rs h.1)
  where
    one : (r : Record) → IsLater r → IsLater (unnumbered r)
    one (Deposit au blocks) l = absurd l
    one r l = tt

-- behind its deposits a journal has none
pub record IsBehind (begun journal : List Record) : Type 0 where
  pub rest : List Record
  pub is : journal ≡ begun ++ rest
  pub later : Each IsLater rest

pub behind : (own : Station) (begun : List Record) (hs : List Heard) (journal : List Record)
    → GoesBy own begun hs journal → IsBehind begun journal
behind own begun [] journal is = record { rest = []; is = is ∙ sym (append-nil begun); later = tt }
behind own begun (h ∷ hs) journal goes =
    let before = behind own begun hs goes.0 goes.2 in
    let fresh = later_reaction own goes.0 h.tick h.input in
    let added : Each IsLater goes.1 =
    elim goes.4 [
      | inl same ↦ subst (Each IsLater) (sym same) fresh
      | inr bare ↦ subst (Each IsLater) (sym bare.1) (still_later (reaction own goes.0 h.tick h.input).records fresh)
    ] in
    record {
      rest = before.rest ++ goes.1;
      is = goes.5 ∙ ap (λ rs. rs ++ goes.1) before.is ∙ append_assoc begun before.rest goes.1;
      later = each_append IsLater before.rest goes.1 before.later added;
    }
