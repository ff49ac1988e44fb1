-- What the rules add fits a batch.
use Rattle.std.proofs.Common.{◌≡◌, ◌<◌, ◌≤◌, ◌+◌, ℕ, zero, suc, ap, Bool, true, false, cond, ltb, leb, List, [], ◌∷◌}
use Rattle.std.proofs.Common.{length, refl, subst, arith}
use Rattle.std.specs.Prelude.{Option, Some, None, is_some, ◌&&◌, ◌*◌, not, map, slice_get, sum_by, All}
use Rattle.std.specs.List.{filter_map, cons_option}
use Rattle.std.specs.Option.{option_to_list}
use Rattle.std.proofs.lemmas.Bool.{and_parts, leb-true}
use Rattle.std.proofs.lemmas.List.Elements.{All-nil, All-cons}
use Rattle.std.proofs.lemmas.List.Sums.{sum_by-cons}
use Rattle.lks_audit.proofs.Holdings.{few_on}
use Rattle.lks_base.specs.Kinds.{is_second}
use Rattle.lks_base.specs.Quorums.{obeys_quorum_rule}
use Rattle.lks_base.specs.declared.messages.Message.{Message}
use Rattle.lks_base.specs.declared.messages.Message.TheVariants as message
use Rattle.lks_base.specs.declared.names.HashKind.{HashKind}
use Rattle.lks_base.specs.declared.names.HashKind.TheVariants.{Sha256, Sha512_256}
use Rattle.lks_base.specs.declared.names.Judged.{Judged}
use Rattle.lks_base.specs.declared.names.Judged.TheVariants.{NotAsked, Accepted, Refused}
use Rattle.lks_base.specs.declared.names.Limits.{Limits}
use Rattle.lks_base.specs.declared.names.Outcome.TheVariants as outcome
use Rattle.lks_base.specs.declared.names.PollName.{PollName}
use Rattle.lks_base.specs.declared.plans.AuPlan.{AuPlan}
use Rattle.lks_base.specs.declared.reactions.Input.{Input}
use Rattle.lks_base.specs.declared.reactions.Input.TheVariants as input
use Rattle.lks_base.specs.declared.reactions.Reaction.{Reaction}
use Rattle.lks_base.specs.declared.records.Record.{Record}
use Rattle.lks_base.specs.declared.records.Record.TheVariants as records
use Rattle.lks_draw.proofs.Picking.{pick_law}
use Rattle.lks_draw.proofs.Places.{word_fits}
use Rattle.lks_draw.specs.Words.{drawn_from, words_of}
use Rattle.lks_hash.proofs.RunningLaws.{hashes_length}
use Rattle.lks_hash.specs.Hashes.{key_of}
use Rattle.lks_law.specs.Answering.{is_open, may_join_in, joined_now, invitation_in, proof_at, proof_in, version_at}
use Rattle.lks_law.specs.Answering.{hashes_for, work_at, work_in, request_at, request_in, end_in}
use Rattle.lks_law.specs.Facts.{IsHeard}
use Rattle.lks_law.proofs.Lists.{any_where}
use Rattle.lks_law.specs.Fitting.{Where, IsPinnedWell}
use Rattle.lks_law.specs.Journal.{Request}
use Rattle.lks_law.specs.Polls.{Station, limits_of, ballot_of}
use Rattle.lks_law.specs.Reacting.{for_poll, if_may, may_open_in, inner_of, limits_now, opened_as, open_in}
use Rattle.lks_law.specs.Reacting.{outer_of_poll, widen_in, silent_in, nudge_in, give_up_in, receipts_of, shut_once}
use Rattle.lks_law.specs.Reacting.{shut_in, closed_as, asked_for, verdict_of, supplier, tallied_as, tally_in}
use Rattle.lks_law.specs.Reacting.{must_note_copy, overdue_of, check_in, challenge_in, nominate_in, vote_in_poll}
use Rattle.lks_law.specs.Reacting.{said_of, repair_in}
use Rattle.lks_law.specs.Reaction.{letter, asked_again, given_up, is_request}
use Rattle.lks_law.specs.State.{Poll, State, poll_at, copy_at, blocks_at}
use Rattle.lks_law.specs.Table.{receive_in, react_on}
use Rattle.lks_law.specs.Taking.{Session, Pinned, Cast, is_pinned_of, session_at, pinned_at, cast_at}
use Rattle.lks_law.specs.Voting.{poll_named, answers, challenge, repeats, commits, vote_hashes, gives, serves}
use Rattle.lks_law.specs.Voting.{may_tune, on_tune}
use Rattle.lks_message.specs.Spelling.{IsWithin as IsMessage}
use Rattle.lks_peer.proofs.Asking.{asks_small}
use Rattle.lks_peer.specs.Knows.{AsksSmall, IsFit}
use Rattle.lks_record.specs.Sizes.{most_bytes}
use Rattle.lks_record.specs.Spelling.{IsWithin, AreLimits, HasLimits}
use Rattle.lks_choice.proofs.Filling.{circle_law}
use Rattle.lks_tally.proofs.Deciding.{loss_first, split_first}
use Rattle.lks_tally.specs.declared.ballots.Verdict.{Verdict}
use Rattle.lks_tally.specs.declared.ballots.Verdict.TheVariants as verdict
use Rattle.lks_host.specs.Fits.{FitsBatch, HasVoteAlone}
use Rattle.lks_voter.specs.Voting.{answer_of}
use Rattle.lks_voter.specs.declared.commitments.Serve.{Serve}
use Rattle.lks_voter.specs.declared.commitments.Serve.TheVariants.{First, Again, Spent}

-- ---- short batches

fits_nothing : FitsBatch []
fits_nothing =
    record {
      within = All-nil IsWithin;
      few = omega arith;
      short = omega arith;
      alone = λ i n v hashes e. absurd cc;
    }

fits_one : (r : Record) → IsWithin r → most_bytes r ≤ 16396 → FitsBatch (r ∷ [])
fits_one r within short = record {
  within = All-cons IsWithin r [] within (All-nil IsWithin);
  few = omega arith;
  short = omega arith;
  alone = here;
}
  where
    here : HasVoteAlone (r ∷ [])
    here zero n v hashes e = ap (λ o. option_to_list o) e
    here (suc i) n v hashes e = absurd cc

fits_shut : (n tick : ℕ) → FitsBatch (records.Shut n ∷ records.Closed n outcome.Inquorate tick ∷ [])
fits_shut n tick =
    let ended = records.Closed n outcome.Inquorate tick in
    record {
      within = All-cons IsWithin (records.Shut n) (ended ∷ []) tt (All-cons IsWithin ended [] tt (All-nil IsWithin));
      few = omega arith;
      short = omega arith;
      alone = no_vote;
    }
  where
    no_vote : HasVoteAlone (records.Shut n ∷ records.Closed n outcome.Inquorate tick ∷ [])
    no_vote zero m v hashes e = absurd cc
    no_vote (suc zero) m v hashes e = absurd cc
    no_vote (suc (suc i)) m v hashes e = absurd cc

-- ---- what holds of each rule's branches

if_each : (b : Bool) (r : Reaction) → FitsBatch r.records → FitsBatch (if_may b r).records
if_each true r fits = fits
if_each false r fits = fits_nothing

at_found : (o : Option Poll) (row : Poll → Reaction) → ((p : Poll) → o ≡ Some p → FitsBatch (row p).records)
    → FitsBatch (for_poll o row).records
at_found None row fits = fits_nothing
at_found (Some p) row fits = fits p refl

has_limits : (limits : Limits) (kind : HashKind) → AreLimits limits → HasLimits (Some limits) kind
has_limits limits Sha256 are = are
has_limits limits Sha512_256 are = are

-- one note for each AU at most
record AreNotes (most : ℕ) (list : List Record) : Type 0 where
  within : All IsWithin list
  few : length list ≤ most
  short : sum_by most_bytes list ≤ 8 * most
  none : (i n v : ℕ) (hashes : List (List ℕ)) → slice_get list i ≡ Some (records.VoteIn n v hashes) → ⊥

-- ---- what each rule adds fits a batch

module _ (own : Station) (s : State) (fit : IsFit own s) where
  open_fits : (tick au : ℕ) → FitsBatch (open_in own s tick au).records
  unfolding open_in inner_of
  open_fits tick au =
      if_each (may_open_in own s tick au) (opened_as own s tick au (s.openings + 1))
      (fits_one _ (few_picked, has_limits (limits_now s) own.hash fit.sound.legal) (omega (arith, few_picked)))
    where
      few_picked : length (inner_of own (s.openings + 1) s.refs) ≤ 16
      few_picked =
          let d = drawn_from own.seed 1 (s.openings + 1) in
          let pick = pick_law (words_of d.key) (word_fits d.key) d.place s.refs own.rules.inner in
          omega (arith, pick.count, fit.inner)

  widen_fits : (p : Poll) → FitsBatch (widen_in own p).records
  unfolding widen_in outer_of_poll
  widen_fits p =
      if_each (not p.shut && not (is_some p.outer)) _
      (fits_one (records.OuterOpened p.number (outer_of_poll own p)) few_picked (omega (arith, few_picked)))
    where
      few_picked : length (outer_of_poll own p) ≤ 16
      few_picked =
          let law = circle_law (drawn_from own.seed 2 p.number) own.id p.opening.inner _ own.rules.outer
          (outer_of_poll own p) refl in
          omega (arith, law.few, fit.outer)

  shut_fits : (tick : ℕ) (p : Poll) → FitsBatch (shut_in own tick p).records
  unfolding shut_in
  shut_fits tick p =
      if_each (not p.shut) (shut_once own p tick)
      (by_quorum (ltb (length p.inner_votes) (limits_of own.rules p.opening).quorum))
    where
      by_quorum : (b : Bool) → FitsBatch (cond {A = Reaction} b
          (record {
            records = records.Shut p.number ∷ records.Closed p.number outcome.Inquorate tick ∷ [];
            sends = receipts_of p;
          })
          (record { records = records.Shut p.number ∷ []; sends = [] })).records
      by_quorum true = fits_shut p.number tick
      by_quorum false = fits_one (records.Shut p.number) tt (omega arith)

  tally_fits : (tick : ℕ) (p : Poll) → FitsBatch (tally_in own tick s.copies p).records
  unfolding tally_in verdict_of closed_as
  tally_fits tick p = if_each (p.shut && not (is_some p.request)) _ (by_verdict (verdict_of own p blocks) refl)
    where
      blocks : List (List ℕ)
      blocks = blocks_at p.opening.au s.copies

      few : (b : ℕ) → b < length blocks → b ≤ 511
      few b within = omega (arith, within, few_on p.opening.au s.copies fit.sound.counted)

      by_voter : (b : ℕ) (v : Option ℕ) → b ≤ 511 → FitsBatch (asked_for p tick b v).records
      by_voter b None below = fits_one (records.Closed p.number (outcome.NoSupplier b) tick) below (omega arith)
      by_voter b (Some v) below = fits_one (records.Asked p.number b v) below (omega arith)

      by_verdict : (v : Verdict) → verdict_of own p blocks ≡ v → FitsBatch (tallied_as own p tick blocks v).records
      by_verdict verdict.Inquorate said = fits_nothing
      by_verdict verdict.Agreed said = fits_one (records.Closed p.number outcome.Agreed tick) tt (omega arith)
      by_verdict (verdict.Split b) said =
          let limits = limits_of own.rules p.opening in
          let first = (split_first limits.minority (ballot_of own p.number p.opening (length blocks)) p.inner_votes
          blocks limits.quorum b said).1 in
          fits_one (records.Closed p.number (outcome.Split b) tick) (few b first.within) (omega arith)
      by_verdict (verdict.Loss b) said =
          let limits = limits_of own.rules p.opening in
          let first = (loss_first limits.minority (ballot_of own p.number p.opening (length blocks)) p.inner_votes
          blocks limits.quorum b said).1 in
          by_voter b (supplier own p b blocks) (few b first.within)

  nudge_fits : (p : Poll) → FitsBatch (nudge_in p).records
  unfolding nudge_in
  nudge_fits p = by_shut p.shut
    where
      by_request : (r : Option Request) → FitsBatch (asked_again p.number r).records
      by_request None = fits_nothing
      by_request (Some r) = fits_nothing

      by_shut : (b : Bool)
          → FitsBatch
          (cond {A = Reaction} (not b)
          (record { records = []; sends = map (letter (message.Poll p.number p.opening.au)) (silent_in p) })
          (asked_again p.number p.request)).records
      by_shut true = by_request p.request
      by_shut false = fits_nothing

  give_up_fits : (n : ℕ) (p : Poll) → poll_at n s.polls ≡ Some p → FitsBatch (give_up_in p).records
  unfolding give_up_in AsksSmall
  give_up_fits n p is =
      by_request p.request
      (subst (λ (o : Option Poll). Where o (λ p. Where p.request (λ r. r.block ≤ 511))) is
      (asks_small s n fit.sound))
    where
      by_request : (r : Option Request) → Where r (λ r. r.block ≤ 511) → FitsBatch (given_up p.number r).records
      by_request None small = fits_nothing
      by_request (Some r) small = fits_one (records.RepairBad p.number r.block r.voter) small (omega arith)

  noted_each : (tick : ℕ) (aus : List AuPlan) → AreNotes (length aus) (filter_map (overdue_of own s.copies tick) aus)
  noted_each tick [] =
      record { within = All-nil IsWithin; few = omega arith; short = omega arith; none = λ i n v hashes e. cc }
  noted_each tick (au ∷ aus) =
      first (must_note_copy own tick (copy_at au.id s.copies)) (filter_map (overdue_of own s.copies tick) aus)
      (noted_each tick aus)
    where
      behind : (rest : List Record)
          → ((i n v : ℕ) (hashes : List (List ℕ)) → slice_get rest i ≡ Some (records.VoteIn n v hashes) → ⊥)
          → (i n v : ℕ) (hashes : List (List ℕ))
          → slice_get (records.Overdue au.id tick ∷ rest) i ≡ Some (records.VoteIn n v hashes) → ⊥
      behind rest none zero n v hashes e = cc
      behind rest none (suc i) n v hashes e = none i n v hashes e

      first : (b : Bool) (rest : List Record) → AreNotes (length aus) rest
          → AreNotes (suc (length aus)) (cons_option (cond b (Some (records.Overdue au.id tick)) None) rest)
      first true rest are = record {
        within = All-cons IsWithin (records.Overdue au.id tick) rest tt are.within;
        few = omega (arith, are.few);
        short = omega (arith, are.short, sum_by-cons most_bytes (records.Overdue au.id tick) rest);
        none = behind rest are.none;
      }
      first false rest are =
          record {
            within = are.within;
            few = omega (arith, are.few);
            short = omega (arith, are.short);
            none = are.none;
          }

  check_fits : (tick : ℕ) → FitsBatch (check_in own s.copies tick).records
  unfolding check_in
  check_fits tick =
      let notes = noted_each tick own.aus in
      record {
        within = notes.within;
        few = omega (arith, notes.few, fit.aus);
        short = omega (arith, notes.short, fit.aus);
        alone = λ i n v hashes e. absurd (notes.none i n v hashes e);
      }

  challenge_fits : (from : ℕ) (agrees : Bool) (p : Poll) → FitsBatch (challenge_in own from agrees p).records
  unfolding challenge_in
  challenge_fits from agrees p = if_each _ _ fits_nothing

  nominate_fits : (from : ℕ) (nominees : List ℕ) (p : Poll) → length nominees ≤ 8
      → FitsBatch (nominate_in from nominees p).records
  unfolding nominate_in
  nominate_fits from nominees p few =
      if_each _ _ (fits_one (records.Nominated p.number from nominees) few (omega (arith, few)))

  vote_fits : (from : ℕ) (hashes : List (List ℕ)) (judged : Judged) (p : Poll) → length hashes ≤ 512
      → FitsBatch (vote_in_poll from hashes judged s.copies p).records
  unfolding vote_in_poll
  vote_fits from hashes judged p few =
      if_each _ _ (fits_one (records.VoteIn p.number from hashes) few (omega (arith, few)))

  repair_fits : (from b : ℕ) (bytes : List ℕ) (p : Poll) → b ≤ 511 → length bytes ≤ 16384
      → FitsBatch (repair_in own from b bytes s.copies p).records
  unfolding repair_in
  repair_fits from b bytes p below short =
      if_each (is_request b from p.request) _ (by_said (said_of own p b bytes (blocks_at p.opening.au s.copies)))
    where
      by_said : (t : Bool)
          → FitsBatch
          (cond {A = Reaction} t
          (record { records = records.Replaced p.number p.opening.au b bytes ∷ []; sends = [] })
          (record { records = records.RepairBad p.number b from ∷ []; sends = [] })).records
      by_said true = fits_one (records.Replaced p.number p.opening.au b bytes) (below, short) (omega (arith, short))
      by_said false = fits_one (records.RepairBad p.number b from) below (omega arith)

  -- ---- the rows of a voter

  cond_fits : (b : Bool) (x y : Reaction) → (b ≡ true → FitsBatch x.records) → (b ≡ false → FitsBatch y.records)
      → FitsBatch (cond b x y).records
  cond_fits true x y one other = one refl
  cond_fits false x y one other = other refl

  invitation_fits : (tick : ℕ) (q : PollName) (au : ℕ)
      → FitsBatch (invitation_in own s.voter s.copies s.numbers.repairs tick q au).records
  unfolding invitation_in
  invitation_fits tick q au =
      cond_fits (is_open q s.voter) (answers (challenge q true)) _ (λ runs. fits_nothing)
      (λ closed. cond_fits (may_join_in own s.voter s.copies tick q au)
      (joined_now own s.voter s.numbers.repairs tick q au) _ (λ may. fits_one _ fit.sound.repairs (omega arith))
      (λ may_not. fits_nothing))

  proof_fits : (q : PollName) (nonce : List ℕ) (kind : HashKind) (judged : Judged)
      → FitsBatch (proof_in own s.voter s.copies s.refs q nonce kind judged).records
  unfolding proof_in
  proof_fits q nonce kind judged =
      by_state (session_at q s.voter.sessions) (pinned_at q s.voter.pinned) (cast_at q s.voter.cast)
    where
      by_judged : (x : Session) (judged : Judged)
          → FitsBatch (commits own s.refs q (version_at x.joined.au s.copies) nonce kind judged).records
      by_judged x Accepted = fits_one _ tt (omega arith)
      by_judged x Refused = fits_one _ tt (omega arith)
      by_judged x NotAsked = fits_nothing

      by_state : (x : Option Session) (p : Option Pinned) (c : Option Cast)
          → FitsBatch (proof_at own s.copies s.refs q nonce kind judged x p c).records
      by_state (Some x) p c = by_judged x judged
      by_state None (Some p) c =
          cond_fits (repeats p.committed.commitment nonce kind) _ _ (λ same. fits_nothing) (λ other. fits_nothing)
      by_state None None (Some c) =
          cond_fits (repeats c.voted.committed.commitment nonce kind) _ _ (λ same. fits_nothing)
          (λ other. fits_nothing)
      by_state None None None = fits_nothing

  work_fits : (q : PollName) → FitsBatch (work_in own s.voter q).records
  unfolding work_in hashes_for vote_hashes
  work_fits q =
      by_state (pinned_at q s.voter.pinned)
      (any_where IsPinnedWell (is_pinned_of q) s.voter.pinned fit.sound.pinned)
    where
      by_state : (p : Option Pinned) → Where p IsPinnedWell → FitsBatch (work_at own q p).records
      by_state None well = fits_nothing
      by_state (Some p) well =
          let count = hashes_length (is_second p.committed.commitment.kind)
          (key_of (is_second p.committed.commitment.kind) p.committed.joined.poll.poller
          p.committed.joined.poll.number p.committed.commitment.nonce own.id p.committed.joined.au
          (length p.blocks)) p.blocks in
          fits_one _ (omega (arith, count, well.0.1)) (omega (arith, count, well.0.1))

  request_fits : (q : PollName) (b : ℕ) → b ≤ 511 → FitsBatch (request_in s.voter q b).records
  unfolding request_in
  request_fits q b below = by_state (cast_at q s.voter.cast)
    where
      by_answer : (bytes : List ℕ) (a : Serve) → FitsBatch (gives q b bytes a).records
      by_answer bytes First = fits_one _ below (omega arith)
      by_answer bytes Again = fits_nothing
      by_answer bytes Spent = fits_nothing

      by_block : (c : Cast) (o : Option (List ℕ)) → FitsBatch (serves q b c.repairs c.voted.served o).records
      by_block c None = fits_nothing
      by_block c (Some bytes) = by_answer bytes (answer_of c.voted.served b c.repairs)

      by_state : (o : Option Cast) → FitsBatch (request_at q b o).records
      by_state None = fits_nothing
      by_state (Some c) = by_block c (slice_get c.blocks b)

  end_fits : (q : PollName) → FitsBatch (end_in s.voter q).records
  unfolding end_in
  end_fits q = cond_fits (is_open q s.voter) _ _ (λ runs. fits_one _ tt (omega arith)) (λ closed. fits_nothing)

  tune_fits : (quorum minority repairs : ℕ) → FitsBatch (on_tune own quorum minority repairs).records
  unfolding on_tune may_tune
  tune_fits quorum minority repairs = cond_fits (may_tune own.rules quorum minority repairs) _ _ (λ may.
      let all = and_parts (leb 1 quorum && leb quorum own.rules.inner && obeys_quorum_rule quorum minority)
      (leb repairs 512) may in
      let three = and_parts (leb 1 quorum && leb quorum own.rules.inner) (obeys_quorum_rule quorum minority) all.0 in
      let two = and_parts (leb 1 quorum) (leb quorum own.rules.inner) three.0 in
      let low = leb-true quorum own.rules.inner two.1 in
      let few = fit.inner in
      fits_one _ ((leb-true 1 quorum two.0, omega (arith, low, few), three.1), leb-true repairs 512 all.1)
      (omega arith)) (λ may_not. fits_nothing)

  -- ---- all rows

  message_fits : (tick from : ℕ) (m : Message) (judged : Judged) → IsMessage m
      → FitsBatch (receive_in own s tick from m judged).records
  message_fits tick from (message.PollChallenge n agrees) judged heard =
      at_found (poll_at n s.polls) (challenge_in own from agrees) (λ p is. challenge_fits from agrees p)
  message_fits tick from (message.Nominate n nominees) judged heard =
      at_found (poll_at n s.polls) (nominate_in from nominees) (λ p is. nominate_fits from nominees p heard)
  message_fits tick from (message.Vote n hashes proof) judged heard =
      at_found (poll_at n s.polls) (vote_in_poll from hashes judged s.copies)
      (λ p is. vote_fits from hashes judged p heard.0)
  message_fits tick from (message.Repair n b bytes) judged heard =
      at_found (poll_at n s.polls) (repair_in own from b bytes s.copies)
      (λ p is. repair_fits from b bytes p heard.0 heard.1)
  message_fits tick from (message.Poll n au) judged heard = invitation_fits tick (poll_named from n) au
  message_fits tick from (message.PollProof n nonce kind proof) judged heard =
      proof_fits (poll_named from n) nonce kind judged
  message_fits tick from (message.RepairRequest n b) judged heard = request_fits (poll_named from n) b heard
  message_fits tick from (message.Receipt n) judged heard = end_fits (poll_named from n)

  -- what a peer in its limits adds at something heard is a short batch in its limits
  pub reaction_fits : (tick : ℕ) (i : Input) → IsHeard i → FitsBatch (react_on own s tick i).records
  unfolding react_on
  reaction_fits tick (input.OpenPoll au) heard = open_fits tick au
  reaction_fits tick (input.Widen n) heard = at_found (poll_at n s.polls) (widen_in own) (λ p is. widen_fits p)
  reaction_fits tick (input.Shut n) heard = at_found (poll_at n s.polls) (shut_in own tick) (λ p is. shut_fits tick p)
  reaction_fits tick (input.Tally n) heard =
      at_found (poll_at n s.polls) (tally_in own tick s.copies) (λ p is. tally_fits tick p)
  reaction_fits tick (input.Nudge n) heard = at_found (poll_at n s.polls) nudge_in (λ p is. nudge_fits p)
  reaction_fits tick (input.GiveUp n) heard = at_found (poll_at n s.polls) give_up_in (give_up_fits n)
  reaction_fits tick (input.Work q) heard = work_fits q
  reaction_fits tick (input.Expire q) heard = end_fits q
  reaction_fits tick input.Check heard = check_fits tick
  reaction_fits tick (input.Tune quorum minority repairs) heard = tune_fits quorum minority repairs
  reaction_fits tick (input.Got from m judged) heard = message_fits tick from m judged heard
