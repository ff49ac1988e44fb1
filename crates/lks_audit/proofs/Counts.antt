-- The rules of a poll over what is kept of it.
use Rattle.std.proofs.Common.{◌≡◌, ◌≤◌, ◌-◌, ◌∙◌, ap, sym, subst, ℕ, Bool, true, false, cond, List, [], ◌∷◌, length}
use Rattle.std.proofs.Common.{refl, arith}
use Rattle.std.specs.Prelude.{Option, Some, None, is_some, slice_set}
use Rattle.std.proofs.lemmas.List.{length-set}
use Rattle.lks_base.specs.declared.limits.TheConstants.{MOST_BLOCKS}
use Rattle.lks_law.specs.Polls.{Station, ballot_of, is_win}
use Rattle.lks_law.specs.Reacting.{if_may, verdict_of, supplier, asked_for, tallied_as, repair_over, said_of}
use Rattle.lks_law.specs.Reaction.{is_request}
use Rattle.lks_base.specs.declared.names.Limits.{Limits}
use Rattle.lks_base.specs.declared.records.Record.TheVariants as records
use Rattle.lks_law.specs.State.{Poll, leavers, comers}
use Rattle.lks_tally.specs.declared.ballots.Vote.{Vote}
use Rattle.lks_audit.specs.Counted.{IsCountedOn, IsDecided, IsSmall, done, answered_by}
use Rattle.lks_audit.specs.Seen.{poll_of}
use Rattle.lks_poller.specs.Polling as polling
use Rattle.lks_poller.specs.Polling.{Polled}
use Rattle.lks_poller.specs.Rules.{outer_for, candidate, next_of, AsksWithin, said_on_block, judgment, answer_of}
use Rattle.lks_poller.specs.declared.stages.Answer.{Answer}
use Rattle.lks_poller.specs.declared.stages.Answer.TheVariants.{NotAsked}
use Rattle.lks_poller.specs.declared.stages.Next.{Next}
use Rattle.lks_poller.specs.declared.stages.Next.TheVariants.{Close, Ask}
use Rattle.lks_choice.specs.Asking.{Asked, awaited_request}
use Rattle.lks_tally.specs.Counting.{verdict_on, verdict_at, voters_for, voters_against}
use Rattle.lks_tally.specs.Keeping.{IsCacheOf, IsSame}
use Rattle.lks_tally.specs.Running.{first_unasked, supplied_by}
use Rattle.lks_tally.specs.declared.ballots.At.{At}
use Rattle.lks_tally.specs.declared.ballots.At.TheVariants as at
use Rattle.lks_tally.specs.declared.ballots.Ballot.{Ballot}
use Rattle.lks_tally.specs.declared.ballots.Verdict.{Verdict}
use Rattle.lks_tally.specs.declared.ballots.Verdict.TheVariants as verdict

module _ (own : Station) (blocks : List (List ℕ)) (s : Polled) (on : IsCountedOn own.id blocks s) where
  ballot_is : ballot_of own (poll_of s).number (poll_of s).opening (length blocks) ≡ s.tally.ballot
  ballot_is = λ i. record {
    poll = record { poller = sym on.poller i; number = s.tally.ballot.poll.number };
    au = s.tally.ballot.au;
    kind = s.tally.ballot.kind;
    nonce = s.tally.ballot.nonce;
    count = sym on.count i;
  }

  pub verdict_is : verdict_of own (poll_of s) blocks
      ≡ verdict_on s.tally.limits.quorum s.tally.limits.minority s.tally.ballot s.tally.votes blocks
  unfolding verdict_of
  verdict_is = ap (λ q. verdict_on s.tally.limits.quorum s.tally.limits.minority q s.tally.votes blocks) ballot_is

  supplier_is : (b : ℕ) → supplier own (poll_of s) b blocks ≡ candidate s blocks b
  unfolding supplier
  supplier_is b = λ i. first_unasked (poll_of s) b (voters_against (ballot_is i) s.tally.votes blocks b)

  pub tallied_seen : (tick : ℕ) (v : Verdict) (next : Next) → IsDecided v → next ≡ next_of s v blocks
      → tallied_as own (poll_of s) tick blocks v ≡ done (poll_of s) tick next
  tallied_seen tick v next decided is = by_verdict v decided ∙ ap (done (poll_of s) tick) (sym is)
    where
      by_voter : (b : ℕ) (o : Option ℕ)
          → asked_for (poll_of s) tick b o ≡ done (poll_of s) tick (supplied_by Close Ask b o)
      by_voter b None = refl
      by_voter b (Some v) = refl

      by_verdict : (v : Verdict) → IsDecided v
          → tallied_as own (poll_of s) tick blocks v ≡ done (poll_of s) tick (next_of s v blocks)
      by_verdict verdict.Inquorate decided = absurd decided
      by_verdict verdict.Agreed decided = refl
      by_verdict (verdict.Split b) decided = refl
      by_verdict (verdict.Loss b) decided =
          ap (asked_for (poll_of s) tick b) (supplier_is b) ∙ by_voter b (candidate s blocks b)

  said_is : (b : ℕ) (bytes : List ℕ) → said_of own (poll_of s) b bytes blocks ≡ is_win (said_on_block s b bytes blocks)
  unfolding said_of
  said_is b bytes =
      ap
      (λ n. is_win
      (verdict_at s.tally.limits.minority (ballot_of own (poll_of s).number (poll_of s).opening n)
      s.tally.votes (slice_set blocks b bytes) b)) (length-set blocks b bytes)
      ∙ ap (λ q. is_win (verdict_at s.tally.limits.minority q s.tally.votes (slice_set blocks b bytes) b)) ballot_is

  repair_is : (from b : ℕ) (bytes : List ℕ)
      → repair_over own from b bytes blocks (poll_of s)
      ≡ answered_by (poll_of s) from b bytes (answer_of s from b bytes blocks)
  repair_is from b bytes =
      (λ i. if_may (is_request b from (poll_of s).request) (cond (said_is b bytes i)
      (record { records = records.Replaced (poll_of s).number (poll_of s).opening.au b bytes ∷ []; sends = [] })
      (record { records = records.RepairBad (poll_of s).number b from ∷ []; sends = [] })))
      ∙ by_answer (is_request b from (poll_of s).request) (said_on_block s b bytes blocks)
    where
      by_answer : (t : Bool) (said : At) → if_may t (cond (is_win said)
          (record { records = records.Replaced (poll_of s).number (poll_of s).opening.au b bytes ∷ []; sends = [] })
          (record { records = records.RepairBad (poll_of s).number b from ∷ []; sends = [] }))
          ≡ answered_by (poll_of s) from b bytes (cond t (judgment said) NotAsked)
      by_answer true at.Win = refl
      by_answer true at.Loss = refl
      by_answer true at.Split = refl
      by_answer false said = refl

  pub repair_seen : (from b : ℕ) (bytes : List ℕ) (answer : Answer) → answer ≡ answer_of s from b bytes blocks
      → repair_over own from b bytes blocks (poll_of s) ≡ answered_by (poll_of s) from b bytes answer
  repair_seen from b bytes answer is = repair_is from b bytes ∙ ap (answered_by (poll_of s) from b bytes) (sym is)

  pub verdict_seen : (v : Verdict)
      → v ≡ verdict_on s.tally.limits.quorum s.tally.limits.minority s.tally.ballot s.tally.votes blocks
      → v ≡ verdict_of own (poll_of s) blocks
  verdict_seen v is = is ∙ sym verdict_is

-- a verdict changes the hashes that are kept alone
pub counted_still : (id : ℕ) (blocks : List (List ℕ)) (old new : Polled) → new ≡ record old { tally = new.tally }
    → IsSame new.tally old.tally → IsCacheOf new.tally blocks
    → IsCountedOn id blocks old → IsCountedOn id blocks new
counted_still id blocks old new is same cache on = record {
  poller = ap (λ (q : Ballot). q.poll.poller) same.0 ∙ on.poller;
  count = ap (λ (q : Ballot). q.count) same.0 ∙ on.count;
  cache = cache;
  some = on.some;
  waits =
      subst (λ (q : Asked). q.waiting ≡ true → is_some (awaited_request q) ≡ true)
      (sym (ap (λ (s : Polled). s.suppliers) is)) on.waits;
  running = ap (λ (s : Polled). s.closed) is ∙ on.running;
}

pub poll_still : (old new : Polled) → new ≡ record old { tally = new.tally } → IsSame new.tally old.tally
    → poll_of new ≡ poll_of old
poll_still old new is same = ap poll_of is ∙ (λ i. poll_with (same.0 i) (same.1 i) (same.2 i))
  where
    poll_with : Ballot → Limits → List Vote → Poll
    poll_with q limits votes =
        poll_of (record old { tally = record old.tally { ballot = q; limits = limits; votes = votes } })

pub small_next : (count : ℕ) (next : Next) → AsksWithin count next → count ≤ MOST_BLOCKS → IsSmall next
small_next count (Close outcome) within few = tt
small_next count (Ask b voter) within few = omega (arith, within, few)

-- a poll that begins keeps no hashes
pub counted_begun : (id : ℕ) (blocks : List (List ℕ)) (q : Ballot) (limits : Limits) (inner : List ℕ)
    (room vote_room : ℕ) (s : Polled)
    → s ≡ polling.begun_session q limits inner room vote_room → q.poll.poller ≡ id → q.count ≡ length blocks
    → 1 ≤ q.count → IsCountedOn id blocks s
counted_begun id blocks q limits inner room vote_room s is poller count some =
    subst (IsCountedOn id blocks) (sym is) (record {
      poller = poller;
      count = count;
      cache = refl;
      some = subst (λ n. 1 ≤ n) count some;
      waits = λ e. absurd cc;
      running = refl;
    })

module _ (own : Station) (blocks : List (List ℕ)) (s : Polled) (on : IsCountedOn own.id blocks s) where
  pub leavers_seen : (ids : List ℕ) (last : ℕ) → last ≡ s.tally.ballot.count - 1
      → ids ≡ voters_against s.tally.ballot s.tally.votes blocks last → ids ≡ leavers own (poll_of s) blocks
  leavers_seen ids last at is =
      is ∙ ap (voters_against s.tally.ballot s.tally.votes blocks) (at ∙ ap (λ n. n - 1) on.count)
      ∙ ap (λ q. voters_against q s.tally.votes blocks (length blocks - 1)) (sym (ballot_is own blocks s on))

  pub comers_seen : (ids : List ℕ) → ids ≡ outer_for s blocks → ids ≡ comers own (poll_of s) blocks
  comers_seen ids is =
      is ∙ ap (λ n. voters_for s.tally.ballot s.outer_votes blocks (n - 1)) on.count
      ∙ ap (λ q. voters_for q s.outer_votes blocks (length blocks - 1)) (sym (ballot_is own blocks s on))
