-- For how many blocks a peer's polls keep hashes, along its records.
use Rattle.std.proofs.Common.{◌≡◌, ◌∙◌, ◌<◌, ap, sym, subst, ℕ, Bool, true, false, cond, eqb, List, [], ◌∷◌, ◌++◌}
use Rattle.std.proofs.Common.{length, refl, arith}
use Rattle.std.specs.Prelude.{Option, Some, None, ◌==◌, find, map, min, option_map}
use Rattle.std.proofs.lemmas.Int.{clamps}
use Rattle.std.proofs.lemmas.List.{map_push}
use Rattle.lks_audit.proofs.Keeping.{kept_seen}
use Rattle.lks_audit.proofs.Sessions.{poll_seen}
use Rattle.lks_audit.specs.Kept.{Kept, kept_in, kept_of, kept_at, with_count, kept_changed, without_kept, kept_voted}
use Rattle.lks_audit.specs.Kept.{kept_before, kept_tallied, kept_by_tally}
use Rattle.lks_audit.specs.Seen.{poll_of, polls_of, forgetting}
use Rattle.lks_base.specs.Checking.{has_member}
use Rattle.lks_base.specs.declared.reactions.Input.{Input}
use Rattle.lks_base.specs.declared.reactions.Input.TheVariants as input
use Rattle.lks_base.specs.declared.reactions.Reaction.{Reaction}
use Rattle.lks_base.specs.declared.records.Record.{Record}
use Rattle.lks_base.specs.declared.records.Record.TheVariants.{Deposit, PollOpened, Nominated, OuterOpened, VoteIn}
use Rattle.lks_base.specs.declared.records.Record.TheVariants.{Shut, Asked, RepairBad, Replaced, Closed, Overdue}
use Rattle.lks_base.specs.declared.records.Record.TheVariants.{Joined, Committed, Voted, Served, Ended, Tuned}
use Rattle.lks_law.specs.Journal.{Opening}
use Rattle.lks_law.specs.Polls.{Station}
use Rattle.lks_law.specs.Reacting.{closed_as, for_poll, if_may, asked_for, supplier, tallied_as, tally_in, verdict_of}
use Rattle.lks_law.specs.Table.{react_on}
use Rattle.lks_law.specs.State.{Copy, Poll, State, after, after_all, request_sent, request_answered, begun_poll}
use Rattle.lks_law.specs.State.{blocks_at, changed_poll, nominated_by, poll_at, settled_opening, shut_now, voted_by}
use Rattle.lks_law.specs.State.{widened_to, without_poll}
use Rattle.lks_law.specs.Turning.{has_inner_of}
use Rattle.lks_peer.specs.declared.known.Known.{Known}
use Rattle.lks_peer.specs.Keeping.{nothing_kept, kept_after, kept_after_all, kept_deciding, Keeps, KeepsBlock}
use Rattle.lks_peer.specs.Knows.{state_of}
use Rattle.lks_poller.specs.Polling.{Polled}
use Rattle.lks_tally.specs.Keeping as keeping
use Rattle.lks_tally.specs.Keeping.{hashes_forgotten}
use Rattle.lks_tally.specs.declared.ballots.Verdict.{Verdict}
use Rattle.lks_tally.specs.declared.ballots.Verdict.TheVariants as verdict
use Rattle.lks_tally.specs.declared.ballots.Vote.{Vote}

-- where a block of an AU changed
pub kept_forgotten : (au b : ℕ) (ss : List Polled)
    → kept_of (map (forgetting au b) ss) ≡ map (kept_before au b) (kept_of ss)
kept_forgotten au b [] = refl
kept_forgotten au b (s ∷ ss) = λ i. by_au (eqb s.tally.ballot.au au) i ∷ kept_forgotten au b ss i
  where
    by_au : (t : Bool)
        → kept_in (cond t (record s { tally = hashes_forgotten b s.tally }) s)
        ≡ cond t (with_count (min b) (kept_in s)) (kept_in s)
    by_au true = refl
    by_au false = refl

-- a poll is opened behind the others
pub kept_opened : (n au : ℕ) (o : Opening) (before after : List Polled) (s : Polled) → after ≡ before ++ s ∷ []
    → poll_of s ≡ begun_poll n o → s.tally.ballot.au ≡ au → s.tally.kept ≡ 0
    → kept_of after ≡ kept_of before ++ record { number = n; au = au; count = 0 } ∷ []
kept_opened n au o before after s more seen at none =
    ap kept_of more ∙ map_push kept_in before s
    ∙ (λ i. kept_of before ++ record { number = (seen i).number; au = at i; count = none i } ∷ [])

-- where no poll runs
pub kept_none : (ss : List Polled) → polls_of ss ≡ [] → kept_of ss ≡ []
kept_none [] none = refl
kept_none (s ∷ ss) none = absurd cc

-- Polls that keep nothing keep nothing after any record.

abbrev zero_of : Poll → Kept
zero_of p = record { number = p.number; au = p.opening.au; count = 0 }

same_polls : (n : ℕ) (f : Poll → Poll) (ps : List Poll) → ((p : Poll) → zero_of (f p) ≡ zero_of p)
    → nothing_kept (changed_poll n f ps) ≡ nothing_kept ps
same_polls n f [] same = refl
same_polls n f (p ∷ ps) same = by_test (eqb p.number n) (same_polls n f ps same)
  where
    by_test : (b : Bool) → nothing_kept (changed_poll n f ps) ≡ nothing_kept ps
        → nothing_kept (cond b (f p ∷ ps) (p ∷ changed_poll n f ps)) ≡ zero_of p ∷ nothing_kept ps
    by_test true rest = ap (λ k. k ∷ nothing_kept ps) (same p)
    by_test false rest = ap (λ ks. zero_of p ∷ ks) rest

fewer_polls : (n : ℕ) (ps : List Poll) → without_kept n (nothing_kept ps) ≡ nothing_kept (without_poll n ps)
fewer_polls n [] = refl
fewer_polls n (p ∷ ps) = by_test (eqb p.number n) (fewer_polls n ps)
  where
    by_test : (b : Bool) → without_kept n (nothing_kept ps) ≡ nothing_kept (without_poll n ps)
        → cond b (nothing_kept ps) (zero_of p ∷ without_kept n (nothing_kept ps))
        ≡ nothing_kept (cond b ps (p ∷ without_poll n ps))
    by_test true rest = refl
    by_test false rest = ap (λ ks. zero_of p ∷ ks) rest

still_zero : (n : ℕ) (ps : List Poll) → kept_changed n (λ count. 0) (nothing_kept ps) ≡ nothing_kept ps
still_zero n [] = refl
still_zero n (p ∷ ps) = by_test (eqb p.number n) (still_zero n ps)
  where
    by_test : (b : Bool) → kept_changed n (λ count. 0) (nothing_kept ps) ≡ nothing_kept ps
        → cond b (zero_of p ∷ nothing_kept ps) (zero_of p ∷ kept_changed n (λ count. 0) (nothing_kept ps))
        ≡ zero_of p ∷ nothing_kept ps
    by_test true rest = refl
    by_test false rest = ap (λ ks. zero_of p ∷ ks) rest

voted_zero : (n : ℕ) (inner : Bool) (ps : List Poll) → kept_voted n inner (nothing_kept ps) ≡ nothing_kept ps
voted_zero n true ps = still_zero n ps
voted_zero n false ps = refl

least : (b : ℕ) → min b 0 ≡ 0
least b = omega (arith, clamps)

replaced_zero : (au b : ℕ) (ps : List Poll) → map (kept_before au b) (nothing_kept ps) ≡ nothing_kept ps
replaced_zero au b [] = refl
replaced_zero au b (p ∷ ps) = λ i. by_au (eqb p.opening.au au) i ∷ replaced_zero au b ps i
  where
    by_au : (t : Bool) → cond t (with_count (min b) (zero_of p)) (zero_of p) ≡ zero_of p
    by_au true = ap (λ count. record (zero_of p) { count = count }) (least b)
    by_au false = refl

voted_same : (v : Vote) (p : Poll) → zero_of (voted_by v p) ≡ zero_of p
voted_same v p = by_circle (has_member p.opening.inner v.voter)
  where
    by_circle : (b : Bool)
        → zero_of
        (cond b (record p { inner_votes = p.inner_votes ++ v ∷ []; voters = p.voters ++ v.voter ∷ [] })
        (record p { outer_votes = p.outer_votes ++ v ∷ []; voters = p.voters ++ v.voter ∷ [] }))
        ≡ zero_of p
    by_circle true = refl
    by_circle false = refl

nothing_after : (own : Station) (s : State) (r : Record)
    → kept_after s.polls r (nothing_kept s.polls) ≡ nothing_kept (after own s r).polls
unfolding after
nothing_after own s (Deposit au blocks) = refl
nothing_after own s (PollOpened number au nonce inner tick limits kind) =
    sym
    (map_push zero_of s.polls
    (begun_poll number
    (settled_opening own.rules
    (record { au = au; nonce = nonce; inner = inner; limits = limits; kind = kind }))))
nothing_after own s (Nominated number voter nominees) =
    sym (same_polls number (nominated_by voter nominees) s.polls (λ p. refl))
nothing_after own s (OuterOpened number outer) = sym (same_polls number (widened_to outer) s.polls (λ p. refl))
nothing_after own s (VoteIn number voter hashes) =
    voted_zero number (has_inner_of (poll_at number s.polls) voter) s.polls
    ∙ sym
    (same_polls number (voted_by (record { voter = voter; hashes = hashes })) s.polls
    (voted_same (record { voter = voter; hashes = hashes })))
nothing_after own s (Shut number) = sym (same_polls number shut_now s.polls (λ p. refl))
nothing_after own s (Asked number block voter) =
    sym (same_polls number (request_sent (record { block = block; voter = voter })) s.polls (λ p. refl))
nothing_after own s (RepairBad number block voter) = sym (same_polls number request_answered s.polls (λ p. refl))
nothing_after own s (Replaced number au block bytes) =
    replaced_zero au block s.polls ∙ sym (same_polls number request_answered s.polls (λ p. refl))
nothing_after own s (Closed number outcome tick) = fewer_polls number s.polls
nothing_after own s (Overdue au tick) = refl
nothing_after own s (Joined poll au tick low repairs) = refl
nothing_after own s (Committed poll nonce version kind) = refl
nothing_after own s (Voted poll hashes) = refl
nothing_after own s (Served poll block) = refl
nothing_after own s (Ended poll) = refl
nothing_after own s (Tuned quorum minority repairs) = refl

pub nothing_after_all : (own : Station) (s : State) (rs : List Record)
    → kept_after_all own s rs (nothing_kept s.polls) ≡ nothing_kept (after_all own s rs).polls
nothing_after_all own s [] = refl
nothing_after_all own s (r ∷ rs) =
    ap (kept_after_all own (after own s r) rs) (nothing_after own s r) ∙ nothing_after_all own (after own s r) rs

-- A tally that asks for a block keeps its hashes.

at_changed : (n : ℕ) (f : ℕ → ℕ) (ks : List Kept) → kept_at n (kept_changed n f ks) ≡ option_map f (kept_at n ks)
at_changed n f [] = refl
at_changed n f (k ∷ ks) = by_test (eqb k.number n) refl (at_changed n f ks)
  where
    by_test : (b : Bool) → eqb k.number n ≡ b → kept_at n (kept_changed n f ks) ≡ option_map f (kept_at n ks)
        → kept_at n (cond b (with_count f k ∷ ks) (k ∷ kept_changed n f ks))
        ≡ option_map f
        (option_map (λ (x : Kept). x.count) (cond b (Some k) (find (λ (x : Kept). x.number == n) ks)))
    by_test true is rest =
        ap
        (λ b. option_map (λ (x : Kept). x.count)
        (cond b (Some (with_count f k)) (find (λ (x : Kept). x.number == n) ks))) is
    by_test false is rest =
        ap
        (λ b. option_map (λ (x : Kept). x.count)
        (cond b (Some k) (find (λ (x : Kept). x.number == n) (kept_changed n f ks)))) is
        ∙ rest

counted : (n : ℕ) (ss : List Polled) (p : Poll) → poll_at n (polls_of ss) ≡ Some p
    → (count : ℕ) × (kept_at n (kept_of ss) ≡ Some count)
counted n ss p runs = by_found (find (λ (s : Polled). s.tally.ballot.poll.number == n) ss) refl
  where
    by_found : (o : Option Polled) → find (λ (s : Polled). s.tally.ballot.poll.number == n) ss ≡ o
        → (count : ℕ) × (kept_at n (kept_of ss) ≡ Some count)
    by_found None e = let none : poll_at n (polls_of ss) ≡ None = poll_seen n ss None (sym e) in absurd cc
    by_found (Some s) e = (s.tally.kept, kept_seen n ss (Some s) (sym e))

module _ (own : Station) (tick : ℕ) (p : Poll) (blocks : List (List ℕ)) where
  asks_at : (m b voter : ℕ) (t : Bool) (v : Verdict)
      → (if_may t (tallied_as own p tick blocks v)).records ≡ Asked m b voter ∷ [] → (count : ℕ)
      → b < cond t (keeping.kept_after v count (length blocks)) count
  unfolding closed_as
  asks_at m b voter false v only count = absurd cc
  asks_at m b voter true verdict.Inquorate only count = absurd cc
  asks_at m b voter true verdict.Agreed only count = absurd cc
  asks_at m b voter true (verdict.Split c) only count = absurd cc
  asks_at m b voter true (verdict.Loss c) only count = by_supplier (supplier own p c blocks) only
    where
      by_supplier : (o : Option ℕ) → (asked_for p tick c o).records ≡ Asked m b voter ∷ []
          → b < keeping.kept_after (verdict.Loss c) count (length blocks)
      by_supplier None only = absurd cc
      by_supplier (Some v) only = let same : c ≡ b = cc in omega (arith, clamps, same)

  -- one that adds nothing counts nothing
  idle_at : (t : Bool) (v : Verdict) → (if_may t (tallied_as own p tick blocks v)).records ≡ [] → (count : ℕ)
      → cond t (keeping.kept_after v count (length blocks)) count ≡ count
  unfolding closed_as
  idle_at false v none count = refl
  idle_at true verdict.Inquorate none count = refl
  idle_at true verdict.Agreed none count = absurd cc
  idle_at true (verdict.Split c) none count = absurd cc
  idle_at true (verdict.Loss c) none count = by_supplier (supplier own p c blocks) none
    where
      by_supplier : (o : Option ℕ) → (asked_for p tick c o).records ≡ []
          → keeping.kept_after (verdict.Loss c) count (length blocks) ≡ count
      by_supplier None none = absurd cc
      by_supplier (Some v) none = absurd cc

same_counts : (n : ℕ) (f : ℕ → ℕ) (ks : List Kept) → ((count : ℕ) → f count ≡ count) → kept_changed n f ks ≡ ks
same_counts n f [] same = refl
same_counts n f (k ∷ ks) same = by_test (eqb k.number n) (same_counts n f ks same)
  where
    by_test : (b : Bool) → kept_changed n f ks ≡ ks → cond b (with_count f k ∷ ks) (k ∷ kept_changed n f ks) ≡ k ∷ ks
    by_test true rest = ap (λ count. record k { count = count } ∷ ks) (same k.count)
    by_test false rest = ap (λ ks. k ∷ ks) rest

module _ (own : Station) (tick n : ℕ) (copies : List Copy) (ss : List Polled) where
  asks_block : (m b voter : ℕ)
      → (for_poll (poll_at n (polls_of ss)) (tally_in own tick copies)).records ≡ Asked m b voter ∷ []
      → KeepsBlock n b (kept_by_tally own copies n (poll_at n (polls_of ss)) (kept_of ss))
  unfolding tally_in
  asks_block m b voter = by_poll (poll_at n (polls_of ss)) refl
    where
      by_poll : (o : Option Poll) → poll_at n (polls_of ss) ≡ o
          → (for_poll o (tally_in own tick copies)).records ≡ Asked m b voter ∷ []
          → KeepsBlock n b (kept_by_tally own copies n o (kept_of ss))
      by_poll None is only = absurd cc
      by_poll (Some p) is only =
          let had = counted n ss p is in
          let blocks = blocks_at p.opening.au copies in (
            kept_tallied own copies p had.0,
            at_changed n (kept_tallied own copies p) (kept_of ss) ∙ ap (option_map (kept_tallied own copies p)) had.1,
            asks_at own tick p blocks m b voter _ (verdict_of own p blocks) only had.0,
          )

  counts_nothing : (for_poll (poll_at n (polls_of ss)) (tally_in own tick copies)).records ≡ []
      → kept_by_tally own copies n (poll_at n (polls_of ss)) (kept_of ss) ≡ kept_of ss
  unfolding tally_in
  counts_nothing = by_poll (poll_at n (polls_of ss))
    where
      by_poll : (o : Option Poll) → (for_poll o (tally_in own tick copies)).records ≡ []
          → kept_by_tally own copies n o (kept_of ss) ≡ kept_of ss
      by_poll None none = refl
      by_poll (Some p) none =
          let blocks = blocks_at p.opening.au copies in
          same_counts n (kept_tallied own copies p) (kept_of ss)
          (idle_at own tick p blocks _ (verdict_of own p blocks) none)

-- a step from what a peer knows
pub keeps_step : (own : Station) (k : Known) (tick : ℕ) (i : Input) (r : Reaction) (new : List Kept)
    → r ≡ react_on own (state_of k) tick i
    → new ≡ kept_after_all own (state_of k) r.records (kept_deciding own (state_of k) i (kept_of k.polls))
    → Keeps own (state_of k) i r.records (kept_of k.polls) new
unfolding react_on
keeps_step own k tick i r new is after =
    let s = state_of k in
    let records : (n : ℕ) → i ≡ input.Tally n
    → r.records
    ≡ (for_poll (poll_at n s.polls) (tally_in own tick s.copies)).records = λ n at. ap
    (λ (x : Reaction). x.records) (is ∙ ap (react_on own s tick) at) in
    record {
      after = after;
      asked = λ n m b voter at only.
          let counts : new
          ≡ kept_by_tally own s.copies n (poll_at n s.polls) (kept_of k.polls) = after
          ∙ (λ j. kept_after_all own s (only j) (kept_deciding own s (at j) (kept_of k.polls))) in
          subst (KeepsBlock n b) (sym counts)
          (asks_block own tick n s.copies k.polls m b voter (sym (records n at) ∙ only));
      idle = λ n at none.
          after ∙ (λ j. kept_after_all own s (none j) (kept_deciding own s (at j) (kept_of k.polls)))
          ∙ counts_nothing own tick n s.copies k.polls (sym (records n at) ∙ none);
    }
