-- What a peer knows stays tied together.
use Rattle.std.proofs.Common.{◌≡◌, ◌∙◌, ap, sym, subst, ℕ, Bool, true, false, cond, eqb, List, [], ◌∷◌, ◌++◌, refl}
use Rattle.std.proofs.Common.{length, get_or, arith, ◌≤◌, ◌<◌}
use Rattle.std.specs.Prelude.{Option, Some, None, is_some, ◌==◌, option_map, All, map, slice_set, Result, Ok, Err}
use Rattle.std.specs.Prelude.{OnErr}
use Rattle.std.specs.List.{position}
use Rattle.lks_base.specs.Checking.{has_member}
use Rattle.lks_base.specs.declared.names.Outcome.TheVariants as outcome
use Rattle.lks_base.specs.declared.records.Record.TheVariants as record_of
use Rattle.lks_law.specs.Fitting.{Where, Fits}
use Rattle.lks_law.specs.Polls.{Station}
use Rattle.lks_audit.proofs.Changing as changing
use Rattle.lks_audit.proofs.Running.{at_place}
use Rattle.lks_choice.specs.Asking.{Asked, awaited_request}
use Rattle.std.proofs.lemmas.Bool.{both_ways, eqb-true}
use Rattle.std.proofs.lemmas.List.{length-set, take-set-le}
use Rattle.std.proofs.lemmas.List.Elements.{All-nil, All-cons, All-head, All-tail, All-weaker, All-push}
use Rattle.lks_law.specs.State.{Poll, Copy, poll_at, copy_at, blocks_in, blocks_at, copy_changed, agreed_on}
use Rattle.lks_law.specs.State.{opened_at, agreed_at, noted_overdue, replaced_in}
use Rattle.lks_audit.specs.declared.copies.Held.{Held}
use Rattle.lks_peer.specs.declared.known.Known.{Known}
use Rattle.lks_audit.specs.Copied.{copies_of, IsOf, MayReplace}
use Rattle.lks_audit.specs.Counted.{IsCountedOn}
use Rattle.lks_blocks.specs.Block.{Block, AllOf}
use Rattle.lks_law.specs.State.{State}
use Rattle.lks_peer.specs.Knows.{state_of, IsSameButMarks, IsTied, StaysTied}
use Rattle.lks_sessions.specs.Kept as sessions
use Rattle.lks_audit.specs.Seen.{request_of, poll_of, polls_of, MayVote, MayAsk, AreAgreed, IsOn, RunsOn, RunOver}
use Rattle.lks_audit.specs.Seen.{forgetting}
use Rattle.lks_poller.specs.Polling.{Polled}
use Rattle.lks_tally.proofs.Caching.{cache_forgotten}
use Rattle.lks_tally.specs.Keeping.{hashes_forgotten}

-- where the polls alone changed
pub tied_polls : (old new : Known) → new.copies ≡ old.copies → new.references ≡ old.references
    → new.sessions ≡ old.sessions → RunsOn old.polls new.polls → StaysTied old new
unfolding StaysTied RunsOn
tied_polls old new copies references pins runs id pool tied = record {
  of = subst (λ cs. All (IsOf pool) cs) (sym copies) tied.of;
  on = subst (λ cs. All (IsOn id (copies_of cs)) new.polls) (sym copies) (runs id (copies_of old.copies) tied.on);
  owner = ap (λ r. r.own) references ∙ tied.owner;
  pins = subst (sessions.IsOf pool) (sym pins) tied.pins;
}

-- where the polls and marks alone changed
pub tied_voted : (old new : Known) → new.copies ≡ old.copies → new.references ≡ old.references
    → sessions.StaysOf old.sessions new.sessions → RunsOn old.polls new.polls → StaysTied old new
unfolding StaysTied RunsOn sessions.StaysOf
tied_voted old new copies references pins runs id pool tied = record {
  of = subst (λ cs. All (IsOf pool) cs) (sym copies) tied.of;
  on = subst (λ cs. All (IsOn id (copies_of cs)) new.polls) (sym copies) (runs id (copies_of old.copies) tied.on);
  owner = ap (λ r. r.own) references ∙ tied.owner;
  pins = pins pool tied.pins;
}

-- where the sessions alone changed
pub tied_sessions : (old new : Known) → new.copies ≡ old.copies → new.polls ≡ old.polls
    → new.references ≡ old.references → sessions.StaysOf old.sessions new.sessions → StaysTied old new
unfolding StaysTied sessions.StaysOf
tied_sessions old new copies polls references pins id pool tied = record {
  of = subst (λ cs. All (IsOf pool) cs) (sym copies) tied.of;
  on =
      subst (λ cs. All (IsOn id (copies_of cs)) new.polls) (sym copies)
      (subst (λ ps. All (IsOn id (copies_of old.copies)) ps) (sym polls) tied.on);
  owner = ap (λ r. r.own) references ∙ tied.owner;
  pins = pins pool tied.pins;
}

-- and a version of a copy is pinned
pub tied_pinned : (old new : Known) (refs : List Block) → new.copies ≡ old.copies → new.polls ≡ old.polls
    → new.references ≡ old.references
    → ((pool : List ℕ) → All (IsOf pool) old.copies → AllOf pool refs)
    → ((pool : List ℕ) → AllOf pool refs → sessions.IsOf pool old.sessions → sessions.IsOf pool new.sessions)
    → StaysTied old new
unfolding StaysTied
tied_pinned old new refs copies polls references held pins id pool tied = record {
  of = subst (λ cs. All (IsOf pool) cs) (sym copies) tied.of;
  on =
      subst (λ cs. All (IsOn id (copies_of cs)) new.polls) (sym copies)
      (subst (λ ps. All (IsOn id (copies_of old.copies)) ps) (sym polls) tied.on);
  owner = ap (λ r. r.own) references ∙ tied.owner;
  pins = pins pool (held pool tied.of) tied.pins;
}

pub tied_still : (k : Known) → StaysTied k k
unfolding StaysTied
tied_still k id pool tied = tied

-- where the copies alone changed
pub tied_copies : (id : ℕ) (pool : List ℕ) (old new : Known) → new.polls ≡ old.polls
    → new.references ≡ old.references → new.sessions ≡ old.sessions → IsTied id pool old
    → All (IsOf pool) new.copies → All (IsOn id (copies_of new.copies)) old.polls → IsTied id pool new
tied_copies id pool old new polls references pins tied of on = record {
  of = of;
  on = subst (λ ps. All (IsOn id (copies_of new.copies)) ps) (sym polls) on;
  owner = ap (λ r. r.own) references ∙ tied.owner;
  pins = subst (sessions.IsOf pool) (sym pins) tied.pins;
}

-- Blocks that stay.

same_blocks : (au a : ℕ) (f : Copy → Copy) (cs : List Copy) → ((c : Copy) → (f c).au ≡ c.au)
    → ((c : Copy) → (f c).blocks ≡ c.blocks)
    → blocks_at au (copy_changed a f cs) ≡ blocks_at au cs
same_blocks au a f [] same stay = refl
same_blocks au a f (c ∷ cs) same stay = here (eqb c.au a) (eqb c.au au) refl (same_blocks au a f cs same stay)
  where
    here : (b d : Bool) → eqb c.au au ≡ d → blocks_at au (copy_changed a f cs) ≡ blocks_at au cs
        → blocks_at au (cond b (f c ∷ cs) (c ∷ copy_changed a f cs)) ≡ blocks_in (cond d (Some c) (copy_at au cs))
    here true true e rest =
        ap (λ k. blocks_in (cond (eqb k au) (Some (f c)) (copy_at au cs))) (same c)
        ∙ ap (λ t. blocks_in (cond t (Some (f c)) (copy_at au cs))) e ∙ stay c
    here true false e rest =
        ap (λ k. blocks_in (cond (eqb k au) (Some (f c)) (copy_at au cs))) (same c)
        ∙ ap (λ t. blocks_in (cond t (Some (f c)) (copy_at au cs))) e
    here false true e rest = ap (λ t. blocks_in (cond t (Some c) (copy_at au (copy_changed a f cs)))) e
    here false false e rest = ap (λ t. blocks_in (cond t (Some c) (copy_at au (copy_changed a f cs)))) e ∙ rest

-- each poll runs over copies that have the same blocks
on_same : (id : ℕ) (old new : List Copy) (ss : List Polled) → ((au : ℕ) → blocks_at au new ≡ blocks_at au old)
    → All (IsOn id old) ss → All (IsOn id new) ss
on_same id old new ss same all =
    All-weaker (IsOn id old) (IsOn id new)
    (λ s on. subst (λ blocks. IsCountedOn id blocks s) (sym (same s.tally.ballot.au)) on) ss all

still : (id a : ℕ) (f : Copy → Copy) (old new : List Copy) (ss : List Polled) → new ≡ copy_changed a f old
    → ((c : Copy) → (f c).au ≡ c.au) → ((c : Copy) → (f c).blocks ≡ c.blocks)
    → All (IsOn id old) ss → All (IsOn id new) ss
still id a f old new ss is same stay =
    on_same id old new ss (λ au. ap (blocks_at au) is ∙ same_blocks au a f old same stay)

pub still_noted : (id au : ℕ) (old new : List Copy) (ss : List Polled) → new ≡ copy_changed au noted_overdue old
    → All (IsOn id old) ss → All (IsOn id new) ss
still_noted id au old new ss is = still id au noted_overdue old new ss is (λ c. refl) (λ c. refl)

pub still_opened : (id au tick : ℕ) (old new : List Copy) (ss : List Polled)
    → new ≡ copy_changed au (opened_at tick) old → All (IsOn id old) ss → All (IsOn id new) ss
still_opened id au tick old new ss is = still id au (opened_at tick) old new ss is (λ c. refl) (λ c. refl)

pub still_agreed : (id au tick : ℕ) (old new : List Copy) (ss : List Polled)
    → new ≡ copy_changed au (agreed_at tick) old → All (IsOn id old) ss → All (IsOn id new) ss
still_agreed id au tick old new ss is = still id au (agreed_at tick) old new ss is (λ c. refl) (λ c. refl)

-- where no poll runs
pub no_polls : (id : ℕ) (copies : List Copy) (ss : List Polled) → polls_of ss ≡ [] → All (IsOn id copies) ss
no_polls id copies [] none = All-nil (IsOn id copies)
no_polls id copies (s ∷ ss) none = absurd cc

-- where an AU is noted, opened, or agreed
module _ (old new : Known) (polls : new.polls ≡ old.polls) (references : new.references ≡ old.references)
    (pins : new.sessions ≡ old.sessions)
    (of : (pool : List ℕ) → All (IsOf pool) old.copies → All (IsOf pool) new.copies) where
  pub tied_noted : (au : ℕ) → copies_of new.copies ≡ copy_changed au noted_overdue (copies_of old.copies)
      → StaysTied old new
  unfolding StaysTied
  tied_noted au is id pool tied =
      tied_copies id pool old new polls references pins tied (of pool tied.of)
      (still_noted id au (copies_of old.copies) (copies_of new.copies) old.polls is tied.on)

-- a poll is opened behind the others
pub on_opened : (id au tick : ℕ) (old new : List Copy) (before after : List Polled) (s : Polled)
    → new ≡ copy_changed au (opened_at tick) old → after ≡ before ++ s ∷ [] → All (IsOn id old) before
    → s.tally.ballot.au ≡ au → IsCountedOn id (blocks_at au old) s → All (IsOn id new) after
on_opened id au tick old new before after s is more all at on =
    still_opened id au tick old new after is
    (subst (All (IsOn id old)) (sym more)
    (All-push (IsOn id old) before s all (subst (λ k. IsCountedOn id (blocks_at k old) s) (sym at) on)))

-- A block that is replaced.

replaced_blocks : (au b : ℕ) (bytes : List ℕ) (cs : List Copy)
    → blocks_at au (copy_changed au (replaced_in b bytes) cs) ≡ slice_set (blocks_at au cs) b bytes
replaced_blocks au b bytes [] = refl
replaced_blocks au b bytes (c ∷ cs) = here (eqb c.au au) refl (replaced_blocks au b bytes cs)
  where
    here : (t : Bool) → eqb c.au au ≡ t
        → blocks_at au (copy_changed au (replaced_in b bytes) cs) ≡ slice_set (blocks_at au cs) b bytes
        → blocks_at au (cond t (replaced_in b bytes c ∷ cs) (c ∷ copy_changed au (replaced_in b bytes) cs))
        ≡ slice_set (blocks_in (cond t (Some c) (copy_at au cs))) b bytes
    here true e rest = ap (λ t. blocks_in (cond t (Some (replaced_in b bytes c)) (copy_at au cs))) e
    here false e rest =
        ap (λ t. blocks_in (cond t (Some c) (copy_at au (copy_changed au (replaced_in b bytes) cs)))) e ∙ rest

other_blocks : (au a : ℕ) (f : Copy → Copy) (cs : List Copy) → eqb a au ≡ false → ((c : Copy) → (f c).au ≡ c.au)
    → blocks_at a (copy_changed au f cs) ≡ blocks_at a cs
other_blocks au a f [] other same = refl
other_blocks au a f (c ∷ cs) other same = here (eqb c.au au) refl (eqb c.au a) refl (other_blocks au a f cs other same)
  where
    here : (t : Bool) → eqb c.au au ≡ t → (u : Bool) → eqb c.au a ≡ u
        → blocks_at a (copy_changed au f cs) ≡ blocks_at a cs
        → blocks_at a (cond t (f c ∷ cs) (c ∷ copy_changed au f cs)) ≡ blocks_in (cond u (Some c) (copy_at a cs))
    here true is true found rest =
        absurd (both_ways (eqb a au) other (ap (λ k. eqb k au) (sym (eqb-true c.au a found)) ∙ is))
    here true is false found rest =
        ap (λ k. blocks_in (cond (eqb k a) (Some (f c)) (copy_at a cs))) (same c)
        ∙ ap (λ u. blocks_in (cond u (Some (f c)) (copy_at a cs))) found
    here false is true found rest = ap (λ u. blocks_in (cond u (Some c) (copy_at a (copy_changed au f cs)))) found
    here false is false found rest =
        ap (λ u. blocks_in (cond u (Some c) (copy_at a (copy_changed au f cs)))) found ∙ rest

module _ (id au b : ℕ) (bytes : List ℕ) (cs : List Copy) where
  forget_on : (s : Polled) → IsOn id cs s → IsOn id (copy_changed au (replaced_in b bytes) cs) (forgetting au b s)
  forget_on s on = here (eqb s.tally.ballot.au au) refl
    where
      here : (t : Bool) → eqb s.tally.ballot.au au ≡ t
          → IsOn id (copy_changed au (replaced_in b bytes) cs)
          (cond t (record s { tally = hashes_forgotten b s.tally }) s)
      here true is =
          let a = s.tally.ballot.au in
          let blocks = blocks_at a cs in
          let later : blocks_at a (copy_changed au (replaced_in b bytes) cs) ≡ slice_set blocks b bytes
          = subst (λ k. blocks_at a (copy_changed k (replaced_in b bytes) cs) ≡ slice_set blocks b bytes)
          (eqb-true a au is) (replaced_blocks a b bytes cs) in
          subst (λ blocks. IsCountedOn id blocks (record s { tally = hashes_forgotten b s.tally })) (sym later)
          (record {
            poller = on.poller;
            count = on.count ∙ sym (length-set blocks b bytes);
            cache =
                cache_forgotten s.tally b blocks (slice_set blocks b bytes) on.cache
                (sym (take-set-le b blocks b bytes (omega arith)));
            some = subst (λ n. 1 ≤ n) (sym (length-set blocks b bytes)) on.some;
            waits = on.waits;
            running = on.running;
          })
      here false isnt =
          subst (λ blocks. IsCountedOn id blocks s)
          (sym (other_blocks au s.tally.ballot.au (replaced_in b bytes) cs isnt (λ c. refl))) on

  forget_all : (ss : List Polled) → All (IsOn id cs) ss
      → All (IsOn id (copy_changed au (replaced_in b bytes) cs)) (map (forgetting au b) ss)
  forget_all [] all = All-nil (IsOn id (copy_changed au (replaced_in b bytes) cs))
  forget_all (s ∷ ss) all =
      All-cons (IsOn id (copy_changed au (replaced_in b bytes) cs)) (forgetting au b s) (map (forgetting au b) ss)
      (forget_on s (All-head (IsOn id cs) s ss all)) (forget_all ss (All-tail (IsOn id cs) s ss all))

pub tied_replaced : (id : ℕ) (pool : List ℕ) (au b : ℕ) (bytes : List ℕ) (old new : Known) (ss : List Polled)
    → copies_of new.copies ≡ copy_changed au (replaced_in b bytes) (copies_of old.copies)
    → (All (IsOf pool) old.copies → All (IsOf pool) new.copies) → RunsOn old.polls ss
    → new.polls ≡ map (forgetting au b) ss → new.references ≡ old.references → new.sessions ≡ old.sessions
    → IsTied id pool old → IsTied id pool new
unfolding RunsOn
tied_replaced id pool au b bytes old new ss copies of runs polls references pins tied = record {
  of = of tied.of;
  on = subst (λ cs. All (IsOn id cs) new.polls) (sym copies)
      (subst (All (IsOn id (copy_changed au (replaced_in b bytes) (copies_of old.copies)))) (sym polls)
      (forget_all id au b bytes (copies_of old.copies) ss (runs id (copies_of old.copies) tied.on)));
  owner = ap (λ r. r.own) references ∙ tied.owner;
  pins = subst (sessions.IsOf pool) (sym pins) tied.pins;
}

-- forgetting changes nothing that is seen
pub forgotten_seen : (au b : ℕ) (ss : List Polled) → polls_of (map (forgetting au b) ss) ≡ polls_of ss
forgotten_seen au b [] = refl
forgotten_seen au b (s ∷ ss) = λ i. seen (eqb s.tally.ballot.au au) i ∷ forgotten_seen au b ss i
  where
    seen : (t : Bool) → poll_of (cond t (record s { tally = hashes_forgotten b s.tally }) s) ≡ poll_of s
    seen true = refl
    seen false = refl

-- An agreed poll.

pub agreed_some : (au tick : ℕ) (o : Option Poll) (cs : List Copy)
    → Some au ≡ option_map (λ (p : Poll). p.opening.au) o
    → agreed_on o tick cs ≡ copy_changed au (agreed_at tick) cs
agreed_some au tick None cs is = absurd cc
agreed_some au tick (Some p) cs is =
    let same : au ≡ p.opening.au = cc in ap (λ a. copy_changed a (agreed_at tick) cs) (sym same)

pub agreed_none : (tick : ℕ) (o : Option Poll) (cs : List Copy) → None ≡ option_map (λ (p : Poll). p.opening.au) o
    → agreed_on o tick cs ≡ cs
agreed_none tick None cs is = refl
agreed_none tick (Some p) cs is = absurd cc

pub over_agreed : (au tick : ℕ) (old new : List Held)
    → copies_of new ≡ copy_changed au (agreed_at tick) (copies_of old) → RunOver old new
unfolding RunOver
over_agreed au tick old new is id ss on = still_agreed id au tick (copies_of old) (copies_of new) ss is on

pub over_same : (held : List Held) → RunOver held held
unfolding RunOver
over_same held id ss on = on

-- the poll is gone, and the others run over the same copies
pub tied_agreed : (id : ℕ) (pool : List ℕ) (old new : Known) (ss : List Polled) → IsTied id pool old
    → ((pool : List ℕ) → All (IsOf pool) old.copies → All (IsOf pool) new.copies)
    → RunOver old.copies new.copies → All (IsOn id (copies_of old.copies)) ss → RunsOn ss new.polls
    → new.references.own ≡ old.references.own → new.sessions ≡ old.sessions → IsTied id pool new
unfolding RunsOn RunOver
tied_agreed id pool old new ss tied of over on runs owner pins = record {
  of = of pool tied.of;
  on = runs id (copies_of new.copies) (over id ss on);
  owner = owner ∙ tied.owner;
  pins = subst (sessions.IsOf pool) (sym pins) tied.pins;
}

-- What fits the state may be noted.

module _ (own : Station) (pool : List ℕ) (k : Known) (tied : IsTied own.id pool k) where
  found : (n i : ℕ) (d : Polled) → position (λ (s : Polled). s.tally.ballot.poll.number == n) k.polls ≡ Some i
      → (P : Poll → Type 0) → Where (poll_at n (polls_of k.polls)) P → P (poll_of (get_or k.polls i d))
  found n i d at P is =
      subst (λ o. Where o P) (changing.found_at poll_of (λ (p : Poll). p.number == n) k.polls i d at) is

  on_at : (n i : ℕ) (d : Polled) → position (λ (s : Polled). s.tally.ballot.poll.number == n) k.polls ≡ Some i
      → IsOn own.id (copies_of k.copies) (get_or k.polls i d)
  on_at n i d at = at_place (IsOn own.id (copies_of k.copies)) n k.polls i d at tied.on

  pub vote_fits : (n voter : ℕ) (hashes : List (List ℕ)) → Fits own (state_of k) (record_of.VoteIn n voter hashes)
      → MayVote n voter hashes k.polls
  unfolding MayVote
  vote_fits n voter hashes fits i d at =
      let facts = found n i d at
      (λ p. (has_member p.voters voter ≡ false)
      × (length hashes ≡ length (blocks_at p.opening.au (copies_of k.copies)))) fits.1 in
      (facts.0, facts.1 ∙ sym (on_at n i d at).count)

  pub ask_fits : (n block voter : ℕ) → Fits own (state_of k) (record_of.Asked n block voter) → MayAsk n block k.polls
  unfolding MayAsk
  ask_fits n block voter fits i d at =
      let facts = found n i d at
      (λ p. (p.shut ≡ true) × (p.request ≡ None)
      × (block < length (blocks_at p.opening.au (copies_of k.copies)))) fits in
      let on = on_at n i d at in
      (facts.0, idle (get_or k.polls i d).suppliers facts.1 on.waits, subst (λ n. block < n) (sym on.count) facts.2)
    where
      none : (o : Option (ℕ × ℕ)) → option_map request_of o ≡ None → is_some o ≡ true → ⊥
      none None e some = absurd cc
      none (Some a) e some = absurd cc

      idle : (q : Asked) → option_map request_of (awaited_request q) ≡ None
          → (q.waiting ≡ true → is_some (awaited_request q) ≡ true) → q.waiting ≡ false
      idle q e waits = by_test q.waiting refl
        where
          by_test : (b : Bool) → q.waiting ≡ b → b ≡ false
          by_test false is = refl
          by_test true is = absurd (none (awaited_request q) e (waits is))

  pub replace_fits : (n au block : ℕ) (bytes : List ℕ) → Fits own (state_of k) (record_of.Replaced n au block bytes)
      → MayReplace au block (copies_of k.copies)
  unfolding MayReplace
  replace_fits n au block bytes fits = fits.0

  pub agree_fits : (n tick : ℕ) → Fits own (state_of k) (record_of.Closed n outcome.Agreed tick)
      → AreAgreed own n (copies_of k.copies) (polls_of k.polls)
  unfolding AreAgreed
  agree_fits n tick fits = fits

-- what is true anyway is true at an error
pub any_err : {X E : Type 0} (result : Result X E) (P : Type 0) → P → OnErr result P
any_err (Ok x) P is = tt
any_err (Err e) P is = is

-- where nothing changed, nothing but marks did
pub same_but_marks : (old new : State) → new ≡ old → IsSameButMarks old new
same_but_marks old new is = (old.voter.marks, is)

pub tied_on : (id : ℕ) (pool : List ℕ) (old new : Known) → StaysTied old new → IsTied id pool old → IsTied id pool new
unfolding StaysTied
tied_on id pool old new stays tied = stays id pool tied
