-- Lists of polls and copies, as they are seen.
use Rattle.std.proofs.Common.{◌≡◌, ◌<◌, ◌≤◌, ◌-◌, ◌∙◌, ap, sym, ℕ, zero, suc, Bool, true, false, cond, List, [], ◌∷◌}
use Rattle.std.proofs.Common.{◌++◌, refl, length, arith}
use Rattle.std.specs.Prelude.{Option, Some, None, is_some, not, ◌==◌, ◌||◌, ◌&&◌, find, nat_lt, map, slice_get}
use Rattle.std.specs.List.{list_any, list_all, filter_map, cons_option}
use Rattle.std.proofs.lemmas.List.{map-append}
use Rattle.lks_audit.specs.Copied.{copies_of}
use Rattle.lks_audit.specs.Seen.{poll_of, polls_of}
use Rattle.lks_audit.specs.declared.copies.Held.{Held}
use Rattle.lks_law.specs.Fitting.{most_numbered}
use Rattle.lks_base.specs.declared.events.PeerStep.TheVariants.{Tally, Work}
use Rattle.lks_law.specs.Polls.{Station}
use Rattle.lks_law.specs.State.{Poll, Copy, State}
use Rattle.lks_law.specs.Taking.{Pinned}
use Rattle.lks_law.specs.Turning.{ready_in, ready_on, tallies_on, works_on}
use Rattle.lks_peer.specs.Accepting.{tally_in, works_in}
use Rattle.lks_poller.specs.Polling.{Polled}
use Rattle.lks_versions.specs.Shelf.{current_of}
use Rattle.lks_work.specs.Names.{step_named}
use Rattle.lks_work.specs.declared.jobs.JobName.{JobName}
use Rattle.lks_work.specs.declared.jobs.JobName.TheVariants as names

pub running_seen : (au : ℕ) (ss : List Polled)
    → list_any (λ (p : Poll). p.opening.au == au) (polls_of ss)
    ≡ list_any (λ (s : Polled). s.tally.ballot.au == au) ss
running_seen au [] = refl
running_seen au (s ∷ ss) = ap (λ b. s.tally.ballot.au == au || b) (running_seen au ss)

pub count_seen : (ss : List Polled) → length (polls_of ss) ≡ length ss
count_seen [] = refl
count_seen (s ∷ ss) = ap (λ n. suc n) (count_seen ss)

pub steps_seen : {X : Type 0} (f : Poll → Option X) (ss : List Polled)
    → filter_map f (polls_of ss) ≡ filter_map (λ s. f (poll_of s)) ss
steps_seen f [] = refl
steps_seen f (s ∷ ss) = ap (cons_option (f (poll_of s))) (steps_seen f ss)

pub left_seen : (hs : List Held)
    → list_all (λ (c : Copy). nat_lt c.version most_numbered) (copies_of hs)
    ≡ list_all (λ (h : Held). nat_lt (current_of h.versions) most_numbered) hs
left_seen [] = refl
left_seen (h ∷ hs) = ap (λ b. nat_lt (current_of h.versions) most_numbered && b) (left_seen hs)

-- One list behind another.

in_front : {X : Type 0} (xs ys : List X) (k : ℕ) → k < length xs → slice_get (xs ++ ys) k ≡ slice_get xs k
in_front [] ys k low = absurd (omega (arith, low))
in_front (x ∷ xs) ys zero low = refl
in_front (x ∷ xs) ys (suc k) low = in_front xs ys k (omega (arith, low))

behind : {X : Type 0} (xs ys : List X) (k : ℕ) → length xs ≤ k → slice_get (xs ++ ys) k ≡ slice_get ys (k - length xs)
behind [] ys k high = ap (slice_get ys) (let same : k ≡ k - 0 = omega arith in same)
behind (x ∷ xs) ys zero high = absurd (omega (arith, high))
behind (x ∷ xs) ys (suc k) high =
    behind xs ys k (omega (arith, high))
    ∙ ap (slice_get ys) (let same : k - length xs ≡ suc k - suc (length xs) = omega arith in same)

as_long : {X Y : Type 0} (f : X → Y) (xs : List X) → length (map f xs) ≡ length xs
as_long f [] = refl
as_long f (x ∷ xs) = ap (λ n. suc n) (as_long f xs)

-- the votes come first
pub ready_first : {X Y : Type 0} (f : X → Y) (xs : List X) (ys : List Y) (k : ℕ) → k < length xs
    → slice_get (map f xs) k ≡ slice_get (map f xs ++ ys) k
ready_first f xs ys k low = sym (in_front (map f xs) ys k (let same = as_long f xs in omega (arith, low, same)))

pub ready_later : {X Y : Type 0} (f : X → Y) (xs : List X) (ys : List Y) (k : ℕ) → length xs ≤ k
    → slice_get ys (k - length xs) ≡ slice_get (map f xs ++ ys) k
ready_later f xs ys k high =
    let same = as_long f xs in
    ap (λ n. slice_get ys (k - n)) (sym same) ∙ sym (behind (map f xs) ys k (omega (arith, high, same)))

-- and then the tallies
pub tallies_later : (id k votes : ℕ) (pinned : List Pinned) (held ss : List Polled) → held ≡ ss
    → votes ≡ length pinned → votes ≤ k
    → slice_get (filter_map (λ s. ready_in id (poll_of s)) held) (k - votes)
    ≡ slice_get
    (map (λ (p : Pinned). Work id p.committed.joined.poll) pinned ++ filter_map (ready_in id) (polls_of ss)) k
tallies_later id k votes pinned held ss same count high =
    (λ i. slice_get (filter_map (λ s. ready_in id (poll_of s)) (same i)) (k - count i))
    ∙ ap (λ steps. slice_get steps (k - length pinned)) (sym (steps_seen (ready_in id) ss))
    ∙ ready_later (λ (p : Pinned). Work id p.committed.joined.poll) pinned (filter_map (ready_in id) (polls_of ss))
    k (omega (arith, count, high))

-- What is left of work comes of the votes, or else of the tallies.

pub left_front : {X : Type 0} (left : X → Bool) (xs ys : List X) (o : Option X) (x : X) → o ≡ find left xs
    → o ≡ Some x → Some x ≡ find left (xs ++ ys)
left_front left [] ys o x is some = absurd cc
left_front left (y ∷ xs) ys o x is some = by_test (left y) is (λ later. left_front left xs ys o x later some)
  where
    by_test : (b : Bool) → o ≡ cond b (Some y) (find left xs) → (o ≡ find left xs → Some x ≡ find left (xs ++ ys))
        → Some x ≡ cond b (Some y) (find left (xs ++ ys))
    by_test true here rest = sym some ∙ here
    by_test false here rest = rest here

pub left_behind : {X : Type 0} (left : X → Bool) (xs ys : List X) (o : Option X) → o ≡ find left xs → o ≡ None
    → find left ys ≡ find left (xs ++ ys)
left_behind left [] ys o is none = refl
left_behind left (y ∷ xs) ys o is none = by_test (left y) is (λ later. left_behind left xs ys o later none)
  where
    by_test : (b : Bool) → o ≡ cond b (Some y) (find left xs)
        → (o ≡ find left xs → find left ys ≡ find left (xs ++ ys))
        → find left ys ≡ cond b (Some y) (find left (xs ++ ys))
    by_test true here rest = absurd cc
    by_test false here rest = rest here

pub tallies_left : (left : JobName → Bool) (id : ℕ) (votes : List JobName) (held ss : List Polled)
    (o : Option JobName)
    → held ≡ ss → o ≡ find left votes → o ≡ None
    → find left (filter_map (λ s. tally_in id (poll_of s)) held)
    ≡ find left (votes ++ filter_map (tally_in id) (polls_of ss))
tallies_left left id votes held ss o same is none =
    ap (λ xs. find left (filter_map (λ s. tally_in id (poll_of s)) xs)) same
    ∙ ap (find left) (sym (steps_seen (tally_in id) ss))
    ∙ left_behind left votes (filter_map (tally_in id) (polls_of ss)) o is none

-- the steps of all work are those for which the peer is ready

votes_named : (id : ℕ) (ps : List Pinned)
    → map step_named (map (λ (p : Pinned). names.Vote id p.committed.joined.poll) ps)
    ≡ map (λ (p : Pinned). Work id p.committed.joined.poll) ps
votes_named id [] = refl
votes_named id (p ∷ ps) = ap (λ ss. Work id p.committed.joined.poll ∷ ss) (votes_named id ps)

tallies_named : (id : ℕ) (ps : List Poll) → map step_named (filter_map (tally_in id) ps) ≡ filter_map (ready_in id) ps
tallies_named id [] = refl
tallies_named id (p ∷ ps) =
    by_test (p.shut && not (is_some p.request)) ∙ ap (cons_option (ready_in id p)) (tallies_named id ps)
  where
    by_test : (b : Bool)
        → map step_named (cons_option (cond b (Some (names.Tally id p.number)) None) (filter_map (tally_in id) ps))
        ≡ cons_option (cond b (Some (Tally id p.number)) None) (map step_named (filter_map (tally_in id) ps))
    by_test true = refl
    by_test false = refl

pub works_ready : (own : Station) (s : State) → map step_named (works_in own s) ≡ ready_on own s
unfolding works_on tallies_on
works_ready own s =
    map-append step_named (map (λ (p : Pinned). names.Vote own.id p.committed.joined.poll) s.voter.pinned)
    (filter_map (tally_in own.id) s.polls)
    ∙ (λ i. votes_named own.id s.voter.pinned i ++ tallies_named own.id s.polls i)
