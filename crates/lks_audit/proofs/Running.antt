-- The polls of a peer run over the copies that it holds, before and after each record.
use Rattle.std.proofs.Common.{◌≡◌, ◌∙◌, ap, sym, subst, ℕ, suc, Bool, true, false, cond, List, length, get_or, refl}
use Rattle.std.proofs.Common.{take, drop, ◌<◌, ◌≤◌}
use Rattle.std.proofs.Common.{inl, inr}
use Rattle.lks_audit.proofs.Sessions.{last_pushed}
use Rattle.lks_choice.specs.Asking.{Asked, awaited_request}
use Rattle.std.specs.Prelude.{Option, Some, IfSome, is_some, ◌⊎◌, ◌==◌, [], ◌∷◌, find, slice_set, All}
use Rattle.std.specs.List.{position, remove}
use Rattle.std.proofs.lemmas.List.Elements.{All-head, All-tail, All-set, All-append, All-take, All-drop}
use Rattle.std.proofs.lemmas.List.Quantifiers.{position-Some}
use Rattle.lks_base.specs.Checking.{has_member}
use Rattle.lks_law.specs.State.{Copy, Poll, blocks_at}
use Rattle.lks_audit.specs.Counted.{IsCountedOn}
use Rattle.lks_audit.specs.Seen.{poll_of, IsOn, RunsOn}
use Rattle.lks_poller.specs.Polling as polling
use Rattle.lks_poller.specs.Polling.{Polled}
use Rattle.lks_tally.proofs.Caching.{cache_voted}
use Rattle.lks_tally.specs.Keeping.{Tallied, IsCacheOf}
use Rattle.lks_tally.specs.declared.ballots.Vote.{Vote}

-- what is true of each poll is true of the one at a place
pub at_place : (P : Polled → Type 0) (n : ℕ) (ss : List Polled) (i : ℕ) (d : Polled)
    → position (λ (s : Polled). s.tally.ballot.poll.number == n) ss ≡ Some i → All P ss → P (get_or ss i d)
at_place P n ss i d at all = all i d (position-Some (λ (s : Polled). s.tally.ballot.poll.number == n) ss i d at).0

pub on_none : (ss : List Polled) → RunsOn ss ss
unfolding RunsOn
on_none ss id copies all = all

pub on_equal : (old new : List Polled) → new ≡ old → RunsOn old new
unfolding RunsOn
on_equal old new is id copies all = subst (All (IsOn id copies)) (sym is) all

still_waits : (s old : Polled)
    → (s.suppliers.waiting ≡ true → is_some (awaited_request s.suppliers) ≡ true) ⊎ (s.suppliers ≡ old.suppliers)
    → (old.suppliers.waiting ≡ true → is_some (awaited_request old.suppliers) ≡ true) → s.suppliers.waiting ≡ true
    → is_some (awaited_request s.suppliers) ≡ true
still_waits s old (inl waits) was = waits
still_waits s old (inr same) was = subst
    (λ (q : Asked). q.waiting ≡ true → is_some (awaited_request q) ≡ true) (sym same) was

module _ (ss : List Polled) (i : ℕ) (old new : Polled) (low : i < length ss) (here : old ≡ get_or ss i old) where
  put : ((id : ℕ) (copies : List Copy) → IsOn id copies old → IsOn id copies new) → RunsOn ss (slice_set ss i new)
  unfolding RunsOn
  put is id copies all =
      All-set (IsOn id copies) ss i new (is id copies (subst (IsOn id copies) (sym here) (all i old low))) all

  -- where the tally stays, and the poll runs on
  same : (s : Polled) → new ≡ s → s.tally ≡ old.tally → s.closed ≡ old.closed
      → (s.suppliers.waiting ≡ true → is_some (awaited_request s.suppliers) ≡ true) ⊎ (s.suppliers ≡ old.suppliers)
      → RunsOn ss (slice_set ss i new)
  same s is tally closed waits = put (λ id copies was. subst (IsOn id copies) (sym is) (record {
    poller = ap (λ (t : Tallied). t.ballot.poll.poller) tally ∙ was.poller;
    count = subst (λ (t : Tallied). t.ballot.count ≡ length (blocks_at t.ballot.au copies)) (sym tally) was.count;
    cache = subst (λ (t : Tallied). IsCacheOf t (blocks_at t.ballot.au copies)) (sym tally) was.cache;
    some = subst (λ (t : Tallied). 1 ≤ length (blocks_at t.ballot.au copies)) (sym tally) was.some;
    waits = still_waits s old waits was.waits;
    running = closed ∙ was.running;
  }))

  pub on_nominated : (voter : ℕ) (nominees : List ℕ) → new ≡ polling.nominees_noted old voter nominees
      → RunsOn ss (slice_set ss i new)
  on_nominated voter nominees is = same (polling.nominees_noted old voter nominees) is refl refl (inr refl)

  pub on_widened : (outer : List ℕ) → new ≡ polling.outer_invited old outer → RunsOn ss (slice_set ss i new)
  on_widened outer is = same (polling.outer_invited old outer) is refl refl (inr refl)

  pub on_shut : new ≡ polling.shut_now old → RunsOn ss (slice_set ss i new)
  on_shut is = same (polling.shut_now old) is refl refl (inr refl)

  pub on_answered : new ≡ polling.request_released old → RunsOn ss (slice_set ss i new)
  on_answered is = same (polling.request_released old) is refl refl (inl (λ e. absurd cc))

  pub on_asked : (block voter : ℕ) → new ≡ polling.supplier_asked old block voter → RunsOn ss (slice_set ss i new)
  on_asked block voter is =
      same (polling.supplier_asked old block voter) is refl refl
      (inl (λ e. ap is_some (last_pushed old.suppliers.asked (block, voter))))

  pub on_voted : (voter : ℕ) (hashes : List (List ℕ)) → new ≡ polling.vote_taken old voter hashes
      → RunsOn ss (slice_set ss i new)
  on_voted voter hashes is =
      put (λ id copies was. subst (IsOn id copies) (sym is) (by_circle id copies was (has_member old.inner voter)))
    where
      vote : Vote
      vote = record { voter = voter; hashes = hashes }

      by_circle : (id : ℕ) (copies : List Copy) → IsOn id copies old → (b : Bool)
          → IsOn id copies (cond b (polling.voted_inner old vote) (polling.voted_outer old vote))
      by_circle id copies was true =
          record {
            poller = was.poller;
            count = was.count;
            cache = cache_voted old.tally vote (blocks_at old.tally.ballot.au copies);
            some = was.some;
            waits = was.waits;
            running = was.running;
          }
      by_circle id copies was false =
          record {
            poller = was.poller;
            count = was.count;
            cache = was.cache;
            some = was.some;
            waits = was.waits;
            running = was.running;
          }

pub on_gone : (ss : List Polled) (i : ℕ) → RunsOn ss (remove ss i)
unfolding RunsOn
on_gone ss i id copies all =
    All-append (IsOn id copies) (take i ss) (drop (suc i) ss) (All-take (IsOn id copies) i ss all)
    (All-drop (IsOn id copies) (suc i) ss all)

-- where a poll is seen as before, it runs over the same copy
pub on_still : (id : ℕ) (copies : List Copy) (old new : Polled) → poll_of new ≡ poll_of old
    → IsCountedOn id (blocks_at old.tally.ballot.au copies) new → IsOn id copies new
on_still id copies old new seen on =
    subst (λ au. IsCountedOn id (blocks_at au copies) new) (sym (ap (λ (p : Poll). p.opening.au) seen)) on

-- the one that is found is one of them
pub on_found : (n : ℕ) (ss : List Polled) (found : Option Polled)
    → found ≡ find (λ (s : Polled). s.tally.ballot.poll.number == n) ss
    → (id : ℕ) (copies : List Copy) → All (IsOn id copies) ss → IfSome found (IsOn id copies)
on_found n ss found is id copies all = subst (λ o. IfSome o (IsOn id copies)) (sym is) (among ss all)
  where
    among : (ss : List Polled) → All (IsOn id copies) ss
        → IfSome (find (λ (s : Polled). s.tally.ballot.poll.number == n) ss) (IsOn id copies)
    among [] all = tt
    among (s ∷ ss) all = by_test (s.tally.ballot.poll.number == n) (among ss (All-tail (IsOn id copies) s ss all))
      where
        by_test : (b : Bool) → IfSome (find (λ (s : Polled). s.tally.ballot.poll.number == n) ss) (IsOn id copies)
            → IfSome (cond b (Some s) (find (λ (s : Polled). s.tally.ballot.poll.number == n) ss)) (IsOn id copies)
        by_test true rest = All-head (IsOn id copies) s ss all
        by_test false rest = rest

-- the poll at a place, and another there
pub on_place : (id : ℕ) (copies : List Copy) (ss : List Polled) (i : ℕ) (d : Polled) → i < length ss
    → d ≡ get_or ss i d → All (IsOn id copies) ss → IsOn id copies d
on_place id copies ss i d low here all = subst (IsOn id copies) (sym here) (all i d low)

pub on_set : (id : ℕ) (copies : List Copy) (ss : List Polled) (i : ℕ) (new : Polled) → IsOn id copies new
    → All (IsOn id copies) ss → All (IsOn id copies) (slice_set ss i new)
on_set id copies ss i new is all = All-set (IsOn id copies) ss i new is all
