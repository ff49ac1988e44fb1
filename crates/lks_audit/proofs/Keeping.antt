-- For how many blocks the polls of a peer keep hashes, before and after each record.
use Rattle.std.proofs.Common.{◌≡◌, ◌∙◌, ap, sym, ℕ, Bool, true, false, cond, eqb, zero, suc, List, [], ◌∷◌, get_or}
use Rattle.std.proofs.Common.{refl}
use Rattle.std.specs.Prelude.{Option, Some, None, ◌==◌, find, option_map, slice_set}
use Rattle.std.specs.List.{position, remove}
use Rattle.std.proofs.lemmas.List.Quantifiers.{position-Some}
use Rattle.lks_base.specs.Checking.{has_member}
use Rattle.lks_audit.proofs.Changing as changing
use Rattle.lks_audit.proofs.Sessions.{found_poll, no_poll}
use Rattle.lks_audit.specs.Kept.{Kept, kept_in, kept_of, kept_at, with_count, kept_changed, without_kept, kept_voted}
use Rattle.lks_audit.specs.Kept.{kept_tallied, kept_by_tally}
use Rattle.lks_audit.specs.Seen.{poll_of, polls_of}
use Rattle.lks_law.specs.Polls.{Station}
use Rattle.lks_law.specs.Firsts.{changed_first}
use Rattle.lks_law.specs.State.{Copy, Poll, poll_at}
use Rattle.lks_law.specs.Turning.{has_inner_of}
use Rattle.lks_poller.specs.Polling as polling
use Rattle.lks_poller.specs.Polling.{Polled}
use Rattle.lks_tally.specs.declared.ballots.Vote.{Vote}

-- the count of the poll that is found
pub kept_seen : (n : ℕ) (ss : List Polled) (found : Option Polled)
    → found ≡ find (λ (s : Polled). s.tally.ballot.poll.number == n) ss
    → kept_at n (kept_of ss) ≡ option_map (λ (s : Polled). s.tally.kept) found
kept_seen n ss found is =
    ap (option_map (λ (k : Kept). k.count))
    (changing.found_seen kept_in (λ (k : Kept). k.number == n) ss ∙ ap (option_map kept_in) (sym is))
    ∙ twice found
  where
    twice : (o : Option Polled)
        → option_map (λ (k : Kept). k.count) (option_map kept_in o) ≡ option_map (λ (s : Polled). s.tally.kept) o
    twice None = refl
    twice (Some s) = refl

-- the count of the poll at a place
pub kept_found : (n : ℕ) (ss : List Polled) (i : ℕ) (d : Polled)
    → position (λ (s : Polled). s.tally.ballot.poll.number == n) ss ≡ Some i → d ≡ get_or ss i d
    → kept_at n (kept_of ss) ≡ Some d.tally.kept
kept_found n ss i d at here =
    ap (option_map (λ (k : Kept). k.count)) (changing.found_at kept_in (λ (k : Kept). k.number == n) ss i d at)
    ∙ ap (λ (s : Polled). Some s.tally.kept) (sym here)

-- where the tally of one poll stays
pub kept_still : (ss : List Polled) (i : ℕ) (d new : Polled) → d ≡ get_or ss i d → new.tally ≡ d.tally
    → kept_of (slice_set ss i new) ≡ kept_of ss
kept_still [] i d new here same = refl
kept_still (s ∷ ss) zero d new here same =
    (λ i. record { number = (same i).ballot.poll.number; au = (same i).ballot.au; count = (same i).kept }
    ∷ kept_of ss)
    ∙ ap (λ s. kept_in s ∷ kept_of ss) here
kept_still (s ∷ ss) (suc i) d new here same = ap (λ ks. kept_in s ∷ ks) (kept_still ss i d new here same)

-- a poll that is gone leaves the same, whatever it kept
gone_changed : (n : ℕ) (k : Kept) (ks : List Kept) → eqb k.number n ≡ true
    → without_kept n (changed_first (λ (k : Kept). k.number == n) (λ x. k) ks) ≡ without_kept n ks
gone_changed n k [] named = refl
gone_changed n k (x ∷ ks) named = by_test (eqb x.number n) refl (gone_changed n k ks named)
  where
    by_test : (b : Bool) → eqb x.number n ≡ b
        → without_kept n (changed_first (λ (k : Kept). k.number == n) (λ x. k) ks) ≡ without_kept n ks
        → without_kept n (cond b (k ∷ ks) (x ∷ changed_first (λ (k : Kept). k.number == n) (λ x. k) ks))
        ≡ cond b ks (x ∷ without_kept n ks)
    by_test true is rest = ap (λ b. cond b ks (k ∷ without_kept n ks)) named
    by_test false is rest =
        ap
        (λ b. cond b (changed_first (λ (k : Kept). k.number == n) (λ x. k) ks)
        (x ∷ without_kept n (changed_first (λ (k : Kept). k.number == n) (λ x. k) ks))) is
        ∙ ap (λ xs. x ∷ xs) rest

module _ (n : ℕ) (ss : List Polled) (i : ℕ) (old new : Polled)
    (at : position (λ (s : Polled). s.tally.ballot.poll.number == n) ss ≡ Some i) (here : old ≡ get_or ss i old)
  where
    put : (f : ℕ → ℕ) → kept_in new ≡ with_count f (kept_in old)
        → kept_of (slice_set ss i new) ≡ kept_changed n f (kept_of ss)
    put f made = changing.put_first kept_in (λ (k : Kept). k.number == n) (with_count f) ss i old new at here made

    pub kept_counted : (own : Station) (copies : List Copy) → poll_of new ≡ poll_of old
        → new.tally.kept ≡ kept_tallied own copies (poll_of old) old.tally.kept
        → kept_of (slice_set ss i new) ≡ kept_by_tally own copies n (poll_at n (polls_of ss)) (kept_of ss)
    kept_counted own copies seen is =
        put (kept_tallied own copies (poll_of old))
        (λ i. record { number = (seen i).number; au = (seen i).opening.au; count = is i })
        ∙ sym (ap (λ o. kept_by_tally own copies n o (kept_of ss)) (found_poll n ss i old at here))

    pub kept_voted_in : (voter : ℕ) (hashes : List (List ℕ)) → new ≡ polling.vote_taken old voter hashes
        → kept_of (slice_set ss i new) ≡ kept_voted n (has_inner_of (poll_at n (polls_of ss)) voter) (kept_of ss)
    kept_voted_in voter hashes is =
        by_circle (has_member old.inner voter) is
        ∙ sym (ap (λ o. kept_voted n (has_inner_of o voter) (kept_of ss)) (found_poll n ss i old at here))
      where
        vote : Vote
        vote = record { voter = voter; hashes = hashes }

        by_circle : (b : Bool) → new ≡ cond b (polling.voted_inner old vote) (polling.voted_outer old vote)
            → kept_of (slice_set ss i new) ≡ kept_voted n b (kept_of ss)
        by_circle true is = put (λ count. 0) (ap kept_in is)
        by_circle false is = kept_still ss i old new here (ap (λ (s : Polled). s.tally) is)

    pub kept_agreed : poll_of new ≡ poll_of old
        → without_kept n (kept_of (slice_set ss i new)) ≡ without_kept n (kept_of ss)
    kept_agreed seen =
        ap (without_kept n)
        (changing.put_first kept_in (λ (k : Kept). k.number == n) (λ k. kept_in new) ss i old new at here refl)
        ∙ gone_changed n (kept_in new) (kept_of ss) named
      where
        named : eqb new.tally.ballot.poll.number n ≡ true
        named =
            ap (λ (p : Poll). eqb p.number n) seen ∙ ap (λ (s : Polled). eqb s.tally.ballot.poll.number n) here
            ∙ (position-Some (λ (s : Polled). s.tally.ballot.poll.number == n) ss i old at).1

-- Where no poll of the number runs.

module _ (n : ℕ) (ss : List Polled) (none : position (λ (s : Polled). s.tally.ballot.poll.number == n) ss ≡ None) where
  pub kept_uncounted : (own : Station) (copies : List Copy)
      → kept_of ss ≡ kept_by_tally own copies n (poll_at n (polls_of ss)) (kept_of ss)
  kept_uncounted own copies = sym (ap (λ o. kept_by_tally own copies n o (kept_of ss)) (no_poll n ss none))

  pub kept_unvoted : (voter : ℕ) → kept_of ss ≡ kept_voted n (has_inner_of (poll_at n (polls_of ss)) voter) (kept_of ss)
  kept_unvoted voter = sym (ap (λ o. kept_voted n (has_inner_of o voter) (kept_of ss)) (no_poll n ss none))

-- a poll that ended
pub kept_gone : (n : ℕ) (ss : List Polled) (i : ℕ)
    → position (λ (s : Polled). s.tally.ballot.poll.number == n) ss ≡ Some i
    → kept_of (remove ss i) ≡ without_kept n (kept_of ss)
kept_gone n = changing.gone_first kept_in (λ (k : Kept). k.number == n)

pub kept_not_gone : (n : ℕ) (ss : List Polled)
    → position (λ (s : Polled). s.tally.ballot.poll.number == n) ss ≡ None
    → kept_of ss ≡ without_kept n (kept_of ss)
kept_not_gone n = changing.gone_none kept_in (λ (k : Kept). k.number == n)
