-- The polls of a peer, as they are seen.
use Rattle.std.proofs.Common.{◌≡◌, ◌∙◌, ap, sym, subst, ℕ, Bool, true, false, cond, zero, suc, List, [], ◌∷◌, ◌++◌}
use Rattle.std.proofs.Common.{length, get_or, refl, arith}
use Rattle.std.specs.Prelude.{Option, Some, None, ◌==◌, ◌-◌, map, find, option_map, slice_set, slice_get}
use Rattle.std.specs.List.{position, remove}
use Rattle.std.proofs.lemmas.List.{map_push, length_push}
use Rattle.lks_base.specs.Checking.{has_member}
use Rattle.lks_audit.proofs.Changing as changing
use Rattle.lks_law.specs.Fitting.{Where}
use Rattle.lks_law.specs.Polls.{Station}
use Rattle.lks_law.specs.Reacting.{verdict_of}
use Rattle.lks_tally.specs.declared.ballots.Verdict.TheVariants as verdict
use Rattle.lks_law.specs.State.{Copy, blocks_at, Poll, poll_at, changed_poll, without_poll, nominated_by, widened_to}
use Rattle.lks_law.specs.State.{voted_by, shut_now, request_sent, request_answered}
use Rattle.lks_audit.specs.Seen.{AreAgreed, request_of, nomination_of, poll_of, polls_of}
use Rattle.lks_tally.specs.declared.ballots.Vote.{Vote}
use Rattle.lks_poller.specs.Polling as polling
use Rattle.lks_poller.specs.Polling.{Polled}

pub poll_seen : (n : ℕ) (ss : List Polled) (found : Option Polled)
    → found ≡ find (λ (s : Polled). s.tally.ballot.poll.number == n) ss
    → poll_at n (polls_of ss) ≡ option_map poll_of found
poll_seen n ss found is =
    changing.found_seen poll_of (λ (p : Poll). p.number == n) ss ∙ ap (option_map poll_of) (sym is)

-- the last of a list that was pushed to
pub last_pushed : {X : Type 0} (xs : List X) (x : X) → slice_get (xs ++ x ∷ []) (length (xs ++ x ∷ []) - 1) ≡ Some x
last_pushed xs x = let more = length_push xs x in ap (slice_get (xs ++ x ∷ [])) (omega (arith, more)) ∙ at_end xs
  where
    at_end : (xs : List _) → slice_get (xs ++ x ∷ []) (length xs) ≡ Some x
    at_end [] = refl
    at_end (y ∷ ys) = at_end ys

module _ (n : ℕ) (ss : List Polled) (i : ℕ) (old new : Polled)
    (at : position (λ (s : Polled). s.tally.ballot.poll.number == n) ss ≡ Some i) (here : old ≡ get_or ss i old)
  where
    put : (f : Poll → Poll) → poll_of new ≡ f (poll_of old)
        → map poll_of (slice_set ss i new) ≡ changed_poll n f (map poll_of ss)
    put f made = changing.put_first poll_of (λ (p : Poll). p.number == n) f ss i old new at here made

    pub put_nominated : (voter : ℕ) (nominees : List ℕ) → new ≡ polling.nominees_noted old voter nominees
        → map poll_of (slice_set ss i new) ≡ changed_poll n (nominated_by voter nominees) (map poll_of ss)
    put_nominated voter nominees is =
        put (nominated_by voter nominees)
        (ap poll_of is
        ∙ ap (λ ns. record (poll_of old) { nominations = ns })
        (map_push nomination_of old.nominations (record { voter = voter; nominees = nominees })))

    pub put_widened : (outer : List ℕ) → new ≡ polling.outer_invited old outer
        → map poll_of (slice_set ss i new) ≡ changed_poll n (widened_to outer) (map poll_of ss)
    put_widened outer is = put (widened_to outer) (ap poll_of is)

    pub put_shut : new ≡ polling.shut_now old
        → map poll_of (slice_set ss i new) ≡ changed_poll n shut_now (map poll_of ss)
    put_shut is = put shut_now (ap poll_of is)

    pub put_answered : new ≡ polling.request_released old
        → map poll_of (slice_set ss i new) ≡ changed_poll n request_answered (map poll_of ss)
    put_answered is = put request_answered (ap poll_of is)

    pub put_asked : (block voter : ℕ) → new ≡ polling.supplier_asked old block voter
        → map poll_of (slice_set ss i new)
        ≡ changed_poll n (request_sent (record { block = block; voter = voter })) (map poll_of ss)
    put_asked block voter is =
        put (request_sent (record { block = block; voter = voter }))
        (ap poll_of is ∙ (λ i. record (poll_of old) {
          asked = map_push request_of old.suppliers.asked (block, voter) i;
          request = option_map request_of (last_pushed old.suppliers.asked (block, voter) i);
        }))

    pub put_voted : (voter : ℕ) (hashes : List (List ℕ)) → new ≡ polling.vote_taken old voter hashes
        → map poll_of (slice_set ss i new)
        ≡ changed_poll n (voted_by (record { voter = voter; hashes = hashes })) (map poll_of ss)
    put_voted voter hashes is = put (voted_by vote) (ap poll_of is ∙ by_circle (has_member old.inner voter))
      where
        vote : Vote
        vote = record { voter = voter; hashes = hashes }

        by_circle : (b : Bool) → poll_of (cond b (polling.voted_inner old vote) (polling.voted_outer old vote))
            ≡ cond b
            (record
            (poll_of old) { inner_votes = old.tally.votes ++ vote ∷ []; voters = old.voters ++ voter ∷ [] })
            (record (poll_of old) { outer_votes = old.outer_votes ++ vote ∷ []; voters = old.voters ++ voter ∷ [] })
        by_circle true = refl
        by_circle false = refl

pub put_nothing : (n : ℕ) (f : Poll → Poll) (ss : List Polled)
    → position (λ (s : Polled). s.tally.ballot.poll.number == n) ss ≡ None
    → polls_of ss ≡ changed_poll n f (polls_of ss)
put_nothing n f = changing.put_none poll_of (λ (p : Poll). p.number == n) f

pub gone : (n : ℕ) (ss : List Polled) (i : ℕ)
    → position (λ (s : Polled). s.tally.ballot.poll.number == n) ss ≡ Some i
    → map poll_of (remove ss i) ≡ without_poll n (map poll_of ss)
gone n = changing.gone_first poll_of (λ (p : Poll). p.number == n)

pub gone_nothing : (n : ℕ) (ss : List Polled) → position (λ (s : Polled). s.tally.ballot.poll.number == n) ss ≡ None
    → polls_of ss ≡ without_poll n (polls_of ss)
gone_nothing n = changing.gone_none poll_of (λ (p : Poll). p.number == n)

-- The poll at a place, and what is found of its number.

pub found_poll : (n : ℕ) (ss : List Polled) (i : ℕ) (d : Polled)
    → position (λ (s : Polled). s.tally.ballot.poll.number == n) ss ≡ Some i → d ≡ get_or ss i d
    → poll_at n (polls_of ss) ≡ Some (poll_of d)
found_poll n ss i d at here =
    changing.found_at poll_of (λ (p : Poll). p.number == n) ss i d at ∙ ap (λ s. Some (poll_of s)) (sym here)

pub no_poll : (n : ℕ) (ss : List Polled) → position (λ (s : Polled). s.tally.ballot.poll.number == n) ss ≡ None
    → poll_at n (polls_of ss) ≡ None
no_poll n = changing.found_none poll_of (λ (p : Poll). p.number == n)

pub seen_still : (ss : List Polled) (i : ℕ) (d new : Polled) → d ≡ get_or ss i d → poll_of new ≡ poll_of d
    → polls_of (slice_set ss i new) ≡ polls_of ss
seen_still [] i d new here seen = refl
seen_still (s ∷ ss) zero d new here seen = ap (λ p. p ∷ polls_of ss) (seen ∙ ap poll_of here)
seen_still (s ∷ ss) (suc i) d new here seen = ap (λ ps. poll_of s ∷ ps) (seen_still ss i d new here seen)

pub same_still : (ss : List Polled) (i : ℕ) (d new : Polled) → d ≡ get_or ss i d → new ≡ d → slice_set ss i new ≡ ss
same_still [] i d new here same = refl
same_still (s ∷ ss) zero d new here same = ap (λ s. s ∷ ss) (same ∙ here)
same_still (s ∷ ss) (suc i) d new here same = ap (λ ss. s ∷ ss) (same_still ss i d new here same)

-- the poll at the place is the one that is agreed
pub agreed_at_place : (own : Station) (n : ℕ) (copies : List Copy) (ss : List Polled) (i : ℕ) (d : Polled)
    → AreAgreed own n copies (polls_of ss)
    → position (λ (s : Polled). s.tally.ballot.poll.number == n) ss ≡ Some i → d ≡ get_or ss i d
    → verdict_of own (poll_of d) (blocks_at d.tally.ballot.au copies) ≡ verdict.Agreed
unfolding AreAgreed
agreed_at_place own n copies ss i d agreed at here =
    subst (λ o. Where o (λ p. verdict_of own p (blocks_at p.opening.au copies) ≡ verdict.Agreed))
    (found_poll n ss i d at here) agreed
