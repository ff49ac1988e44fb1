-- Each call leaves a sound poll sound.
use Rattle.std.proofs.Common.{◌≡◌, ◌<◌, ◌≤◌, ℕ, Bool, true, false, cond, not, ◌&&◌, ◌||◌, ◌==◌, ◌⊎◌, Option, Some}
use Rattle.std.proofs.Common.{None, List, [], ◌∷◌, length, length-append, refl, sym, ◌∙◌, ap, subst, inl, inr, arith}
use Rattle.std.specs.List.{list_any}
use Rattle.std.proofs.lemmas.Bool.{and_parts, or_parts, not-true, eqb-true}
use Rattle.lks_base.specs.Checking.{has_member}
use Rattle.lks_base.specs.declared.limits.TheConstants.{MOST_CIRCLE}
use Rattle.lks_tally.proofs.Voters.{few_voters}
use Rattle.lks_tally.specs.declared.ballots.Vote.{Vote}
use Rattle.lks_tally.specs.Distinct.{AreDistinct}
use Rattle.lks_tally.specs.Keeping as keeping
use Rattle.lks_tally.specs.Keeping.{Tallied, IsReserved, IsSame}
use Rattle.lks_tally.specs.declared.ballots.Ballot.{Ballot}
use Rattle.lks_tally.specs.Running.{Poll, is_invited_to, may_vote}
use Rattle.lks_poller.specs.Polling.{Polled, voted_inner, voted_outer}
use Rattle.lks_poller.specs.Sound.{IsSound}
use Rattle.lks_poller.proofs.Members.{distinct_more, voted_more, member_more, votes_more}

-- The parts of the rules.

-- a peer that hasn't voted has a vote in neither list
pub unvoted_parts : (s : Polled) → IsSound s → (v : ℕ) → has_member s.voters v ≡ false
    → (keeping.has_vote_of s.tally.votes v ≡ false) × (keeping.has_vote_of s.outer_votes v ≡ false)
unvoted_parts s sound v new =
    or_parts (keeping.has_vote_of s.tally.votes v) (keeping.has_vote_of s.outer_votes v) (sym (sound.noted v) ∙ new)

-- a vote that may be taken is its peer's first, with a hash for each block
pub vote_new : (p : Poll) (from hashes count : ℕ) → may_vote p from hashes count ≡ true
    → has_member p.voters from ≡ false
vote_new p from hashes count h =
    let whole = and_parts (is_invited_to p from && not (has_member p.voters from)) (hashes == count)
    (and_parts (not p.shut) _ h).1 in
    not-true (has_member p.voters from) (and_parts (is_invited_to p from) (not (has_member p.voters from)) whole.0).1

pub vote_whole : (p : Poll) (from hashes count : ℕ) → may_vote p from hashes count ≡ true → hashes ≡ count
vote_whole p from hashes count h =
    eqb-true hashes count
    (and_parts (is_invited_to p from && not (has_member p.voters from)) (hashes == count)
    (and_parts (not p.shut) _ h).1).1

-- An inner circle casts at most one vote a member.

pub few_votes : (s : Polled) → IsSound s → length s.tally.votes ≤ MOST_CIRCLE
few_votes s sound =
    let fewer = few_voters s.inner s.tally.votes sound.distinct sound.of_inner in let few = sound.few in omega arith

pub never : {A : Type 0} (b : Bool) → b ≡ false → b ≡ true → A
never b is_false is_true = absurd cc

-- A poll that begins.

nobody : (votes : List Vote) → votes ≡ [] → AreDistinct votes
nobody votes e = subst AreDistinct (sym e) (λ i j d before within. absurd (omega arith))

pub sound_begun : (s : Polled) → length s.inner ≤ MOST_CIRCLE → IsReserved s.tally → 1 ≤ s.tally.ballot.count
    → s.tally.votes ≡ []
    → s.outer_votes ≡ [] → s.voters ≡ [] → s.closed ≡ false → s.suppliers.waiting ≡ false → IsSound s
unfolding has_member
sound_begun s few reserved blocks none no_outer nobody_noted running idle = record {
  few = few;
  reserved = reserved;
  blocks = blocks;
  distinct = nobody s.tally.votes none;
  of_inner = λ v found. absurd (unvoted s.tally.votes none v found);
  of_outer = λ v found. absurd (unvoted s.outer_votes no_outer v found);
  noted =
      λ v. ap (λ ids. list_any (λ i. i == v) ids) nobody_noted
      ∙ sym (λ i. keeping.has_vote_of (none i) v || keeping.has_vote_of (no_outer i) v);
  over = λ closed. never s.closed running closed;
  asking = λ waits. never s.suppliers.waiting idle waits;
  within = λ b v is. absurd (unasked s.suppliers.waiting idle _ b v is);
} where
  unvoted : (votes : List Vote) → votes ≡ [] → (v : ℕ) → keeping.has_vote_of votes v ≡ true → ⊥
  unvoted votes e v found =
      let none : keeping.has_vote_of [] v ≡ true = subst (λ vs. keeping.has_vote_of vs v ≡ true) e found in cc

  unasked : (waits : Bool) → waits ≡ false → (last : Option (ℕ × ℕ)) (b v : ℕ) → cond waits last None ≡ Some (b, v) → ⊥
  unasked true e last b v is = cc
  unasked false e last b v is = cc

-- Another tally of the same votes.

pub sound_tally : (s : Polled) (t : Tallied) → IsSound s → IsReserved t → IsSame t s.tally
    → IsSound (record s { tally = t })
sound_tally s t sound reserved same = record {
  few = sound.few;
  reserved = reserved;
  blocks = subst (λ (q : Ballot). 1 ≤ q.count) (sym same.0) sound.blocks;
  distinct = subst AreDistinct (sym same.2) sound.distinct;
  of_inner = λ v found. sound.of_inner v (subst (λ vs. keeping.has_vote_of vs v ≡ true) same.2 found);
  of_outer = sound.of_outer;
  noted = λ v. sound.noted v ∙ sym (λ i. keeping.has_vote_of (same.2 i) v || keeping.has_vote_of s.outer_votes v);
  over = sound.over;
  asking = sound.asking;
  within = λ b v is. subst (λ (q : Ballot). b < q.count) (sym same.0) (sound.within b v is);
}

-- Votes.

swapped : (a o x : Bool) → (a || o) || x ≡ (a || x) || o
swapped true o x = refl
swapped false true true = refl
swapped false true false = refl
swapped false false true = refl
swapped false false false = refl

grouped : (a o x : Bool) → (a || o) || x ≡ a || (o || x)
grouped true o x = refl
grouped false o x = refl

pub sound_inner : (s : Polled) (v : Vote) → IsSound s → has_member s.voters v.voter ≡ false
    → has_member s.inner v.voter ≡ true → IsSound (voted_inner s v)
sound_inner s v sound unvoted member = record {
  few = sound.few;
  reserved = sound.reserved;
  blocks = sound.blocks;
  distinct = distinct_more s.tally.votes v sound.distinct (unvoted_parts s sound v.voter unvoted).0;
  of_inner = λ w found. of_either w (voted_more s.tally.votes v w found);
  of_outer = sound.of_outer;
  noted = λ w. member_more s.voters v.voter w ∙ ap (λ b. b || (v.voter == w || false)) (sound.noted w)
      ∙ swapped (keeping.has_vote_of s.tally.votes w) (keeping.has_vote_of s.outer_votes w) (v.voter == w || false)
      ∙ sym (ap (λ b. b || keeping.has_vote_of s.outer_votes w) (votes_more s.tally.votes v w));
  over = sound.over;
  asking = sound.asking;
  within = sound.within;
} where
  of_either : (w : ℕ) → (keeping.has_vote_of s.tally.votes w ≡ true) ⊎ (v.voter ≡ w) → has_member s.inner w ≡ true
  of_either w (inl before) = sound.of_inner w before
  of_either w (inr here) = subst (λ x. has_member s.inner x ≡ true) here member

pub sound_outer : (s : Polled) (v : Vote) → IsSound s → has_member s.voters v.voter ≡ false
    → has_member s.inner v.voter ≡ false → IsSound (voted_outer s v)
sound_outer s v sound unvoted member = record {
  few = sound.few;
  reserved = sound.reserved;
  blocks = sound.blocks;
  distinct = sound.distinct;
  of_inner = sound.of_inner;
  of_outer = λ w found. of_either w (voted_more s.outer_votes v w found);
  noted = λ w. member_more s.voters v.voter w ∙ ap (λ b. b || (v.voter == w || false)) (sound.noted w)
      ∙ grouped (keeping.has_vote_of s.tally.votes w) (keeping.has_vote_of s.outer_votes w) (v.voter == w || false)
      ∙ sym (ap (λ b. keeping.has_vote_of s.tally.votes w || b) (votes_more s.outer_votes v w));
  over = sound.over;
  asking = sound.asking;
  within = sound.within;
} where
  of_either : (w : ℕ) → (keeping.has_vote_of s.outer_votes w ≡ true) ⊎ (v.voter ≡ w) → has_member s.inner w ≡ false
  of_either w (inl before) = sound.of_outer w before
  of_either w (inr here) = subst (λ x. has_member s.inner x ≡ false) here member

-- while an inner peer hasn't voted there is room for its vote
pub place_left : (s : Polled) (v : Vote) → IsSound s → has_member s.voters v.voter ≡ false
    → has_member s.inner v.voter ≡ true
    → length s.tally.votes < s.tally.vote_room
place_left s v sound unvoted member =
    let few = few_votes (voted_inner s v) (sound_inner s v sound unvoted member) in
    let room = sound.reserved.1 in
    omega (arith, length-append s.tally.votes (v ∷ []))
