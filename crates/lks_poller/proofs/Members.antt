-- Votes by their voters.
use Rattle.std.proofs.Common.{◌≡◌, ◌≢◌, ℕ, true, false, ◌||◌, ◌==◌, ◌⊎◌, List, [], ◌∷◌, ◌++◌, sym, ◌∙◌, inl, inr}
use Rattle.std.specs.List.{All}
use Rattle.std.proofs.lemmas.Bool.{or_cases, eqb-true, eq-eqb, false≢true}
use Rattle.std.proofs.lemmas.List.Folds.{list_any_at, list_any-append}
use Rattle.std.proofs.lemmas.List.Quantifiers.{all_pairs_push}
use Rattle.lks_base.specs.Checking.{has_member}
use Rattle.lks_tally.specs.declared.ballots.Vote.{Vote}
use Rattle.lks_tally.specs.Distinct.{AreDistinct}
use Rattle.lks_tally.specs.Keeping.{has_vote_of}

-- who hasn't voted is the voter of no vote
unvoted_apart : (votes : List Vote) (v : ℕ) → has_vote_of votes v ≡ false → All (λ w. w.voter ≢ v) votes
unvoted_apart votes v new = λ k d within same.
    false≢true (sym new ∙ list_any_at (λ w. w.voter == v) votes k d within (eq-eqb _ v same))

-- the vote of a peer that hasn't voted
pub distinct_more : (votes : List Vote) (v : Vote) → AreDistinct votes → has_vote_of votes v.voter ≡ false
    → AreDistinct (votes ++ v ∷ [])
distinct_more votes v distinct new =
    all_pairs_push (λ x y. x.voter ≢ y.voter) votes v distinct (unvoted_apart votes v.voter new)

-- one member more
pub member_more : (ids : List ℕ) (x v : ℕ) → has_member (ids ++ x ∷ []) v ≡ has_member ids v || (x == v || false)
unfolding has_member
member_more ids x v = list_any-append (λ i. i == v) ids (x ∷ [])

pub votes_more : (votes : List Vote) (x : Vote) (v : ℕ)
    → has_vote_of (votes ++ x ∷ []) v ≡ has_vote_of votes v || (x.voter == v || false)
votes_more votes x v = list_any-append (λ w. w.voter == v) votes (x ∷ [])

-- one vote more makes one voter more
pub voted_more : (votes : List Vote) (v : Vote) (w : ℕ) → has_vote_of (votes ++ v ∷ []) w ≡ true
    → (has_vote_of votes w ≡ true) ⊎ (v.voter ≡ w)
voted_more votes v w found =
    by_part (or_cases (has_vote_of votes w) ((v.voter == w) || false) (sym (votes_more votes v w) ∙ found)) where
      last : (v.voter == w || false) ≡ true → v.voter ≡ w
      last h = elim (or_cases (v.voter == w) false h) [ inl same ↦ eqb-true v.voter w same | inr never ↦ absurd cc ]

      by_part : (has_vote_of votes w ≡ true) ⊎ ((v.voter == w || false) ≡ true)
          → (has_vote_of votes w ≡ true) ⊎ (v.voter ≡ w)
      by_part (inl before) = inl before
      by_part (inr here) = inr (last here)
