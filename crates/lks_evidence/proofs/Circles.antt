-- The votes of a circle are no more than it has members, where nobody votes twice.
use Rattle.std.proofs.Common.{◌≡◌, ◌≤◌, inl, inr, subst, ℕ, Bool, true, false, cond, List, [], ◌∷◌, length, filter}
use Rattle.std.proofs.Common.{refl, arith}
use Rattle.std.specs.Prelude.{◌==◌}
use Rattle.std.proofs.lemmas.Bool.{or_cases, eqb-true}
use Rattle.lks_base.specs.Checking.{has_member}
use Rattle.lks_base.specs.declared.limits.TheConstants.{MOST_CIRCLE}
use Rattle.lks_base.specs.declared.records.Record.{Record}
use Rattle.lks_law.specs.Polls.{votes, inner_votes}
use Rattle.lks_tally.proofs.Voters.{few_voters}
use Rattle.lks_tally.specs.declared.ballots.Vote.{Vote}
use Rattle.lks_tally.specs.Distinct.{AreDistinct}
use Rattle.lks_tally.specs.Keeping.{has_vote_of}
use Rattle.lks_evidence.specs.Rules.{told_count}

inner_member : (inner : List ℕ) (vs : List Vote) (p : ℕ)
    → has_vote_of (filter (λ v. has_member inner v.voter) vs) p ≡ true → has_member inner p ≡ true
inner_member inner [] p e = absurd cc
inner_member inner (v ∷ vs) p e = by_member (has_member inner v.voter) refl e (inner_member inner vs p)
  where
    by_member : (b : Bool) → has_member inner v.voter ≡ b
        → has_vote_of
        (cond b (v ∷ filter (λ v. has_member inner v.voter) vs) (filter (λ v. has_member inner v.voter) vs)) p
        ≡ true
        → (has_vote_of (filter (λ v. has_member inner v.voter) vs) p ≡ true → has_member inner p ≡ true)
        → has_member inner p ≡ true
    by_member true is e rest =
        elim (or_cases (v.voter == p) (has_vote_of (filter (λ v. has_member inner v.voter) vs) p) e) [
          | inl same ↦ subst (λ k. has_member inner k ≡ true) (eqb-true v.voter p same) is
          | inr found ↦ rest found
        ]
    by_member false is e rest = rest e

few_votes : (inner : List ℕ) (n : ℕ) (journal : List Record) → AreDistinct (inner_votes n inner journal)
    → length (inner_votes n inner journal) ≤ length inner
unfolding inner_votes
few_votes inner n journal distinct =
    few_voters inner (filter (λ v. has_member inner v.voter) (votes n journal)) distinct
    (inner_member inner (votes n journal))

pub told_whole : (inner : List ℕ) (n m : ℕ) (journal : List Record) → length inner ≤ MOST_CIRCLE
    → AreDistinct (inner_votes n inner journal)
    → m ≤ length (inner_votes n inner journal) → told_count m ≡ m
unfolding told_count
told_whole inner n m journal circle distinct few =
    let votes = few_votes inner n journal distinct in omega (arith, circle, votes, few)
