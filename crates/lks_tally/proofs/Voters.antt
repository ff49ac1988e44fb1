-- Distinct voters out of a circle.
use Rattle.std.proofs.Common.{◌≡◌, ◌≢◌, ◌<◌, ◌≤◌, ℕ, suc, true, ◌||◌, List, [], ◌∷◌, length, map, refl, sym, ◌∙◌, ap}
use Rattle.std.proofs.Common.{arith}
use Rattle.std.specs.Prelude.{nat_eq}
use Rattle.std.specs.Cmp.{nat_eq_equiv}
use Rattle.std.specs.List.{AllPairs}
use Rattle.std.specs.Set.{is_member}
use Rattle.std.proofs.lemmas.Bool.Decides.{Decides-eqb}
use Rattle.std.proofs.lemmas.List.{get_or-map}
use Rattle.std.proofs.lemmas.Map.Made.{IsDistinct-from_AllPairs, length-le_from_is_member}
use Rattle.lks_base.specs.Checking.{has_member}
use Rattle.lks_tally.specs.declared.ballots.Vote.{Vote}
use Rattle.lks_tally.specs.Distinct.{AreDistinct}
use Rattle.lks_tally.specs.Keeping.{has_vote_of}

-- the voters of the votes, in order
abbrev voters : List Vote → List ℕ
voters votes = map (λ v. v.voter) votes

length_voters : (votes : List Vote) → length (voters votes) ≡ length votes
length_voters [] = refl
length_voters (w ∷ ws) = ap suc (length_voters ws)

is_member_votes : (votes : List Vote) (v : ℕ) → is_member nat_eq (voters votes) v ≡ has_vote_of votes v
is_member_votes [] v = refl
is_member_votes (w ∷ ws) v = λ i. nat_eq_equiv.symm v w.voter i || is_member_votes ws v i

is_member_ids : (ids : List ℕ) (v : ℕ) → is_member nat_eq ids v ≡ has_member ids v
unfolding has_member
is_member_ids [] v = refl
is_member_ids (w ∷ ws) v = λ i. nat_eq_equiv.symm v w i || is_member_ids ws v i

distinct_voters : (votes : List Vote) → AreDistinct votes → AllPairs ◌≢◌ (voters votes)
distinct_voters votes distinct = λ i j d before within same.
    let vote : Vote = record { voter = d; hashes = [] } in
    let second : j < length votes = omega (arith, within, length_voters votes) in
    let first : i < length votes = omega arith in
    distinct i j vote before second
    (sym (get_or-map (λ (v : Vote). v.voter) votes i vote d first) ∙ same
    ∙ get_or-map (λ (v : Vote). v.voter) votes j vote d second)

-- distinct voters out of a circle are no more than it has members
pub few_voters : (ids : List ℕ) (votes : List Vote) → AreDistinct votes
    → ((v : ℕ) → has_vote_of votes v ≡ true → has_member ids v ≡ true)
    → length votes ≤ length ids
few_voters ids votes distinct within =
    let fewer : length (voters votes) ≤ length ids =
    length-le_from_is_member nat_eq_equiv (voters votes) ids
    (IsDistinct-from_AllPairs Decides-eqb (voters votes) (distinct_voters votes distinct))
    (λ v found. is_member_ids ids v ∙ within v (sym (is_member_votes votes v) ∙ found)) in
    rw (← length_voters votes) fewer
