-- What the loop over the nominations needs, and what is true of each circle.
use Rattle.std.proofs.Common.{◌≡◌, ◌≢◌, ℕ, ◌+◌, ◌-◌, min, true, false, List, [], ◌∷◌, ◌++◌, length, get_or, refl, ap}
use Rattle.std.proofs.Common.{sym, ◌∙◌, subst, arith, length-append}
use Rattle.std.specs.List.{fold, All, Contains}
use Rattle.std.proofs.lemmas.List.Elements.{All-nil, All-append, All-weaker, All-contains, All-head, All-tail}
use Rattle.std.proofs.lemmas.List.Folds.{list_any_at}
use Rattle.lks_base.specs.Checking.{has_member}
use Rattle.lks_draw.proofs.Picking.{IsPickOf-by_key, picked_moved}
use Rattle.lks_draw.proofs.Places.{moved_on}
use Rattle.lks_draw.specs.Picks.{picked_members, words_taken, IsPickOf}
use Rattle.lks_draw.specs.Words.{Drawn, words_of, draw_after}
use Rattle.lks_choice.proofs.Candidates.{candidates-once, candidates-pass, All-candidates}
use Rattle.lks_choice.proofs.Members.{AllPairs-append, has_at}
use Rattle.lks_choice.specs.Circles.{candidates, Filled, filled_circle, circle_of, is_nominee, IsOuterCircle}

-- what a pick from a nomination makes of the circle
pub filled-peers : (d draws : Drawn) (own : ℕ) (inner : List ℕ) (size share : ℕ) (c : Filled)
    (nominees peers those : List ℕ) (most : ℕ) (members : List ℕ)
    → peers ≡ c.peers → draws ≡ draw_after d c.words → those ≡ candidates own inner peers nominees
    → most ≡ min share (size - length peers)
    → members ≡ picked_members (words_of draws.key) draws.place those most
    → peers ++ members ≡ (filled_circle d own inner size share c nominees).peers
unfolding filled_circle
filled-peers d draws own inner size share c nominees peers those most members peers_is draws_is those_is most_is
    members_is =
    let those_now : those
    ≡ candidates own inner c.peers nominees = those_is ∙ ap (λ ps. candidates own inner ps nominees) peers_is in
    let most_now : most
    ≡ min share (size - length c.peers) = most_is ∙ ap (λ ps. min share (size - length ps)) peers_is in
    let picked_now : members
    ≡ picked_members (words_of (draw_after d c.words).key) (draw_after d c.words).place
    (candidates own inner c.peers nominees)
    (min share (size - length c.peers)) =
    members_is ∙ (λ i. picked_members (words_of (draws_is i).key) (draws_is i).place (those_now i) (most_now i)) in
    λ i. peers_is i
    ++ (picked_now
    ∙ picked_moved d c.words (candidates own inner c.peers nominees) (min share (size - length c.peers))) i

-- and of the draw
pub filled-words : (d draws : Drawn) (own : ℕ) (inner : List ℕ) (size share : ℕ) (c : Filled)
    (nominees peers those : List ℕ) (most : ℕ)
    → peers ≡ c.peers → draws ≡ draw_after d c.words → those ≡ candidates own inner peers nominees
    → most ≡ min share (size - length peers)
    → draw_after draws (words_taken those most) ≡ draw_after d (filled_circle d own inner size share c nominees).words
unfolding filled_circle
filled-words d draws own inner size share c nominees peers those most peers_is draws_is those_is most_is =
    let those_now : those
    ≡ candidates own inner c.peers nominees = those_is ∙ ap (λ ps. candidates own inner ps nominees) peers_is in
    let most_now : most
    ≡ min share (size - length c.peers) = most_is ∙ ap (λ ps. min share (size - length ps)) peers_is in
    (λ i. draw_after (draws_is i) (words_taken (those_now i) (most_now i))) ∙ moved_on d c.words _

-- a nomination that is picked from leaves an outer circle one
filled_kept : (d : Drawn) (own : ℕ) (inner : List ℕ) (nominated : List (List ℕ)) (size share : ℕ) (c : Filled)
    (nominees : List ℕ)
    → All (λ p. is_nominee nominated p ≡ true) nominees
    → IsOuterCircle own inner nominated size c.peers
    → IsOuterCircle own inner nominated size (filled_circle d own inner size share c nominees).peers
unfolding filled_circle
filled_kept d own inner nominated size share c nominees named is =
    let those = candidates own inner c.peers nominees in
    let most = min share (size - length c.peers) in
    let new = picked_members (words_of d.key) (d.place + c.words) those most in
    let pick : IsPickOf those most new = IsPickOf-by_key d.key (d.place + c.words) those most new refl in
    let each : (P : ℕ → Type 0) → All P those → All P new =
    λ P all. All-weaker (Contains those) P (λ p here. All-contains P those p all here) new pick.members in
    let passes = candidates-pass own inner c.peers nominees in
    let absent : All (λ p. has_member c.peers p ≡ false) new =
    each (λ p. has_member c.peers p ≡ false) (λ k e within. grind (arith, passes k e within)) in
    record {
      few = omega (arith, is.few, pick.count, length-append c.peers new);
      once = AllPairs-append c.peers new is.once (pick.once (candidates-once own inner c.peers nominees)) absent;
      others =
          All-append (λ p. p ≢ own) c.peers new is.others
          (each (λ p. p ≢ own) (λ k e within. grind (arith, passes k e within)));
      not_inner =
          All-append (λ p. has_member inner p ≡ false) c.peers new is.not_inner
          (each (λ p. has_member inner p ≡ false) (λ k e within. grind (arith, passes k e within)));
      nominees = All-append (λ p. is_nominee nominated p ≡ true) c.peers new is.nominees
          (each (λ p. is_nominee nominated p ≡ true)
          (All-candidates (λ p. is_nominee nominated p ≡ true) own inner c.peers nominees named));
    }

fold_kept : (d : Drawn) (own : ℕ) (inner : List ℕ) (nominated : List (List ℕ)) (size share : ℕ) (c : Filled)
    (nominations : List (List ℕ))
    → All (λ nominees. All (λ p. is_nominee nominated p ≡ true) nominees) nominations
    → IsOuterCircle own inner nominated size c.peers
    → IsOuterCircle own inner nominated size (fold (filled_circle d own inner size share) c nominations).peers
fold_kept d own inner nominated size share c [] named is = is
fold_kept d own inner nominated size share c (n ∷ ns) named is =
    let P : List ℕ → Type 0 = λ nominees. All (λ p. is_nominee nominated p ≡ true) nominees in
    fold_kept d own inner nominated size share (filled_circle d own inner size share c n) ns (All-tail P n ns named)
    (filled_kept d own inner nominated size share c n (All-head P n ns named) is)

-- each member of a nomination is a nominee
all_named : (nominated : List (List ℕ)) → All (λ nominees. All (λ p. is_nominee nominated p ≡ true) nominees) nominated
all_named nominated = λ k ns within j e inside.
    list_any_at (λ nominees. has_member nominees (get_or (get_or nominated k ns) j e)) nominated k ns within
    (has_at (get_or nominated k ns) j e _ inside refl)

-- what is true of each circle
pub circle_law : (d : Drawn) (own : ℕ) (inner : List ℕ) (nominated : List (List ℕ)) (size : ℕ) (circle : List ℕ)
    → circle ≡ (circle_of d own inner nominated size).peers → IsOuterCircle own inner nominated size circle
unfolding circle_of
circle_law d own inner nominated size circle is =
    subst (IsOuterCircle own inner nominated size) (sym is)
    (fold_kept d own inner nominated size _ (record { peers = []; words = 0 }) nominated (all_named nominated)
    (record {
      few = omega arith;
      once = λ i j e before within. absurd (omega arith);
      others = All-nil (λ p. p ≢ own);
      not_inner = All-nil (λ p. has_member inner p ≡ false);
      nominees = All-nil (λ p. is_nominee nominated p ≡ true);
    }))
