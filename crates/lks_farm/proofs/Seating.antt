-- The seats of a new farm are all its seats, and they stay so.
use Rattle.std.proofs.Common.{◌≡◌, ℕ, suc, ◌+◌, ◌<◌, ◌≤◌, Bool, true, false, ◌==◌, cond, List, [], ◌∷◌, ◌++◌, length}
use Rattle.std.proofs.Common.{get_or, sym, refl, ap, ◌∙◌, subst, arith}
use Rattle.std.specs.Prelude.{All}
use Rattle.std.proofs.lemmas.List.Elements.{All-nil, All-cons}
use Rattle.std.proofs.lemmas.Bool.{eqb-true}
use Rattle.lks_farm.specs.Seats.{AreAll, AreFresh, AreSeatsOf, Badge, FarmName, SeatSeen, all_parts, badges_of, fresh}
use Rattle.lks_farm.specs.Seats.{seats_with}

pub fresh_more : (farm : FarmName) (k : ℕ) (ss : List SeatSeen) (s : SeatSeen) (n : ℕ) → n ≡ k + length ss
    → AreFresh farm k ss → s ≡ fresh farm n s.badge.parts → AreFresh farm k (ss ++ s ∷ [])
fresh_more farm k [] s n at all is =
    let here : n ≡ k = omega arith in
    (is ∙ ap (λ (m : ℕ). fresh farm m s.badge.parts) here, tt)
fresh_more farm k (x ∷ xs) s n at all is = (all.0, fresh_more farm (k + 1) xs s n (omega arith) all.1 is)

pub parts_more : (ss : List SeatSeen) (s : SeatSeen)
    → all_parts (badges_of (ss ++ s ∷ [])) ≡ all_parts (badges_of ss) + s.badge.parts
parts_more [] s = omega arith
parts_more (x ∷ xs) s = omega (arith, parts_more xs s)

fresh_each : (farm : FarmName) (k : ℕ) (ss : List SeatSeen) → AreFresh farm k ss
    → All (λ (b : Badge). b.farm ≡ farm) (badges_of ss)
fresh_each farm k [] all = All-nil (λ (b : Badge). b.farm ≡ farm)
fresh_each farm k (x ∷ xs) all =
    All-cons (λ (b : Badge). b.farm ≡ farm) x.badge (badges_of xs) (ap (λ (s : SeatSeen). s.badge.farm) all.0)
    (fresh_each farm (k + 1) xs all.1)

one_more : (b : Bool) (n k more : ℕ) → (k == n) ≡ b → more ≤ 1 → (n < k + 1 → more ≡ 0)
    → (cond b 1 0 + more ≤ 1) × (n < k → cond b 1 0 + more ≡ 0)
one_more true n k more is le none =
    let e : k ≡ n = eqb-true k n is in (omega (arith, none (omega arith)), λ lt. absurd (omega arith))
one_more false n k more is le none = (omega arith, λ lt. omega (arith, none (omega arith)))

fresh_numbers : (n : ℕ) (farm : FarmName) (k : ℕ) (ss : List SeatSeen) → AreFresh farm k ss
    → (seats_with n (badges_of ss) ≤ 1) × (n < k → seats_with n (badges_of ss) ≡ 0)
fresh_numbers n farm k [] all = (omega arith, λ lt. refl)
fresh_numbers n farm k (x ∷ xs) all =
    let more = fresh_numbers n farm (k + 1) xs all.1 in
    one_more (x.badge.number == n) n k (seats_with n (badges_of xs))
    (ap (λ (s : SeatSeen). s.badge.number == n) (sym all.0)) more.0 more.1

pub fresh_all : (farm : FarmName) (ss : List SeatSeen) → AreFresh farm 0 ss → all_parts (badges_of ss) ≡ 128
    → AreSeatsOf farm ss
fresh_all farm ss all parts =
    record { each = fresh_each farm 0 ss all; parts = parts; numbers = λ n. (fresh_numbers n farm 0 ss all).0 }

same_badges : (old new : List SeatSeen) → length new ≡ length old
    → ((i : ℕ) (d : SeatSeen) → i < length old → (get_or new i d).badge ≡ (get_or old i d).badge)
    → badges_of new ≡ badges_of old
same_badges [] [] len each = refl
same_badges [] (y ∷ ys) len each = absurd (omega arith)
same_badges (x ∷ xs) [] len each = absurd (omega arith)
same_badges (x ∷ xs) (y ∷ ys) len each =
    λ i. each 0 x (omega arith) i ∷ same_badges xs ys (omega arith) (λ k d lt. each (suc k) d (omega arith)) i

-- where each seat keeps its badge, they are still all seats of the farm
pub seats_kept : (farm : FarmName) (old new : List SeatSeen) → AreSeatsOf farm old → length new ≡ length old
    → ((i : ℕ) (d : SeatSeen) → i < length old → (get_or new i d).badge ≡ (get_or old i d).badge)
    → AreSeatsOf farm new
seats_kept farm old new all len each = subst (AreAll farm) (sym (same_badges old new len each)) all

-- a new seat of the farm after the seats before it
pub seat_more : (farm mine : FarmName) (ss : List SeatSeen) (s : SeatSeen) (n parts : ℕ) → s ≡ fresh mine n parts
    → mine ≡ farm → length ss ≡ n → AreFresh farm 0 ss → AreFresh farm 0 (ss ++ s ∷ [])
seat_more farm mine ss s n parts is same many all =
    fresh_more farm 0 ss s n (omega arith) all
    (is ∙ (λ i. fresh (same i) n (ap (λ (t : SeatSeen). t.badge.parts) (sym is) i)))
