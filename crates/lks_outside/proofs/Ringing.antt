-- The bells of a desk, rung one after another and then sorted out.
use Rattle.std.proofs.Common.{◌≡◌, ℕ, ◌+◌, ◌<◌, Bool, true, false, cond, nat_lt, List, [], ◌∷◌, ◌++◌, length, take}
use Rattle.std.proofs.Common.{drop, map, filter, get_or, refl, ◌∙◌, ap, arith, length-drop, length-append}
use Rattle.std.proofs.lemmas.Bool.Decides.{nat_tests}
use Rattle.std.proofs.Math.ListN.{set}
use Rattle.std.proofs.lemmas.List.{take_more, take_more_set, drop_more, drop-set-lt, map-append}
use Rattle.lks_outside.specs.declared.alarms.Alarm.{Alarm}
use Rattle.lks_outside.specs.Bells.{Heard, heard_of, seen, wants, after, Raises, raised, left_of}

-- the bells before the i-th rang, and the others are as they were
pub record RangTo {B : Type 0} (look : B → Heard) (a : Alarm) (old now : List B) (i : ℕ) : Type 0 where
  pub rang : map look (take i now) ≡ map (after a) (map look (take i old))
  pub waits : drop i now ≡ drop i old

-- one bell more rings
pub rang_more : {B : Type 0} (look : B → Heard) (a : Alarm) (old now : List B) (i : ℕ) (d y : B) → i < length now
    → look y ≡ after a (look (get_or now i d)) → RangTo look a old now i → RangTo look a old (set now i y) (i + 1)
rang_more look a old now i d y within rings so_far =
    let left : length (drop i now) ≡ length (drop i old) = ap length so_far.waits in
    let within_old : i < length old = omega (arith, length-drop i now, length-drop i old) in
    let x = get_or old i d in
    let here : drop i now ≡ get_or now i d ∷ drop (i + 1) now = drop_more now i d within in
    let here_old : drop i old ≡ x ∷ drop (i + 1) old = drop_more old i d within_old in
    let front : take (i + 1) (set now i y) ≡ take i now ++ y ∷ [] = take_more_set now i y within in
    let front_old : take (i + 1) old ≡ take i old ++ x ∷ [] = take_more old i d within_old in
    let look_on : map look (take i now ++ y ∷ [])
    ≡ map look (take i now) ++ look y ∷ [] = map-append look (take i now) (y ∷ []) in
    let look_on_old : map look (take i old ++ x ∷ [])
    ≡ map look (take i old) ++ look x ∷ [] = map-append look (take i old) (x ∷ []) in
    let ring_on : map (after a) (map look (take i old) ++ look x ∷ [])
    ≡ map (after a) (map look (take i old))
    ++ after a (look x) ∷ [] = map-append (after a) (map look (take i old)) (look x ∷ []) in
    let behind : drop (i + 1) (set now i y) ≡ drop (i + 1) now = drop-set-lt (i + 1) now i y (omega arith) in
    record { rang = cc; waits = cc }

-- what is heard of those that a test keeps
map-filter : {B : Type 0} (look : B → Heard) (test : Heard → Bool) (bells : List B)
    → map look (filter (λ b. test (look b)) bells) ≡ filter test (map look bells)
map-filter look test [] = refl
map-filter look test (b ∷ bs) = by_test (test (look b)) (map-filter look test bs) where
  by_test : (t : Bool) → map look (filter (λ x. test (look x)) bs) ≡ filter test (map look bs)
      → map look (cond t (b ∷ filter (λ x. test (look x)) bs) (filter (λ x. test (look x)) bs))
      ≡ cond t (look b ∷ filter test (map look bs)) (filter test (map look bs))
  by_test true rest = ap (λ l. look b ∷ l) rest
  by_test false rest = rest

pub seen-Raises : {B : Type 0} (rung : B → List Alarm) (limit : B → ℕ) (a : Alarm) (old new : List B)
    → Raises rung limit a old new → seen rung limit new ≡ raised a (seen rung limit old)
seen-Raises rung limit a old new h =
    ap (seen rung limit) h.2 ∙ map-filter (heard_of rung limit) wants h.0 ∙ ap (filter wants) h.1

-- one alarm more for bells that rang for the same ones
pub raised-left_of : (a : Alarm) (alarms : List Alarm) (limits : List ℕ)
    → raised a (left_of alarms limits) ≡ left_of (alarms ++ a ∷ []) limits
raised-left_of a alarms [] = refl
raised-left_of a alarms (limit ∷ limits) =
    by_test (nat_lt (length alarms) limit) refl (raised-left_of a alarms limits) where
      by_test : (t : Bool) → nat_lt (length alarms) limit ≡ t
          → raised a (left_of alarms limits) ≡ left_of (alarms ++ a ∷ []) limits
          → raised a (left_of alarms (limit ∷ limits)) ≡ left_of (alarms ++ a ∷ []) (limit ∷ limits)
      by_test true more rest =
          let silent : Heard = record { rung = alarms; limit = limit } in
          let rings : after a silent ≡ record { rung = alarms ++ a ∷ []; limit = limit } = rw more in
          rw (more, rest, rings)
      by_test false sated rest =
          let over : nat_lt (length (alarms ++ a ∷ [])) limit ≡ false = grind (arith, nat_tests, length-append) in
          rw (sated, over) rest
