-- There are no more batches than bytes.
use Rattle.std.proofs.Common.{◌≡◌, ◌≤◌, ◌<◌, ◌+◌, ap, subst, ℕ, zero, suc, List, [], ◌∷◌, ◌++◌, ◌-◌, length, take}
use Rattle.std.proofs.Common.{drop, length-drop, arith}
use Rattle.std.specs.Prelude.{Option, Some, Ok, slice_get, sum_by}
use Rattle.std.proofs.lemmas.List.{length-take-le, take_all}
use Rattle.std.proofs.lemmas.List.Sums.{sum_by-cons, sum_by-take-le, sum_by-take-drop}
use Rattle.lks_base.specs.declared.records.Record.{Record}
use Rattle.lks_law.specs.Batches.{alone}
use Rattle.lks_law.specs.Polls.{Station}
use Rattle.lks_record.proofs.Laws.{read_spells}
use Rattle.lks_record.specs.Reading.{decode_of}
use Rattle.lks_record.specs.Spelling.{batch_spelling}
use Rattle.lks_host.specs.Sorted.{AreTaken, FailsAt, TakesAll, spelled_each}

-- a body that is read isn't empty
some_bytes : (body : List ℕ) (batch : List Record) → decode_of body ≡ Ok batch → 1 ≤ length body
some_bytes [] batch read =
    absurd (let spelled : [] ≡ batch_spelling batch = (read_spells [] batch (λ i. omega arith) read).1 in cc)
some_bytes (b ∷ bs) batch read = omega arith

taken_few : (own : Station) (js : List Record) (bodies : List (List ℕ)) (list : List Record)
    → AreTaken own js bodies list → length bodies ≤ sum_by length bodies
taken_few own js [] list taken = omega arith
taken_few own js (b ∷ bs) list taken =
    let one = some_bytes b taken.0 taken.1 in
    let rest = taken_few own (js ++ taken.0) bs list taken.3 in
    let all = sum_by-cons length b bs in
    omega (arith, one, rest, all)

deposits_few : (begun : List Record) → length begun ≤ sum_by length (spelled_each begun)
deposits_few [] = omega arith
deposits_few (r ∷ rs) =
    let rest = deposits_few rs in
    let all = sum_by-cons length (batch_spelling (alone r)) (spelled_each rs) in
    omega (arith, rest, all)

pub within_place : (bodies : List (List ℕ)) (place : ℕ) (body : List ℕ) → slice_get bodies place ≡ Some body
    → place < length bodies
within_place [] place body there = absurd cc
within_place (b ∷ bs) zero body there = omega arith
within_place (b ∷ bs) (suc k) body there = let rest = within_place bs k body there in omega (arith, rest)

-- the place of one that fails
pub place_few : (own : Station) (begun : List Record) (bodies : List (List ℕ)) (place : ℕ)
    → take (length begun) bodies ≡ spelled_each begun → FailsAt own begun (drop (length begun) bodies) place
    → length begun + place ≤ sum_by length bodies
place_few own begun bodies place alike fails =
    let low = within_place (drop (length begun) bodies) place fails.body fails.there in
    let count : length (take place (drop (length begun) bodies))
    ≡ place = length-take-le place (drop (length begun) bodies) (omega (arith, low)) in
    let front = taken_few own begun (take place (drop (length begun) bodies)) fails.list fails.before in
    let part = sum_by-take-le length (drop (length begun) bodies) place in
    let first = deposits_few begun in
    let same : sum_by length (take (length begun) bodies)
    ≡ sum_by length (spelled_each begun) = ap (sum_by length) alike in
    let whole = sum_by-take-drop length bodies (length begun) in
    omega (arith, count, front, part, first, same, whole)

-- a slice to the end
pub rest_is : (count : ℕ) (bodies : List (List ℕ))
    → take (length bodies - count) (drop count bodies) ≡ drop count bodies
rest_is count bodies =
    let left : length (drop count bodies) ≡ length bodies - count = length-drop count bodies in
    take_all (length bodies - count) (drop count bodies) (omega (arith, left))

-- one that fails among those behind the deposits
pub fails_behind : (own : Station) (begun list : List Record) (bodies : List (List ℕ)) (count place : ℕ)
    (o : Option ℕ)
    → count ≡ length begun → o ≡ Some place
    → TakesAll own begun (take (length bodies - count) (drop count bodies)) list o
    → FailsAt own begun (drop (length begun) bodies) place
fails_behind own begun list bodies count place o same some takes =
    let found : TakesAll own begun (take (length bodies - count) (drop count bodies)) list (Some place) = subst
    (TakesAll own begun (take (length bodies - count) (drop count bodies)) list) some takes in
    let failed : FailsAt own begun (drop count bodies) place = subst
    (λ (bs : List (List ℕ)). FailsAt own begun bs place) (rest_is count bodies) found in
    subst (λ (n : ℕ). FailsAt own begun (drop n bodies) place) same failed

pub count_few : (own : Station) (begun list : List Record) (bodies : List (List ℕ)) (count place : ℕ) (o : Option ℕ)
    → count ≡ length begun → o ≡ Some place
    → TakesAll own begun (take (length bodies - count) (drop count bodies)) list o
    → take (length begun) bodies ≡ spelled_each begun → count + place ≤ sum_by length bodies
count_few own begun list bodies count place o same some takes alike =
    let few = place_few own begun bodies place alike
    (fails_behind own begun list bodies count place o same some takes) in
    omega (arith, few, same)
