-- What a node leaves on its store is a whole journal of its peer.
use Rattle.std.proofs.Common.{◌≡◌, ◌≢◌, ◌≤◌, ◌<◌, ◌^◌, ◌∙◌, ◌++◌, ℕ, List, [], ◌∷◌, Option, Some, None, ap, sym}
use Rattle.std.proofs.Common.{subst, refl, arith, inl, inr, length, take, drop}
use Rattle.std.proofs.lemmas.List.{append-nil, drop_all, drop-append-le, length-map, length-take, map-append}
use Rattle.std.proofs.lemmas.List.{take-append-le}
use Rattle.std.specs.Prelude.{map, max, min, unwrap_or, Ok}
use Rattle.lks_base.specs.declared.records.Record.{Record}
use Rattle.lks_field.proofs.Once.{held_once}
use Rattle.lks_field.specs.Frames.{frames, HoldsBodies}
use Rattle.lks_host.specs.Adopting.{with_missing}
use Rattle.lks_host.specs.Bodies.{bodies_of, AreRead}
use Rattle.lks_law.proofs.Batches.{batch_more}
use Rattle.lks_law.proofs.Behind.{AreAt, added_at, added_stands}
use Rattle.lks_law.proofs.Sorting.{latest_both}
use Rattle.lks_law.specs.Batches.{alone, together, with_batch}
use Rattle.lks_law.specs.Behind.{latest_tick, tick_in, StandsBehind}
use Rattle.lks_law.specs.Polls.{Station}
use Rattle.lks_law.specs.Questions.{Verdicts}
use Rattle.lks_law.specs.World.{Deed}
use Rattle.lks_node.proofs.Beginnings.{taken_longer}
use Rattle.lks_node.specs.Again.{AreWhole}
use Rattle.lks_node.specs.Going.{Progress, after, after_all, deed_by, does, journal_of, reaction_to, tick_after}
use Rattle.lks_node.specs.Opening.{BeginsWith}
use Rattle.lks_node.specs.declared.orders.Order.{Order}
use Rattle.lks_node.specs.declared.orders.Order.TheVariants.{Hear, Do, Pass}
use Rattle.lks_record.specs.Reading.{decode_of}
use Rattle.lks_record.specs.Spelling.{batch_spelling}
use Rattle.lks_host.proofs.Listing.{taken_more}
use Rattle.lks_host.specs.Owners.{missing_of}
use Rattle.lks_host.specs.Sorted.{AreTaken}

-- Ticks.

latest_at : (tick : ℕ) (added : List Record) → AreAt tick added → latest_tick added ≤ tick
unfolding latest_tick
latest_at tick [] all = omega arith
latest_at tick (r ∷ rs) all = by_tick (tick_in r) all.0 (latest_at tick rs all.1)
  where
    by_tick : (t : Option ℕ) → unwrap_or t tick ≡ tick → latest_tick rs ≤ tick
        → max (unwrap_or t 0) (latest_tick rs) ≤ tick
    by_tick None same rest = omega arith
    by_tick (Some k) same rest = omega arith

-- what a deed adds
module _ (own : Station) (js : List Record) (tick : ℕ) (low : latest_tick js ≤ tick) where
  adds_low : (d : Option Deed) → latest_tick (js ++ (reaction_to own js tick d).records) ≤ tick
  adds_low None = subst (λ (l : List Record). latest_tick l ≤ tick) (sym (append-nil js)) low
  adds_low (Some d) =
      let both = latest_both js (reaction_to own js tick (Some d)).records in
      let added = latest_at tick _ (added_at own js tick d.input _ (inl refl)) in
      omega (arith, both, added, low)

  adds_behind : (d : Option Deed) → (reaction_to own js tick d).records ≢ []
      → StandsBehind own js (reaction_to own js tick d).records
  adds_behind None some = absurd (some refl)
  adds_behind (Some d) some = added_stands own js tick d.input _ low (inl refl) some

no_earlier : (tick : ℕ) (o : Order) → tick < 2 ^ 32 → (tick ≤ tick_after tick o) × (tick_after tick o < 2 ^ 32)
no_earlier tick (Hear from bytes) low = (omega arith, low)
no_earlier tick (Do i) low = (omega arith, low)
no_earlier tick (Pass ticks) low = (omega arith, omega arith)

-- Batches.

whole_more : (own : Station) (begun : List Record) (batches : List (List Record)) (body : List Record)
    → AreWhole own begun batches → decode_of (batch_spelling body) ≡ Ok body
    → StandsBehind own (together batches) body
    → together (batches ++ body ∷ []) ≡ together batches ++ body → AreWhole own begun (batches ++ body ∷ [])
whole_more own begun batches body whole read stands all =
    let n = length begun in
    let old = bodies_of batches in
    let one = batch_spelling body ∷ [] in
    let more : bodies_of (batches ++ body ∷ []) ≡ old ++ one = map-append batch_spelling batches (body ∷ []) in
    let count : length (take n old)
    ≡ n = ap length whole.0 ∙ length-map begun (λ (r : Record). batch_spelling (alone r)) in
    let cut : length (take n old) ≡ min n (length old) = length-take n old in
    let enough : n ≤ length old = omega (arith, count, cut) in (
      ap (take n) more ∙ take-append-le n old one enough ∙ whole.0,
      subst (AreTaken own begun (drop n (bodies_of (batches ++ body ∷ [])))) (sym all)
          (subst (λ (bodies : List (List ℕ)). AreTaken own begun bodies (together batches ++ body))
          (sym (ap (drop n) more ∙ drop-append-le n old one enough))
          (taken_more own begun (together batches) (drop n old) (batch_spelling body) body whole.1 read stands)),
    )

read_front : (batches : List (List Record)) (body : List Record) → AreRead (batches ++ body ∷ [])
    → AreRead batches × (decode_of (batch_spelling body) ≡ Ok body)
read_front [] body read = (tt, read.0)
read_front (b ∷ bs) body read = let rest = read_front bs body read.1 in ((read.0, rest.0), rest.1)

read_less : (batches : List (List Record)) (added : List Record) → AreRead (with_batch batches added) → AreRead batches
read_less batches [] read = read
read_less batches (r ∷ rs) read = (read_front batches (r ∷ rs) read).0

whole_with : (own : Station) (begun : List Record) (batches : List (List Record)) (added : List Record)
    → AreWhole own begun batches → AreRead (with_batch batches added)
    → (added ≢ [] → StandsBehind own (together batches) added)
    → AreWhole own begun (with_batch batches added)
whole_with own begun batches [] whole read stands = whole
whole_with own begun batches (r ∷ rs) whole read stands =
    whole_more own begun batches (r ∷ rs) whole (read_front batches (r ∷ rs) read).1 (stands (λ e. cc))
    (batch_more batches (r ∷ rs))

read_back : (verdict : Verdicts) (own : Station) (p : Progress) (os : List Order)
    → AreRead (after_all verdict own p os).batches → AreRead p.batches
unfolding after_all
read_back verdict own p [] read = read
read_back verdict own p (o ∷ os) read =
    read_less p.batches (does verdict own p o).records (read_back verdict own (after verdict own p o) os read)

pub goes_on : (verdict : Verdicts) (own : Station) (begun : List Record) (p : Progress) (os : List Order)
    → AreWhole own begun p.batches → latest_tick (journal_of p) ≤ p.tick → p.tick < 2 ^ 32
    → AreRead (after_all verdict own p os).batches → AreWhole own begun (after_all verdict own p os).batches
unfolding after_all
goes_on verdict own begun p [] whole low small read = whole
goes_on verdict own begun p (o ∷ os) whole low small read =
    let d = deed_by verdict own.id p.heard o in
    let next = after verdict own p o in
    let clock = no_earlier p.tick o small in
    let now : latest_tick (journal_of p ++ (does verdict own p o).records)
    ≤ p.tick = adds_low own (journal_of p) p.tick low d in
    let later : latest_tick (journal_of next)
    ≤ next.tick = subst (λ (l : List Record). latest_tick l ≤ next.tick)
    (sym (batch_more p.batches (does verdict own p o).records)) (let up = clock.0 in omega (arith, now, up))
    in
    goes_on verdict own begun next os
    (whole_with own begun p.batches (does verdict own p o).records whole (read_back verdict own next os read)
    (adds_behind own (journal_of p) p.tick low d))
    later clock.1 read

-- A second start.

same_batches : (a b : List (List Record)) → AreRead a → AreRead b → bodies_of a ≡ bodies_of b → a ≡ b
same_batches [] [] read_a read_b same = refl
same_batches [] (y ∷ ys) read_a read_b same = absurd cc
same_batches (x ∷ xs) [] read_a read_b same = absurd cc
same_batches (x ∷ xs) (y ∷ ys) read_a read_b same =
    let bodies : batch_spelling x ≡ batch_spelling y = cc in
    let rest : bodies_of xs ≡ bodies_of ys = cc in
    let both : Ok x ≡ Ok y = sym read_a.0 ∙ ap decode_of bodies ∙ read_b.0 in
    let one : x ≡ y = cc in
    λ i. one i ∷ same_batches xs ys read_a.1 read_b.1 rest i

no_frame : (bodies : List (List ℕ)) (gate : ℕ) (rest : List ℕ) → [] ≢ frames bodies ++ gate ∷ rest
unfolding frames
no_frame [] gate rest e = cc
no_frame (body ∷ bodies) gate rest e = cc

pub starts_there : (own : Station) (begun : List Record) (batches first : List (List Record)) (file : List ℕ)
    → AreWhole own begun batches → AreRead batches → HoldsBodies (bodies_of batches) file
    → BeginsWith begun file first → first ≡ batches
starts_there own begun batches first file whole read holds (inl (empty, is)) =
    absurd (no_frame (bodies_of batches) holds.gate holds.rest (sym empty ∙ holds.file_is))
starts_there own begun batches first file whole read holds (inr (held, there, held_read, is)) =
    let same : held
    ≡ batches = same_batches held batches held_read read
    (held_once (bodies_of held) (bodies_of batches) file there holds) in
    let none : missing_of begun (together batches)
    ≡ [] = drop_all (length (together batches)) begun
    (taken_longer own begun (drop (length begun) (bodies_of batches)) (together batches) whole.1) in
    is ∙ ap (λ (bs : List (List Record)). with_missing begun (together bs) bs) same
    ∙ ap (λ (rest : List Record). batches ++ map alone rest) none ∙ append-nil batches
