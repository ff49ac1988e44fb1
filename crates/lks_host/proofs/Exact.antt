-- The bodies are what they are said to be, and nothing else.
use Rattle.std.proofs.Common.{◌≡◌, ◌∙◌, ◌<◌, ◌+◌, inl, inr, ap, sym, subst, ℕ, zero, suc, List, [], ◌∷◌, ◌++◌, length}
use Rattle.std.proofs.Common.{take, drop, refl, arith, append_assoc}
use Rattle.std.specs.Prelude.{Some, Ok, map, slice_get}
use Rattle.std.proofs.lemmas.Bool.{cases_order}
use Rattle.std.proofs.lemmas.List.{append-nil, length-map, length-take, take_all, take-take}
use Rattle.lks_base.specs.declared.plans.AuPlan.{AuPlan}
use Rattle.lks_base.specs.declared.plans.Holding.{Holding}
use Rattle.lks_base.specs.declared.records.Record.{Record}
use Rattle.lks_law.specs.Batches.{alone, together}
use Rattle.lks_law.specs.Behind.{StandsBehind, StandBehind}
use Rattle.lks_law.specs.Facts.{IsJournalOf}
use Rattle.lks_law.specs.Polls.{Station}
use Rattle.lks_law.specs.World.{deposits}
use Rattle.lks_law.proofs.Sorting.{journal_sorted}
use Rattle.lks_record.specs.Reading.{decode_of}
use Rattle.lks_record.specs.Spelling.{batch_spelling}
use Rattle.lks_host.specs.Sorted.{AreTaken, DiffersAt, FailsAt, SortsAs, spelled_each}
use Rattle.lks_host.specs.declared.sorting.JournalSort.{JournalSort}
use Rattle.lks_host.specs.declared.sorting.JournalSort.TheVariants.{Whole, Begun, Foreign}
use Rattle.lks_host.proofs.Few.{within_place}
use Rattle.lks_host.proofs.Taking.{same_batch}

-- the same bodies make one list
taken_same : (own : Station) (js : List Record) (bodies : List (List ℕ)) (a b : List Record)
    → AreTaken own js bodies a → AreTaken own js bodies b → a ≡ b
taken_same own js [] a b first second = first ∙ sym second
taken_same own js (body ∷ bodies) a b first second =
    let same : second.0 ≡ first.0 = same_batch (decode_of body) second.0 first.0 second.1 first.1 in
    taken_same own (js ++ first.0) bodies a b first.3
    (subst (λ (batch : List Record). AreTaken own (js ++ batch) bodies b) same second.3)

-- where all are taken, none fails
none_fails : (own : Station) (js : List Record) (bodies : List (List ℕ)) (list front : List Record) (place : ℕ)
    (body : List ℕ)
    → AreTaken own js bodies list → slice_get bodies place ≡ Some body → AreTaken own js (take place bodies) front
    → ((batch : List Record) → decode_of body ≡ Ok batch → StandsBehind own front batch → ⊥) → ⊥
none_fails own js [] list front place body all there before fails = cc
none_fails own js (b ∷ bs) list front zero body all there before fails =
    let same : b ≡ body = cc in
    fails all.0 (subst (λ (x : List ℕ). decode_of x ≡ Ok all.0) same all.1)
    (subst (λ (l : List Record). StandsBehind own l all.0) (sym before) all.2)
none_fails own js (b ∷ bs) list front (suc k) body all there before fails =
    let same : before.0 ≡ all.0 = same_batch (decode_of b) before.0 all.0 before.1 all.1 in
    none_fails own (js ++ all.0) bs list front k body all.3 there
    (subst (λ (batch : List Record). AreTaken own (js ++ batch) (take k bs) front) same before.3) fails

-- what stands in a front stands in the list
get_front : (xs : List (List ℕ)) (n k : ℕ) → k < n → slice_get (take n xs) k ≡ slice_get xs k
get_front xs zero k low = absurd (omega arith)
get_front [] (suc n) k low = refl
get_front (x ∷ xs) (suc n) zero low = refl
get_front (x ∷ xs) (suc n) (suc k) low = get_front xs n k (omega arith)

front_at : (xs ys : List (List ℕ)) (n k : ℕ) → k < n → take n xs ≡ ys → slice_get xs k ≡ slice_get ys k
front_at xs ys n k low is = sym (get_front xs n k low) ∙ ap (λ (zs : List (List ℕ)). slice_get zs k) is

-- where there are fewer bodies than deposits, they aren't those of all deposits
too_few : (begun : List Record) (bodies : List (List ℕ)) → length bodies < length begun
    → take (length begun) bodies ≡ spelled_each begun → ⊥
too_few begun bodies low alike =
    let one : length (take (length begun) bodies) ≡ length (spelled_each begun) = ap length alike in
    let two : length (spelled_each begun)
    ≡ length begun = length-map begun (λ (r : Record). batch_spelling (alone r)) in
    let three = length-take (length begun) bodies in
    omega (arith, one, two, three, low)

-- within a front that is alike no body differs
none_differs : (begun : List Record) (bodies : List (List ℕ)) (n k : ℕ) → k < n
    → take n bodies ≡ take n (spelled_each begun) → DiffersAt begun bodies k → ⊥
none_differs begun bodies n k low alike differs =
    differs.differs
    (sym (front_at bodies (take n (spelled_each begun)) n k low alike ∙ get_front (spelled_each begun) n k low)
    ∙ differs.there)

all_alike : (begun : List Record) (bodies : List (List ℕ)) → take (length begun) bodies ≡ spelled_each begun
    → take (length begun) bodies ≡ take (length begun) (spelled_each begun)
all_alike begun bodies alike =
    let count : length (spelled_each begun)
    ≡ length begun = length-map begun (λ (r : Record). batch_spelling (alone r)) in
    alike ∙ sym (take_all (length begun) (spelled_each begun) (omega (arith, count)))

-- bodies of a whole journal are nothing else
whole_only : (own : Station) (begun : List Record) (bodies : List (List ℕ)) (list : List Record)
    → SortsAs own begun bodies (Whole list) → (s : JournalSort) → SortsAs own begun bodies s → s ≡ Whole list
whole_only own begun bodies list whole (Whole l) is =
    ap Whole (taken_same own begun (drop (length begun) bodies) l list is.1 whole.1)
whole_only own begun bodies list whole (Begun l) is = absurd (too_few begun bodies is.0 whole.0)
whole_only own begun bodies list whole (Foreign k) (inl differs) =
    absurd (none_differs begun bodies (length begun) k differs.within (all_alike begun bodies whole.0) differs)
whole_only own begun bodies list whole (Foreign k) (inr (same, place, is, fails)) =
    absurd
    (none_fails own begun (drop (length begun) bodies) list fails.list place fails.body whole.1 fails.there
    fails.before fails.fails)

-- nor are those of some deposits
begun_only : (own : Station) (begun : List Record) (bodies : List (List ℕ)) (list : List Record)
    → SortsAs own begun bodies (Begun list) → (s : JournalSort) → SortsAs own begun bodies s → s ≡ Begun list
begun_only own begun bodies list some (Whole l) is = absurd (too_few begun bodies some.0 is.0)
begun_only own begun bodies list some (Begun l) is = ap Begun (is.2 ∙ sym some.2)
begun_only own begun bodies list some (Foreign k) (inl differs) =
    absurd
    (none_differs begun bodies (length bodies) k (within_place bodies k differs.body differs.there)
    (take_all (length bodies) bodies (omega arith) ∙ some.1) differs)
begun_only own begun bodies list some (Foreign k) (inr (alike, place, is, fails)) =
    absurd (too_few begun bodies some.0 alike)

-- nor does another body differ or fail first
first_differs : (begun : List Record) (bodies : List (List ℕ)) (k j : ℕ) → DiffersAt begun bodies k
    → DiffersAt begun bodies j → k ≡ j
first_differs begun bodies k j one other = elim (cases_order k j) [
  | inl same ↦ same
  | inr (inl before) ↦ absurd (none_differs begun bodies j k before other.before one)
  | inr (inr behind) ↦ absurd (none_differs begun bodies k j behind one.before other)
]

none_sooner : (own : Station) (js : List Record) (bodies : List (List ℕ)) (k j : ℕ) → k < j
    → FailsAt own js bodies k → FailsAt own js bodies j → ⊥
none_sooner own js bodies k j low one other =
    none_fails own js (take j bodies) other.list one.list k one.body other.before (get_front bodies j k low ∙ one.there)
    (subst (λ (bs : List (List ℕ)). AreTaken own js bs one.list) (sym (take-take k j bodies (omega (arith, low))))
    one.before) one.fails

first_fails : (own : Station) (js : List Record) (bodies : List (List ℕ)) (k j : ℕ) → FailsAt own js bodies k
    → FailsAt own js bodies j → k ≡ j
first_fails own js bodies k j one other = elim (cases_order k j) [
  | inl same ↦ same
  | inr (inl before) ↦ absurd (none_sooner own js bodies k j before one other)
  | inr (inr behind) ↦ absurd (none_sooner own js bodies j k behind other one)
]

foreign_only : (own : Station) (begun : List Record) (bodies : List (List ℕ)) (k j : ℕ)
    → SortsAs own begun bodies (Foreign k) → SortsAs own begun bodies (Foreign j) → k ≡ j
foreign_only own begun bodies k j (inl one) (inl other) = first_differs begun bodies k j one other
foreign_only own begun bodies k j (inl one) (inr other) =
    absurd (none_differs begun bodies (length begun) k one.within (all_alike begun bodies other.0) one)
foreign_only own begun bodies k j (inr one) (inl other) =
    absurd (none_differs begun bodies (length begun) j other.within (all_alike begun bodies one.0) other)
foreign_only own begun bodies k j (inr (alike, p, k_is, one)) (inr (same, q, j_is, other)) =
    k_is ∙ ap (λ (n : ℕ). length begun + n) (first_fails own begun (drop (length begun) bodies) p q one other)
    ∙ sym j_is

-- so bodies are sorted in one way
pub sorted_once : (own : Station) (begun : List Record) (bodies : List (List ℕ)) (one other : JournalSort)
    → SortsAs own begun bodies one → SortsAs own begun bodies other → one ≡ other
sorted_once own begun bodies (Whole list) other first second = sym (whole_only own begun bodies list first other second)
sorted_once own begun bodies (Begun list) other first second = sym (begun_only own begun bodies list first other second)
sorted_once own begun bodies (Foreign k) (Whole list) first second =
    whole_only own begun bodies list second (Foreign k) first
sorted_once own begun bodies (Foreign k) (Begun list) first second =
    begun_only own begun bodies list second (Foreign k) first
sorted_once own begun bodies (Foreign k) (Foreign j) first second =
    ap Foreign (foreign_only own begun bodies k j first second)

-- Bodies that are read as batches which stand behind one another are taken.

taken_batches : (own : Station) (js : List Record) (batches : List (List Record)) (bodies : List (List ℕ))
    → StandBehind own js batches → map decode_of bodies ≡ map (λ (b : List Record). Ok b) batches
    → AreTaken own js bodies (js ++ together batches)
taken_batches own js [] [] stand read = append-nil js
taken_batches own js [] (x ∷ xs) stand read = absurd cc
taken_batches own js (b ∷ bs) [] stand read = absurd cc
taken_batches own js (b ∷ bs) (x ∷ xs) stand read =
    let one : decode_of x ≡ Ok b = cc in
    let rest : map decode_of xs ≡ map (λ (c : List Record). Ok c) bs = cc in (
      b,
      one,
      stand.0,
      subst (AreTaken own (js ++ b) xs) (append_assoc js b (together bs))
          (taken_batches own (js ++ b) bs xs stand.1 rest),
    )

seam_front : (begun : List Record) (rest : List (List ℕ))
    → take (length begun) (spelled_each begun ++ rest) ≡ spelled_each begun
seam_front [] [] = refl
seam_front [] (x ∷ xs) = refl
seam_front (r ∷ rs) rest = ap (λ (bs : List (List ℕ)). batch_spelling (alone r) ∷ bs) (seam_front rs rest)

seam_back : (begun : List Record) (rest : List (List ℕ)) → drop (length begun) (spelled_each begun ++ rest) ≡ rest
seam_back [] [] = refl
seam_back [] (x ∷ xs) = refl
seam_back (r ∷ rs) rest = seam_back rs rest

-- so each journal is whole by its batches
pub journal_whole : (own : Station) (aus : List AuPlan) (copies : List Holding) (tick : ℕ) (journal : List Record)
    → IsJournalOf own (deposits aus copies) tick journal
    → (batches : List (List Record)) × (journal ≡ deposits aus copies ++ together batches)
    × ((bodies : List (List ℕ)) → map decode_of bodies ≡ map (λ (b : List Record). Ok b) batches
    → SortsAs own (deposits aus copies) (spelled_each (deposits aus copies) ++ bodies) (Whole journal))
journal_whole own aus copies tick journal is =
    let sorted = journal_sorted own aus copies tick journal is in
    let begun = deposits aus copies in (
      sorted.0,
      sorted.1,
      λ bodies read. (
        seam_front begun bodies,
        subst (λ (bs : List (List ℕ)). AreTaken own begun bs journal) (sym (seam_back begun bodies))
            (subst (AreTaken own begun bodies) (sym sorted.1) (taken_batches own begun sorted.0 bodies sorted.2 read)),
      ),
    )
