-- How many records of a kind there are.
use Rattle.std.proofs.Common.{◌≡◌, ◌∙◌, ◌+◌, ◌*◌, ◌^◌, ◌<◌, ◌≤◌, subst, ℕ, cond, List, [], ◌∷◌, length, drop, get_or}
use Rattle.std.proofs.Common.{refl, ap, sym, arith, add-one, drop-cons}
use Rattle.std.specs.Prelude.{Option, Some, None, count_by, is_some}
use Rattle.std.specs.List.{filter_map, cons_option}
use Rattle.std.proofs.lemmas.List.Sums.{sum_by-cons}
use Rattle.std.proofs.lemmas.List.Elements.{All-get_or}
use Rattle.std.proofs.Math.ListN.{drop_of_length-le}
use Rattle.lks_base.specs.declared.records.Record.{Record}
use Rattle.lks_law.specs.Journal.{replacement_in, replacements}
use Rattle.lks_evidence.specs.declared.findings.Shelf.{Shelf}
use Rattle.lks_evidence.specs.Records.{version_now, repairs}
use Rattle.lks_evidence.specs.Search.{all_repairs}
use Rattle.lks_evidence.specs.Sizes.{most_records, IsShort, IsSmall}

one_more : {Y : Type 0} (o : Option Y) (ys : List Y) → length (cons_option o ys) ≡ cond (is_some o) 1 0 + length ys
one_more None ys = omega arith
one_more (Some y) ys = omega arith

-- as many have something as pass the test whether they have
pub counted : {X Y : Type 0} (f : X → Option Y) (xs : List X)
    → length (filter_map f xs) ≡ count_by (λ x. is_some (f x)) xs
counted f [] = refl
counted f (x ∷ xs) =
    one_more (f x) (filter_map f xs) ∙ ap (λ n. cond (is_some (f x)) 1 0 + n) (counted f xs)
    ∙ sym (sum_by-cons (λ y. cond (is_some (f y)) 1 0) x xs)

pub version_count : (au : ℕ) (journal : List Record) → length (replacements au journal) ≡ version_now au journal
unfolding version_now
version_count au journal = counted (replacement_in au) journal

pub drop_next : {X : Type 0} (xs : List X) (i : ℕ) (x : X) → i < length xs → x ≡ get_or xs i x
    → drop i xs ≡ x ∷ drop (i + 1) xs
drop_next xs i x within at =
    drop-cons xs i x within ∙ (λ k. sym at k ∷ drop (sym (add-one i) k) xs)

-- one journal more keeps the count of repairs in its bounds
pub fits_more : (set : List Shelf) (i m n : ℕ) (s : Shelf) (items : List Record) → IsSmall set → i < length set
    → s ≡ get_or set i s → items ≡ s.list.items
    → n ≤ length items → m ≤ most_records * i → (n < 2 ^ 32) × (m + n < 2 ^ 32) × (m + n ≤ most_records * (i + 1))
unfolding most_records
fits_more set i m n s items small within at same few sum =
    let long : length (get_or set i s).list.items ≤ 100000000 = All-get_or IsShort set i s within small.short in
    let short : length items
    ≤ 100000000 = rw same (subst (λ (t : Shelf). length t.list.items ≤ 100000000) (sym at) long) in
    let shelves = small.few in
    (omega (arith, short, few), omega (arith, short, few, sum, shelves, within), omega (arith, short, few, sum))

pub repairs_more : (set : List Shelf) (i m n : ℕ) (s : Shelf) (items : List Record) → i < length set
    → s ≡ get_or set i s → items ≡ s.list.items
    → n ≡ repairs items → m + all_repairs (drop i set) ≡ all_repairs set
    → m + n + all_repairs (drop (i + 1) set) ≡ all_repairs set
unfolding all_repairs
repairs_more set i m n s items within at same counted sum =
    let next = ap all_repairs (drop_next set i s within at) in
    let own = counted ∙ ap repairs same in
    omega (arith, next, own, sum)

pub repairs_all : (set : List Shelf) (i m : ℕ) → length set ≤ i → m + all_repairs (drop i set) ≡ all_repairs set
    → m ≡ all_repairs set
unfolding all_repairs
repairs_all set i m past sum =
    let none = ap all_repairs (drop_of_length-le set past) in
    omega (arith, none, sum)
