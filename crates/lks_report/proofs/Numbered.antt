-- What a loop over numbered elements has written.
use Rattle.std.proofs.Common.{◌≡◌, ℕ, ◌+◌, ◌<◌, ◌≤◌, List, ◌++◌, length, take, get_or}
use Rattle.std.specs.List.{flat_map, enumerate_from}
use Rattle.std.proofs.lemmas.List.{take_more, take_all, flat_map_more}
use Rattle.std.proofs.lemmas.List.FromFn.{length-enumerate_from, get_or-enumerate_from}

-- the texts of these elements, numbered from a
abbrev pub written : {X : Type 0} → (ℕ → X → List ℕ) → List (ℕ × X) → List ℕ
written text numbered = flat_map (λ n. text n.0 n.1) numbered

-- one more element
pub written_more : {X : Type 0} (text : ℕ → X → List ℕ) (front old new : List ℕ) (a i n : ℕ) (xs : List X) (x : X)
    → i < length xs → x ≡ get_or xs i x → a + i ≡ n
    → old ≡ front ++ written text (take i (enumerate_from a xs)) → new ≡ old ++ text n x
    → new ≡ front ++ written text (take (i + 1) (enumerate_from a xs))
written_more text front old new a i n xs x within is number so_far now =
    let inside : i < length (enumerate_from a xs) = rw (length-enumerate_from a xs) within in
    let more = take_more (enumerate_from a xs) i (a, x) inside in
    let item : get_or (enumerate_from a xs) i (a, x)
    ≡ (n, x) = rw (get_or-enumerate_from a xs i (a, x) within, number, ← is) in
    rw (now, so_far, more, item) (flat_map_more (λ m. text m.0 m.1) front (take i (enumerate_from a xs)) (n, x))

-- at the end
pub written_all : {X : Type 0} (text : ℕ → X → List ℕ) (front old : List ℕ) (a i : ℕ) (xs : List X)
    → length xs ≤ i → old ≡ front ++ written text (take i (enumerate_from a xs))
    → old ≡ front ++ written text (enumerate_from a xs)
written_all text front old a i xs end so_far =
    let past : length (enumerate_from a xs) ≤ i = rw (length-enumerate_from a xs) end in
    rw (take_all i (enumerate_from a xs) past) at so_far
