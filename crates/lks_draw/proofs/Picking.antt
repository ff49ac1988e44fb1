-- What a loop that picks needs, and what is true of each pick.
use Rattle.std.proofs.Common.{◌%◌, ◌≡◌, ◌≢◌, ℕ, zero, suc, ◌+◌, ◌-◌, ◌<◌, ◌≤◌, ◌^◌, Bool, true, false, List, [], ◌∷◌}
use Rattle.std.proofs.Common.{◌++◌, length, get_or, refl, ap, sym, subst, ◌∙◌, append_assoc, add-one, arith, inl, inr}
use Rattle.std.specs.Prelude.{nat_le, if◌then◌else◌}
use Rattle.std.specs.List.{remove, All, AllPairs, Contains}
use Rattle.std.proofs.lemmas.Bool.{cases_lt}
use Rattle.std.proofs.lemmas.List.{get_or_default}
use Rattle.std.proofs.lemmas.List.Edits.{length-remove, get_or-remove_below, get_or-remove_above}
use Rattle.std.proofs.lemmas.List.Elements.{All-nil, All-cons, All-weaker, All-contains, All-take, All-drop}
use Rattle.std.proofs.lemmas.List.Elements.{All-append, All-from_get_or, All-contains_itself, Contains-get_or}
use Rattle.std.proofs.lemmas.List.Kept.{AllPairs-cons}
use Rattle.std.proofs.lemmas.List.Quantifiers.{all_pairs_remove}
use Rattle.std.proofs.Math.Nat.{mod-add-mod}
use Rattle.rand_chacha.specs.ChaCha.{word_at}
use Rattle.lks_draw.proofs.Places.{place_same, scaled_below, word_fits, word_moved}
use Rattle.lks_draw.specs.Words.{Drawn, words_of, place_after, draw_after, scaled_word}
use Rattle.lks_draw.specs.Picks.{members_taken, picked_members, IsPickOf}

-- one member more
pub taken_more : (words : ℕ → ℕ) (place : ℕ) (front list : List ℕ) (n m : ℕ) → n ≡ m + 1
    → front ++ members_taken words place list n
    ≡ (front ++ get_or list (scaled_word (words place) (length list)) 0 ∷ [])
    ++ members_taken words (place + 1) (remove list (scaled_word (words place) (length list))) m
taken_more words place front list n m is =
    ap (λ k. front ++ members_taken words place list k) (is ∙ add-one m)
    ∙ sym
    (append_assoc front (get_or list (scaled_word (words place) (length list)) 0 ∷ [])
    (members_taken words (place + 1) (remove list (scaled_word (words place) (length list))) m))

-- a list without one member has only members of the list
pub within_remove : (list : List ℕ) (i : ℕ) → All (Contains list) (remove list i)
within_remove list i =
    let whole = All-contains_itself list in
    All-append (Contains list) _ _ (All-take (Contains list) i list whole) (All-drop (Contains list) (suc i) list whole)

-- where no member stands twice, a member that is taken out is none of the rest
pub apart_from_rest : (list : List ℕ) (i : ℕ) → i < length list → AllPairs ◌≢◌ list
    → All (λ y. get_or list i 0 ≢ y) (remove list i)
apart_from_rest list i within once =
    All-from_get_or (λ y. get_or list i 0 ≢ y) (remove list i) 0 (λ k h.
    elim (cases_lt k i) [
      | inl below ↦ λ same. once k i 0 below within (sym (same ∙ get_or-remove_below list i 0 k below within))
      | inr above
          ↦ λ same. once i (k + 1) 0 (omega arith) (omega (arith, length-remove list i within))
          (same ∙ get_or-remove_above list i 0 k above within)
    ])

taken_length : (words : ℕ → ℕ) (place : ℕ) (list : List ℕ) (n : ℕ) → length (members_taken words place list n) ≡ n
taken_length words place list zero = refl
taken_length words place list (suc n) = ap suc (taken_length words (place + 1) _ n)

-- a word finds a place in a list that has one
found : (words : ℕ → ℕ) → ((p : ℕ) → words p < 2 ^ 32) → (place : ℕ) (list : List ℕ) (n : ℕ) → suc n ≤ length list
    → scaled_word (words place) (length list) < length list
found words fits place list n enough = scaled_below (words place) (length list) (fits place) (omega arith)

taken_members : (words : ℕ → ℕ) → ((p : ℕ) → words p < 2 ^ 32) → (place : ℕ) (list : List ℕ) (n : ℕ) → n ≤ length list
    → All (Contains list) (members_taken words place list n)
taken_members words fits place list zero enough = All-nil (Contains list)
taken_members words fits place list (suc n) enough =
    let i = scaled_word (words place) (length list) in
    let within : i < length list = found words fits place list n enough in
    let rest = remove list i in
    All-cons (Contains list) _ _ (Contains-get_or list i 0 within)
    (All-weaker (Contains rest) (Contains list)
    (λ x here. All-contains (Contains list) rest x (within_remove list i) here) _
    (taken_members words fits (place + 1) rest n (omega (arith, length-remove list i within))))

taken_once : (words : ℕ → ℕ) → ((p : ℕ) → words p < 2 ^ 32) → (place : ℕ) (list : List ℕ) (n : ℕ) → n ≤ length list
    → AllPairs ◌≢◌ list → AllPairs ◌≢◌ (members_taken words place list n)
taken_once words fits place list zero enough once = λ i j d before within. absurd (omega arith)
taken_once words fits place list (suc n) enough once =
    let i = scaled_word (words place) (length list) in
    let within : i < length list = found words fits place list n enough in
    let rest = remove list i in
    let room : n ≤ length rest = omega (arith, length-remove list i within) in
    AllPairs-cons ◌≢◌ _ _
    (All-weaker (Contains rest) (λ y. get_or list i 0 ≢ y)
    (λ x here. All-contains (λ y. get_or list i 0 ≢ y) rest x (apart_from_rest list i within once) here) _
    (taken_members words fits (place + 1) rest n room))
    (taken_once words fits (place + 1) rest n room (all_pairs_remove ◌≢◌ list i within once))

-- what is true of each pick
pub pick_law : (words : ℕ → ℕ) → ((p : ℕ) → words p < 2 ^ 32) → (place : ℕ) (list : List ℕ) (n : ℕ)
    → IsPickOf list n (picked_members words place list n)
unfolding picked_members
pick_law words fits place list n = by_test (nat_le (length list) n) refl where
  by_test : (b : Bool) → nat_le (length list) n ≡ b
      → IsPickOf list n (if b then list else members_taken words place list n)
  by_test true few = record { count = grind arith; members = All-contains_itself list; once = λ once. once }
  by_test false many =
      let enough : n ≤ length list = grind arith in
      record {
        count = taken_length words place list n ∙ omega arith;
        members = taken_members words fits place list n enough;
        once = taken_once words fits place list n enough;
      }

-- a list that is picked by the words of a key
pub IsPickOf-by_key : (key : List ℕ) (place : ℕ) (list : List ℕ) (n : ℕ) (result : List ℕ)
    → result ≡ picked_members (words_of key) place list n → IsPickOf list n result
IsPickOf-by_key key place list n result is =
    subst (IsPickOf list n) (sym is) (pick_law (words_of key) (word_fits key) place list n)

-- a turn of the loop that picks: the member at the drawn place is put behind those in front
pub picked_one : (d s : Drawn) (i n at member : ℕ) (front list front2 list2 all : List ℕ)
    → s ≡ draw_after d i → i < n → at ≡ scaled_word (words_of s.key s.place) (length list)
    → member ≡ get_or list at member → at < length list
    → front2 ≡ front ++ member ∷ [] → list2 ≡ remove list at
    → front ++ members_taken (words_of d.key) (d.place + i) list (n - i) ≡ all
    → front2 ++ members_taken (words_of d.key) (d.place + (i + 1)) list2 (n - (i + 1)) ≡ all
picked_one d s i n at member front list front2 list2 all s_is more at_is member_is within front_is list_is before =
    let words = words_of d.key in
    let drawn : at ≡ scaled_word (words (d.place + i)) (length list) =
    at_is ∙ ap (λ w. scaled_word w (length list)) (ap (λ s. words_of s.key s.place) s_is ∙ word_moved d i) in
    let first : member ≡ get_or list at 0 = member_is ∙ get_or_default list at member 0 within in
    let fronts : front2 ≡ front ++ get_or list (scaled_word (words (d.place + i)) (length list)) 0 ∷ [] =
    front_is ∙ ap (λ x. front ++ x ∷ []) (first ∙ ap (λ k. get_or list k 0) drawn) in
    let lists : list2 ≡ remove list (scaled_word (words (d.place + i)) (length list)) = list_is
    ∙ ap (remove list) drawn in
    let places : d.place + (i + 1) ≡ d.place + i + 1 = omega arith in
    rw (fronts, lists, places)
    (sym (taken_more words (d.place + i) front list (n - i) (n - (i + 1)) (omega arith)) ∙ before)

-- words that are some way on in a stream pick as from there
taken_same : (key : List ℕ) (p q : ℕ) (list : List ℕ) (n : ℕ) → p % 2 ^ 68 ≡ q % 2 ^ 68
    → members_taken (words_of key) p list n ≡ members_taken (words_of key) q list n
unfolding words_of
taken_same key p q list zero same = refl
taken_same key p q list (suc n) same =
    let at : ℕ → ℕ = λ place. scaled_word (words_of key place) (length list) in
    let words : at p ≡ at q = ap (λ place. scaled_word (word_at 10 key 0 place) (length list)) same in
    let on : (p + 1) % 2 ^ 68 ≡ (q + 1) % 2 ^ 68 =
    sym (mod-add-mod p (2 ^ 68) 1) ∙ ap (λ r. (r + 1) % 2 ^ 68) same ∙ mod-add-mod q (2 ^ 68) 1 in
    ap (λ i. get_or list i 0 ∷ members_taken (words_of key) (p + 1) (remove list i) n) words
    ∙ ap (λ rest. get_or list (at q) 0 ∷ rest) (taken_same key (p + 1) (q + 1) (remove list (at q)) n on)

-- what a draw picks that has come some words on
pub picked_moved : (d : Drawn) (words : ℕ) (list : List ℕ) (n : ℕ)
    → picked_members (words_of (draw_after d words).key) (draw_after d words).place list n
    ≡ picked_members (words_of d.key) (d.place + words) list n
unfolding picked_members
picked_moved d words list n =
    ap (λ out. if nat_le (length list) n then list else out)
    (taken_same d.key (place_after d.place words) (d.place + words) list n (place_same d.place words))
