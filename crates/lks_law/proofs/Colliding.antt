-- Running hashes that are the same.
use Rattle.std.proofs.Common.{◌≡◌, ◌≢◌, ◌∙◌, ◌⊎◌, inl, inr, sym, ℕ, suc, Bool, true, false, eqb, List, [], ◌∷◌, ◌++◌}
use Rattle.std.proofs.Common.{length, refl, arith}
use Rattle.std.specs.Cmp.Lexicographic.{pointwise, bytes_decides}
use Rattle.lks_hash.specs.Hashes.{hash_of}
use Rattle.lks_hash.specs.Running.{linked, running}
use Rattle.lks_law.specs.Snapshots.{IsInput, Collision}
use Rattle.lks_law.proofs.Knowing.{hash_length}

apart_texts : (xs ys : List ℕ) → pointwise eqb xs ys ≡ false → xs ≢ ys
apart_texts xs ys e same = let both = sym ((bytes_decides xs ys).1 same) ∙ e in absurd cc

pieces : (k l x y : List ℕ) → length k ≡ length l → k ++ x ≡ l ++ y → (k ≡ l) × (x ≡ y)
pieces [] [] x y len e = (refl, e)
pieces [] (m ∷ l) x y len e = absurd (omega arith)
pieces (n ∷ k) [] x y len e = absurd (omega arith)
pieces (n ∷ k) (m ∷ l) x y len e =
    let heads : n ≡ m = cc in
    let tails : k ++ x ≡ l ++ y = cc in
    let rest = pieces k l x y (omega arith) tails in
    ((λ i. heads i ∷ rest.0 i), rest.1)

-- the same, of two keys
record Twins (second : Bool) (key : List ℕ) (one : List (List ℕ)) (like : List ℕ) (other : List (List ℕ)) : Type 0 where
  text : List ℕ
  twin : List ℕ
  of_one : IsInput second key one text
  of_other : IsInput second like other twin
  differ : text ≢ twin
  same : hash_of second text ≡ hash_of second twin

input_later : (second : Bool) (key x : List ℕ) (xs : List (List ℕ)) (text : List ℕ)
    → IsInput second (linked second key x) xs text → IsInput second key (x ∷ xs) text
input_later second key x xs text is = record { place = suc is.place; block = is.block; there = is.there; is = is.is }

running_apart : (second : Bool) (k : List ℕ) (xs : List (List ℕ)) (l : List ℕ) (ys : List (List ℕ))
    → length k ≡ length l → length xs ≡ length ys → running second k xs ≡ running second l ys
    → ((k ≡ l) × (xs ≡ ys)) ⊎ Twins second k xs l ys
running_apart second k [] l [] key len e = inl (e, refl)
running_apart second k [] l (y ∷ ys) key len e = absurd (omega arith)
running_apart second k (x ∷ xs) l [] key len e = absurd (omega arith)
running_apart second k (x ∷ xs) l (y ∷ ys) key len e =
    elim (running_apart second (linked second k x) xs _ ys
    (hash_length second _ ∙ sym (hash_length second _)) (omega arith) e) [
      | inr twins ↦ inr (record {
        text = twins.text;
        twin = twins.twin;
        of_one = input_later second k x xs twins.text twins.of_one;
        of_other = input_later second l y ys twins.twin twins.of_other;
        differ = twins.differ;
        same = twins.same;
      })
      | inl same ↦ by_text _ refl same.0 same.1
    ]
  where
    by_text : (b : Bool) → pointwise eqb (k ++ x) (l ++ y) ≡ b → linked second k x ≡ linked second l y → xs ≡ ys
        → ((k ≡ l) × (x ∷ xs ≡ y ∷ ys)) ⊎ Twins second k (x ∷ xs) l (y ∷ ys)
    by_text true is hashes rest =
        let parts = pieces k l x y key ((bytes_decides _ _).0 is) in
        inl (parts.0, λ i. parts.1 i ∷ rest i)
    by_text false is hashes rest =
        inr (record {
          text = k ++ x;
          twin = l ++ y;
          of_one = record { place = 0; block = x; there = refl; is = refl };
          of_other = record { place = 0; block = y; there = refl; is = refl };
          differ = apart_texts _ _ is;
          same = hashes;
        })

-- running hashes that are the same are over the same blocks, or there is a collision
pub same_or_collide : (second : Bool) (key : List ℕ) (xs ys : List (List ℕ)) → length xs ≡ length ys
    → running second key xs ≡ running second key ys → (xs ≡ ys) ⊎ Collision second key xs ys
same_or_collide second key xs ys len e = elim (running_apart second key xs key ys refl len e) [
  | inl same ↦ inl same.1
  | inr twins
      ↦ inr
      (record {
        text = twins.text;
        twin = twins.twin;
        of_one = twins.of_one;
        of_other = twins.of_other;
        differ = twins.differ;
        same = twins.same;
      })
]
