-- Marks of peers: of the first that has a peer, and of one more.
use Rattle.std.proofs.Common.{◌≡◌, ◌<◌, ◌∙◌, ap, sym, ℕ, zero, suc, Bool, true, false, cond, not, ltb, List, [], ◌∷◌}
use Rattle.std.proofs.Common.{◌++◌, get_or, refl, length, ◌+◌, arith}
use Rattle.std.specs.Prelude.{Some, None, ◌==◌, find, slice_set, unwrap_or}
use Rattle.std.specs.List.{list_all, position, position_or_len}
use Rattle.std.proofs.lemmas.Bool.{and_parts, ltb-true, ltb-false, le-ltb}
use Rattle.std.proofs.lemmas.List.Quantifiers.{position-Some}
use Rattle.lks_law.specs.Fitting.{most_numbered, has_mark_left}
use Rattle.lks_law.specs.Taking.{Mark, mark_at, mark_put}

above : (b : Bool) (k : ℕ) → cond b (Some k) None ≡ None → b ≡ false
above true k e = absurd cc
above false k e = refl

module _ (m : Mark) where
  set_there : (ms : List Mark) (i : ℕ) (d : Mark) → i < length ms → ((get_or ms i d).peer == m.peer) ≡ true
      → ((k : ℕ) → k < i → ((get_or ms k d).peer == m.peer) ≡ false) → slice_set ms i m ≡ mark_put m ms
  set_there [] i d low here before = absurd (omega (arith, low))
  set_there (x ∷ ms) zero d low here before = sym (ap (λ b. cond b (m ∷ ms) (x ∷ mark_put m ms)) here)
  set_there (x ∷ ms) (suc i) d low here before =
      ap (λ xs. x ∷ xs) (set_there ms i d (omega (arith, low)) here (λ k lower. before (suc k) (omega (arith, lower))))
      ∙ sym (ap (λ b. cond b (m ∷ ms) (x ∷ mark_put m ms)) (before zero (omega arith)))

  last_by : (x : Mark) (ms : List Mark) (b : Bool) (k : ℕ) → ltb (cond (not b) (1 + k) 0) (suc (length ms)) ≡ false
      → (ltb k (length ms) ≡ false → ms ++ m ∷ [] ≡ mark_put m ms)
      → x ∷ ms ++ m ∷ [] ≡ cond b (m ∷ ms) (x ∷ mark_put m ms)
  last_by x ms true k high rest = absurd (let no = ltb-false 0 (suc (length ms)) high in omega (arith, no))
  last_by x ms false k high rest =
      let over = ltb-false (1 + k) (suc (length ms)) high in
      ap (λ xs. x ∷ xs) (rest (le-ltb k (length ms) (omega (arith, over))))

  at_end : (ms : List Mark) → ltb (position_or_len (λ (x : Mark). x.peer == m.peer) ms) (length ms) ≡ false
      → ms ++ m ∷ [] ≡ mark_put m ms
  at_end [] high = refl
  at_end (x ∷ ms) high =
      last_by x ms (x.peer == m.peer) (position_or_len (λ (x : Mark). x.peer == m.peer) ms) high
      (λ rest. at_end ms rest)

  pub put_there : (ms : List Mark) (i : ℕ) → position (λ (x : Mark). x.peer == m.peer) ms ≡ Some i
      → slice_set ms i m ≡ mark_put m ms
  put_there ms i at =
      let facts = position-Some (λ (x : Mark). x.peer == m.peer) ms i m at in
      set_there ms i m facts.0 facts.1 facts.2

  pub put_last : (ms : List Mark) → position (λ (x : Mark). x.peer == m.peer) ms ≡ None → ms ++ m ∷ [] ≡ mark_put m ms
  put_last ms e =
      at_end ms
      (above (ltb (position_or_len (λ (x : Mark). x.peer == m.peer) ms) (length ms))
      (position_or_len (λ (x : Mark). x.peer == m.peer) ms) e)

-- where a vote more of each peer can be counted, one of any can
grows_at : (f : ℕ) (ms : List Mark) → list_all has_mark_left ms ≡ true → has_mark_left (mark_at f ms) ≡ true
grows_at f [] left = refl
grows_at f (m ∷ ms) left = let parts = and_parts _ _ left in by_peer (m.peer == f) parts.0 (grows_at f ms parts.1)
  where
    by_peer : (b : Bool) → has_mark_left m ≡ true → has_mark_left (mark_at f ms) ≡ true
        → has_mark_left
        (unwrap_or (cond b (Some m) (find (λ (x : Mark). x.peer == f) ms))
        (record { peer = f; received = 0; given = 0 }))
        ≡ true
    by_peer true here rest = here
    by_peer false here rest = rest

pub received_left : (f : ℕ) (ms : List Mark) → list_all has_mark_left ms ≡ true
    → (mark_at f ms).received < most_numbered
received_left f ms left = let parts = and_parts _ _ (grows_at f ms left) in ltb-true _ _ parts.0

pub given_left : (f : ℕ) (ms : List Mark) → list_all has_mark_left ms ≡ true → (mark_at f ms).given < most_numbered
given_left f ms left = let parts = and_parts _ _ (grows_at f ms left) in ltb-true _ _ parts.1
