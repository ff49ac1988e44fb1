-- Words that are read one after another, as a loop does.
use Rattle.std.proofs.Common.{◌≡◌, ℕ, ◌+◌, ◌≤◌, ◌<◌, List, [], ◌∷◌, ◌++◌, length, get_or, drop, map, Option, Some}
use Rattle.std.proofs.Common.{None, Err, refl, sym, ap, ◌∙◌, append_assoc, arith}
use Rattle.std.proofs.lemmas.List.{append-nil, drop_more, drop_all, length-map}
use Rattle.std.proofs.Math.ListN.{get_or-map}
use Rattle.std.specs.Option.{option_map}
use Rattle.lks_words.specs.Numbers.{◌>>=◌}
use Rattle.lks_words.specs.Words.{Gives, each_in}
use Rattle.lks_words.specs.declared.stops.Stop.{Stop}
use Rattle.lks_words.specs.declared.stops.Stop.TheVariants.{Bad, Memory}

-- what was read before, and what is still read
abbrev pub with_front : {X : Type 0} → List X → Option (List X) → Option (List X)
with_front front read = option_map (λ xs. front ++ xs) read

module _ {X Y : Type 0} (said : List ℕ → Option X) (see : Y → List ℕ) where
  regroup : (front : List X) (x : X) (read : Option (List X))
      → with_front front (read >>= λ xs. Some (x ∷ xs)) ≡ with_front (front ++ x ∷ []) read
  regroup front x (Some xs) = ap Some (sym (append_assoc front (x ∷ []) xs))
  regroup front x None = refl

  goes : (front : List X) (word : List ℕ) (words : List (List ℕ)) (x : X) → said word ≡ Some x
      → with_front front (each_in said (word ∷ words)) ≡ with_front (front ++ x ∷ []) (each_in said words)
  unfolding each_in
  goes front word words x h = rw h (regroup front x (each_in said words))

  stop : (front : List X) (word : List ℕ) (words : List (List ℕ)) → said word ≡ None
      → with_front front (each_in said (word ∷ words)) ≡ None
  unfolding each_in
  stop front word words h = rw h refl

  -- the words from this one on
  split : (items : List Y) (i : ℕ) (d : Y) → i < length items
      → drop i (map see items) ≡ see (get_or items i d) ∷ drop (i + 1) (map see items)
  split items i d lt =
      drop_more (map see items) i (see d) (omega (arith, length-map items see))
      ∙ ap (λ (w : List ℕ). w ∷ drop (i + 1) (map see items)) (get_or-map see items i d)

  pub goes_on : (front : List X) (items : List Y) (i : ℕ) (x : X) (d : Y) (total : Option (List X))
      → i < length items → said (see (get_or items i d)) ≡ Some x
      → with_front front (each_in said (drop i (map see items))) ≡ total
      → with_front (front ++ x ∷ []) (each_in said (drop (i + 1) (map see items))) ≡ total
  goes_on front items i x d total lt h so_far =
      sym (goes front (see (get_or items i d)) (drop (i + 1) (map see items)) x h)
      ∙ sym (ap (λ (ws : List (List ℕ)). with_front front (each_in said ws)) (split items i d lt)) ∙ so_far

  pub stops : (e : Stop) (front : List X) (items : List Y) (i : ℕ) (d : Y) (total : Option (List X))
      → i < length items → Gives {X = X} (Err e) (said (see (get_or items i d)))
      → with_front front (each_in said (drop i (map see items))) ≡ total → Gives {X = List X} (Err e) total
  stops Bad front items i d total lt h so_far =
      sym so_far ∙ ap (λ (ws : List (List ℕ)). with_front front (each_in said ws)) (split items i d lt)
      ∙ stop front (see (get_or items i d)) (drop (i + 1) (map see items)) h
  stops Memory front items i d total lt h so_far = tt

  pub is_done : (front : List X) (items : List Y) (i : ℕ) (total : Option (List X)) → length items ≤ i
      → with_front front (each_in said (drop i (map see items))) ≡ total → total ≡ Some front
  unfolding each_in
  is_done front items i total le so_far =
      sym so_far ∙ rw (drop_all i (map see items) (omega (arith, length-map items see))) (ap Some (append-nil front))
