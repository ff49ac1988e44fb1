-- No disk has a fuse.
use Rattle.std.proofs.Common.{◌≡◌, ◌∙◌, ap, sym, suc, false, List, [], ◌∷◌, refl, ◌||◌}
use Rattle.std.specs.Prelude.{map}
use Rattle.std.specs.List.{list_any}
use Rattle.lks_disk.specs.Face.{Face}
use Rattle.lks_world.specs.Held.{AreFresh, AreUnfused}
use Rattle.lks_world.specs.Powers.{Power, power_of}

module _ {D : Type 0} (f : Face D) where
  one_more : (d : D) (ds : List D) → f.fused d ≡ false → AreUnfused f ds → AreUnfused f (d ∷ ds)
  one_more d ds first rest = (λ i. first i || list_any f.fused ds) ∙ rest

  of_map : (xs : List D) → list_any f.fused xs ≡ list_any (λ b. b) (map f.fused xs)
  of_map [] = refl
  of_map (x ∷ xs) = ap (λ b. f.fused x || b) (of_map xs)

  -- it is told by the fuses alone
  pub same_fuses : (xs ys : List D) → map f.fused ys ≡ map f.fused xs → AreUnfused f xs → AreUnfused f ys
  same_fuses xs ys same none = of_map ys ∙ ap (list_any (λ b. b)) same ∙ sym (of_map xs) ∙ none

  -- so it is by what is told of the power
  pub fuses_told : (xs ys : List D) → map (power_of f) ys ≡ map (power_of f) xs → map f.fused ys ≡ map f.fused xs
  fuses_told xs ys same = told ys ∙ ap (map (λ (p : Power). p.fused)) same ∙ sym (told xs)
    where
      told : (zs : List D) → map f.fused zs ≡ map (λ (p : Power). p.fused) (map (power_of f) zs)
      told [] = refl
      told (z ∷ zs) = ap (λ bs. f.fused z ∷ bs) (told zs)

  pub fresh_unfused : (disks : List D) → AreFresh f disks → AreUnfused f disks
  fresh_unfused [] fresh = refl
  fresh_unfused (d ∷ ds) fresh =
      one_more d ds (fresh 0 d refl).unfused (fresh_unfused ds (λ i e at. fresh (suc i) e at))
