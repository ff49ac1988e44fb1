-- No block is served twice.
use Rattle.std.proofs.Common.{◌≡◌, ℕ, false, ◌||◌, List, [], ◌∷◌, ◌++◌, refl, ◌∙◌}
use Rattle.std.specs.Prelude.{nat_eq}
use Rattle.std.specs.Cmp.{nat_eq_equiv}
use Rattle.std.specs.List.{list_any, IsDistinct}
use Rattle.std.proofs.lemmas.Map.Keys.{IsDistinct-push}
use Rattle.lks_base.specs.Checking.{has_member}

any_is : (bs : List ℕ) (b : ℕ) → list_any (nat_eq b) bs ≡ has_member bs b
unfolding has_member
any_is [] b = refl
any_is (c ∷ cs) b = λ i. nat_eq_equiv.symm b c i || any_is cs b i

-- a block that wasn't served goes behind those that were
pub distinct_more : (bs : List ℕ) (b : ℕ) → IsDistinct nat_eq bs → has_member bs b ≡ false
    → IsDistinct nat_eq (bs ++ b ∷ [])
distinct_more bs b distinct new = IsDistinct-push nat_eq_equiv bs b distinct (any_is bs b ∙ new)

pub none_twice : IsDistinct nat_eq []
unfolding IsDistinct
none_twice = tt
