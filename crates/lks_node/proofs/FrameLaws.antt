-- What bytes begin with.
use Rattle.std.proofs.Common.{◌≡◌, ℕ, Bool, true, false, List, [], ◌∷◌, ◌<◌, ◌≤◌, ap, arith, take, refl, if◌then◌else◌}
use Rattle.std.specs.Prelude.{nat_le, ◌&&◌, length}
use Rattle.std.specs.Int.{from_be_bytes, w32}
use Rattle.lks_node.specs.Framing.{frame_of, Ended, Broken, Whole}

not_ended : (b : Bool) (body rest : List ℕ) → (if b then Whole body rest else Broken) ≡ Ended → ⊥
not_ended true body rest e = cc
not_ended false body rest e = cc

-- nothing else is an end than no bytes
pub ended_none : (most : ℕ) (bytes : List ℕ) → frame_of most bytes ≡ Ended → bytes ≡ []
unfolding frame_of
ended_none most [] e = refl
ended_none most (a ∷ []) e = absurd cc
ended_none most (a ∷ b ∷ []) e = absurd cc
ended_none most (a ∷ b ∷ c ∷ []) e = absurd cc
ended_none most (a ∷ b ∷ c ∷ d ∷ rest) e =
    let size = from_be_bytes w32 (a ∷ b ∷ c ∷ d ∷ []) in
    absurd (not_ended (nat_le size most && nat_le size (length rest)) _ _ e)

-- where no first byte was read, there is none
pub short_none : (bytes more : List ℕ) → more ≡ take 1 bytes → length more < 1 → bytes ≡ []
short_none [] more e low = refl
short_none (b ∷ bytes) more e low = let one : length more ≡ 1 = ap length e in absurd (omega (arith, one, low))

pub long_some : (bytes more : List ℕ) → more ≡ take 1 bytes → 1 ≤ length more → bytes ≡ [] → ⊥
long_some [] more e high none = let zero : length more ≡ 0 = ap length e in omega (arith, zero, high)
long_some (b ∷ bytes) more e high none = cc
