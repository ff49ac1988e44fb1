-- Sessions that stay of their pool, and those that are found.
use Rattle.std.proofs.Common.{◌≡◌, sym, subst, ℕ, List}
use Rattle.std.specs.Prelude.{All}
use Rattle.lks_sessions.specs.Kept.{Kept, IsPinnedOf, IsCastOf, IsOf, StaysOf}

module _ (old new : Kept) where
  pub of_same : new.pinned ≡ old.pinned → new.cast ≡ old.cast → StaysOf old new
  unfolding StaysOf
  of_same pinned cast =
      λ pool of.
      record {
        pinned = subst (All (IsPinnedOf pool)) (sym pinned) of.pinned;
        cast = subst (All (IsCastOf pool)) (sym cast) of.cast;
      }

  pub of_served : new.pinned ≡ old.pinned
      → ((pool : List ℕ) → All (IsCastOf pool) old.cast → All (IsCastOf pool) new.cast) → StaysOf old new
  unfolding StaysOf
  of_served pinned cast =
      λ pool of. record { pinned = subst (All (IsPinnedOf pool)) (sym pinned) of.pinned; cast = cast pool of.cast }

  pub of_moved : ((pool : List ℕ) → All (IsPinnedOf pool) old.pinned → All (IsPinnedOf pool) new.pinned)
      → ((pool : List ℕ) → All (IsCastOf pool) old.cast → All (IsCastOf pool) new.cast) → StaysOf old new
  unfolding StaysOf
  of_moved pinned cast = λ pool of. record { pinned = pinned pool of.pinned; cast = cast pool of.cast }

  pub of_cast : ((pool : List ℕ) → All (IsPinnedOf pool) old.pinned → All (IsCastOf pool) old.cast
      → All (IsPinnedOf pool) new.pinned × All (IsCastOf pool) new.cast)
      → StaysOf old new
  unfolding StaysOf
  of_cast both = λ pool of. record { pinned = (both pool of.pinned of.cast).0; cast = (both pool of.pinned of.cast).1 }

-- what stays of each pool stays of this one
pub stays_of : (pool : List ℕ) (old new : Kept) → StaysOf old new → IsOf pool old → IsOf pool new
unfolding StaysOf
stays_of pool old new stays of = stays pool of
