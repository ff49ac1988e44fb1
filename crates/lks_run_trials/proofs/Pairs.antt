-- A session can be committed to two blocks.
use Rattle.std.proofs.Common.{◌≡◌, ◌≤◌, sym, subst, ℕ, List, [], ◌∷◌, length, arith}
use Rattle.std.proofs.lemmas.List.Elements.{All-nil, All-cons}
use Rattle.lks_base.specs.declared.limits.TheConstants.{MOST_BLOCK_BYTES}
use Rattle.lks_law.specs.Fitting.{AreWell}
use Rattle.lks_run_trials.specs.Pair.{pair}

abbrev IsShort : List ℕ → Type 0
IsShort bytes = length bytes ≤ MOST_BLOCK_BYTES

pub pair_pins : (blocks : List (List ℕ)) → blocks ≡ pair → AreWell blocks
pair_pins blocks is =
    subst AreWell (sym is) (
      (omega arith, omega arith),
      All-cons IsShort (65 ∷ []) ((66 ∷ []) ∷ []) (omega arith)
          (All-cons IsShort (66 ∷ []) [] (omega arith) (All-nil IsShort)),
    )
