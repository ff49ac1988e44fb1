use Rattle.std.proofs.Common.{◌≡◌, length}
use Rattle.std.specs.Prelude.{All, None}
use Rattle.lks_farm.proofs.piles.Pile.new.Given as goal

-- so many places are there, without a result
abbrev pub invariant-loop-place : goal.invariant-loop-place
invariant-loop-place g l = All (λ o. o ≡ None) l.done.items × (length l.done.items ≡ l._place)
