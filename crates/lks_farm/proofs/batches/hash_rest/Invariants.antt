use Rattle.std.proofs.Common.{◌≡◌, ◌-◌}
use Rattle.lks_farm.proofs.batches.hash_rest.Given as goal

-- so many jobs are left
abbrev pub invariant-loop-turn : goal.invariant-loop-turn
invariant-loop-turn g l = l.pile ≡ l.initial.pile - l._turn
