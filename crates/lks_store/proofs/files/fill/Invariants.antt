use Rattle.std.specs.Prelude.{◌≤◌, ◌-◌, length}
use Rattle.lks_store.proofs.files.fill.Given as goal

abbrev pub invariant-turns : goal.invariant-turns
invariant-turns l = l.done ≤ length l.buf

abbrev pub decreases-turns : goal.decreases-turns
decreases-turns l = length l.initial.buf - l.done
