use Rattle.std.proofs.Common.{◌≡◌, ◌≤◌, ◌-◌, ℕ, List, Some, vec_len}
use Rattle.lks_node.proofs.HowFar.{HasRead}
use Rattle.lks_node.proofs.frames.read_upto.Given as goal

abbrev pub invariant-turns : goal.invariant-turns
invariant-turns g l = record {
  within : vec_len l.out ≤ l.most;
  read : (bytes : List ℕ) → g.S.Source.left l.fn.source ≡ Some bytes
      → HasRead l.out.items bytes (g.S.Source.left l.source);
  count : g.S.Source.faults l.fn.source ≤ g.S.Source.faults l.source;
}

abbrev pub decreases-turns : goal.decreases-turns
decreases-turns g l = l.most - vec_len l.out
