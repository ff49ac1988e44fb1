use Rattle.std.proofs.Common.{◌≡◌, ◌-◌, ◌*◌, map}
use Rattle.std.specs.List.{range_with_len}
use Rattle.lks_drill.specs.Drill.{peer_of, draw_of, draw_before}
use Rattle.lks_drill.proofs.peers.peers.Given as goal

abbrev pub invariant-loop-id : goal.invariant-loop-id
invariant-loop-id l = record {
  peers : l.peers.items ≡ map (peer_of l.seed) (range_with_len 1 (l.id - 1));
  draws : l.draws ≡ draw_before (draw_of l.seed) (2 * (l.id - 1));
}
