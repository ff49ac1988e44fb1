use Rattle.std.proofs.Common.{◌≡◌, ◌-◌, ◌∙◌, ap, map, arith}
use Rattle.std.specs.List.{range_with_len}
use Rattle.lks_drill.specs.Drill.{peer_of, peers_of}
use Rattle.lks_drill.proofs.peers.peers.Goals as goal

pub returns : goal.returns
unfolding peers_of
returns c =
    let all : c.loop-id.id - 1 ≡ 12 = omega arith in
    c.from_vec.ensures ∙ c.loop-id.invariant.peers ∙ ap (λ n. map (peer_of c.args.seed) (range_with_len 1 n)) all
