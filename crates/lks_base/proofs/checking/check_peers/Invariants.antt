use Rattle.std.proofs.Common.{◌≡◌, [], take, drop}
use Rattle.lks_base.specs.Checking.{each, peer_fault}
use Rattle.lks_base.proofs.checking.check_peers.Given as goal

abbrev pub invariant-loop-i : goal.invariant-loop-i
invariant-loop-i l =
    each (peer_fault l.aus l.peers) (take l.i l.peers) (drop l.i l.peers)
    ≡ each (peer_fault l.aus l.peers) [] l.peers
