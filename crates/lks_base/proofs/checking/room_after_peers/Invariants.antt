use Rattle.std.proofs.Common.{◌≡◌, ◌+◌, drop}
use Rattle.lks_base.specs.Checking.{bytes_of_peers}
use Rattle.lks_base.proofs.checking.room_after_peers.Given as goal

abbrev pub invariant-loop-peer : goal.invariant-loop-peer
invariant-loop-peer l = l.fn.room + bytes_of_peers (drop l.peer-index l.peers) ≡ l.room + bytes_of_peers l.peers
