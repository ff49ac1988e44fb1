use Rattle.std.proofs.Common.{◌≡◌, ◌++◌, take, string_bytes}
use Rattle.std.specs.List.{flat_map}
use Rattle.lks_report.specs.Text.{peer_copies}
use Rattle.lks_report.proofs.lines.put_copies.Given as goal

abbrev pub invariant-loop-peer : goal.invariant-loop-peer
invariant-loop-peer l =
    string_bytes l.out
    ≡ string_bytes l.initial.out ++ flat_map (peer_copies l.aus l.history) (take l.peer-index l.peers)
