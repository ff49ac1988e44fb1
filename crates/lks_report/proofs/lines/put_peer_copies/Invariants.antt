use Rattle.std.proofs.Common.{◌≡◌, ◌++◌, take, string_bytes}
use Rattle.std.specs.List.{flat_map}
use Rattle.lks_report.specs.Text.{copy_line}
use Rattle.lks_report.proofs.lines.put_peer_copies.Given as goal

abbrev pub invariant-loop-au : goal.invariant-loop-au
invariant-loop-au l =
    string_bytes l.out ≡ string_bytes l.initial.out ++ flat_map (copy_line l.peer l.notes.items) (take l.au-index l.aus)
