use Rattle.std.proofs.Common.{◌≡◌, ◌++◌, take, string_bytes}
use Rattle.std.specs.List.{flat_map}
use Rattle.lks_report.specs.Text.{opened_line}
use Rattle.lks_report.proofs.lines.put_peer_polls.Given as goal

abbrev pub invariant-loop-note : goal.invariant-loop-note
invariant-loop-note l =
    string_bytes l.out
    ≡ string_bytes l.initial.out ++ flat_map (opened_line l.peer.id l.notes) (take l.note-index l.notes)
