use Rattle.std.proofs.Common.{◌≡◌, ◌++◌, drop}
use Rattle.std.specs.List.{filter_map}
use Rattle.lks_law.specs.Entries.{note_with}
use Rattle.lks_law.specs.Turning.{has_inner_in}
use Rattle.lks_peer.proofs.notes.notes.Given as goal

abbrev pub invariant-loop-item : goal.invariant-loop-item
invariant-loop-item l =
    l.notes.items ++ filter_map (note_with (has_inner_in l.peer.state)) (drop l.item-index l.records)
    ≡ filter_map (note_with (has_inner_in l.peer.state)) l.records
