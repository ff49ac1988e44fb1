use Rattle.std.proofs.Common.{◌≡◌, ◌++◌, take, string_bytes}
use Rattle.std.specs.List.{flat_map}
use Rattle.lks_report.specs.Text.{alarm_line}
use Rattle.lks_report.proofs.lines.put_entry_alarms.Given as goal

abbrev pub invariant-loop-note : goal.invariant-loop-note
invariant-loop-note l =
    string_bytes l.out ≡ string_bytes l.initial.out ++ flat_map (alarm_line l.peer l.tick) (take l.note-index l.notes)
