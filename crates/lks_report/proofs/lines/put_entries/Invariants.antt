use Rattle.std.proofs.Common.{◌≡◌, ◌++◌, take, string_bytes}
use Rattle.std.specs.List.{flat_map, enumerate_from}
use Rattle.lks_report.specs.Text.{entry_line}
use Rattle.lks_report.proofs.lines.put_entries.Given as goal

abbrev pub invariant-loop-i : goal.invariant-loop-i
invariant-loop-i l =
    string_bytes l.out ≡ string_bytes l.initial.out
    ++ flat_map (λ n. entry_line n.0 n.1) (take l.i (enumerate_from 1 l.history))
