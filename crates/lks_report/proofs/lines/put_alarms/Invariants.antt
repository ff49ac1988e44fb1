use Rattle.std.proofs.Common.{◌≡◌, ◌++◌, ◌*◌, ◌≤◌, take, string_bytes}
use Rattle.std.specs.List.{flat_map, enumerate_from}
use Rattle.lks_report.specs.Scans.{tick_at}
use Rattle.lks_report.specs.Text.{entry_alarms}
use Rattle.lks_report.proofs.lines.put_alarms.Given as goal

abbrev pub invariant-loop-entry : goal.invariant-loop-entry
invariant-loop-entry l =
    (string_bytes l.out ≡ string_bytes l.initial.out
    ++ flat_map (λ n. entry_alarms (tick_at n.0 l.history) n.1) (take l.entry-index (enumerate_from 0 l.history)))
    × (l.tick ≡ tick_at l.entry-index l.history)
    × (l.tick ≤ l.entry-index * 4294967295)
